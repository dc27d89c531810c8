-- Whether an entry comes next, by the fold alone.
use Rattle.std.specs.Prelude.{◌≡◌, ◌&&◌, ◌||◌, Bool, true, false, not, is_none, nat_le, Option, Some, None}
use Rattle.lrs_reads.specs.LrsHistoryEffects.{effect}
use Rattle.lrs_reads.specs.LrsHistoryHistory.{is_founding}
pub use Rattle.lrs_reads.specs.LrsHistoryHistory.{may_come}
use Rattle.lrs_reads.specs.LrsHistoryRefusals.{refusal}
use Rattle.lrs_learning.specs.LrsStateState.{State, changes_nothing}
use Rattle.lrs_learning.specs.LrsStateEffectEffect.{Effect}
use Rattle.lrs_record.specs.declared.entry.Entry.{Entry}

-- Whether an entry comes next, if there is room for it and it changes anything. The flag: it is the first.
abbrev pub may_be_next : Bool → State → Entry → Bool
may_be_next true st e = is_founding e
may_be_next false st e = is_none (refusal st e) && nat_le st.last e.moment

-- its effect, if it is the first or changes anything
abbrev pub Changes : Bool → State → Entry → Option Effect → Type 0
Changes first st e (Some x) = (first || not (changes_nothing (effect st e)) ≡ true) × (x ≡ effect st e)
Changes first st e None = first || not (changes_nothing (effect st e)) ≡ false

-- its effect, exactly if it comes next
abbrev pub Comes : Bool → State → Entry → Option Effect → Type 0
Comes first st e (Some x) = (may_come first st e ≡ true) × (x ≡ effect st e)
Comes first st e None = may_come first st e ≡ false
