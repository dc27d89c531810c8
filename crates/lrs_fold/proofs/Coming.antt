-- Whether an entry comes next: it isn't refused, comes in time, and changes anything.
use Rattle.std.proofs.Common.{◌≡◌, Bool, true, false, not, ◌&&◌, ◌||◌, Option, Some, None, refl, ap, ◌∙◌}
use Rattle.std.specs.Prelude.{is_none, nat_le, option_map}
use Rattle.std.specs.Option.{option_or}
use Rattle.lrs_fold.specs.Next.{may_be_next, may_come, Changes, Comes}
use Rattle.lrs_reads.specs.LrsHistoryAnswers.{write_said}
use Rattle.lrs_reads.specs.LrsHistoryEffects.{effect}
use Rattle.lrs_reads.specs.LrsHistoryHistory.{is_founding, refused}
use Rattle.lrs_reads.specs.LrsHistoryRefusals.{refusal}
use Rattle.lrs_learning.specs.LrsStateState.{State, changes_nothing}
use Rattle.lrs_learning.specs.LrsStateEffectEffect.{Effect}
use Rattle.lrs_record.specs.declared.entry.Entry.{Entry}
use Rattle.lrs_replies.specs.declared.answered.Answered.{Answered}
use Rattle.lrs_replies.specs.declared.answered.Refusal.{Refusal}
use Rattle.lrs_ids.specs.Choices.{when}

unsaid : (r : Option Refusal) (b : Bool) (a : Answered) → is_none (option_or (option_map refused r) (when b a)) ≡ is_none r && not b
unsaid None true a = refl
unsaid None false a = refl
unsaid (Some r) b a = refl

with_true : (a : Bool) → a ≡ a && true
with_true true = refl
with_true false = refl

with_false : (a : Bool) → false ≡ a && false
with_false true = refl
with_false false = refl

moved : (a b c : Bool) → (a && b) && c ≡ (a && c) && b
moved true true c = with_true c
moved true false c = with_false c
moved false b c = refl

come_is : (first : Bool) (st : State) (e : Entry) → may_come first st e ≡ may_be_next first st e && (first || not (changes_nothing (effect st e)))
come_is true st e = with_true (is_founding e)
come_is false st e =
    ap (λ b. b && nat_le st.last e.moment) (unsaid (refusal st e) (changes_nothing (effect st e)) (write_said (effect st e)))
    ∙ moved (is_none (refusal st e)) (not (changes_nothing (effect st e))) (nat_le st.last e.moment)

pub comes : (first : Bool) (st : State) (e : Entry) (o : Option Effect) → may_be_next first st e ≡ true → Changes first st e o → Comes first st e o
comes first st e (Some x) may is = (come_is first st e ∙ (ap (λ b. b && (first || not (changes_nothing (effect st e)))) may ∙ is.0), is.1)
comes first st e None may is = come_is first st e ∙ (ap (λ b. b && (first || not (changes_nothing (effect st e)))) may ∙ is)

pub stays : (first : Bool) (st : State) (e : Entry) → may_be_next first st e ≡ false → may_come first st e ≡ false
stays first st e may = come_is first st e ∙ ap (λ b. b && (first || not (changes_nothing (effect st e)))) may
