-- What an entry changes, by its write.
use Rattle.std.proofs.Common.{◌≡◌, ℕ, IfOk, Result, sym, subst}
use Rattle.lrs_command.specs.declared.who.Who.{Who}
use Rattle.lrs_fold.specs.Written.{effect_by}
use Rattle.lrs_names.specs.declared.draw.Draw.{Draw}
use Rattle.lrs_learning.specs.LrsStateState.{State}
use Rattle.lrs_learning.specs.LrsStateEffectEffect.{Effect}
use Rattle.lrs_record.specs.declared.entry.Write.{Write}

-- what is made of a write, where memory suffices
abbrev pub GivesEffect : {E : Type 0} → State → Who → ℕ → Draw → Result Effect E → Write → Type 0
GivesEffect st by moment draw made write = IfOk made (λ (x : Effect). x ≡ effect_by st by moment draw write)

-- what is made of a write is made of any that is equal to it
pub gives : {E : Type 0} (st : State) (by : Who) (moment : ℕ) (draw : Draw) (made : Result Effect E) (w v : Write) → w ≡ v → GivesEffect st by moment draw made v → GivesEffect st by moment draw made w
gives st by moment draw made w v is given = subst (GivesEffect st by moment draw made) (sym is) given
