-- A pass from one step to the next.
use Rattle.std.proofs.Common.{◌≡◌, ℕ, List, Bool, Option, Result, refl, subst, ◌∙◌}
use Rattle.lrs_http.specs.declared.request.Request.{Request}
use Rattle.lrs_machine.specs.Acts.{Receipt}
use Rattle.lrs_machine.specs.Line.{Record}
use Rattle.lrs_turn.specs.Passes.{IsIdle, Pass, Turns}
use Rattle.lrs_turn.proofs.Steps.{none_falls_same, none_falls_then}
use Rattle.lrs_hall.specs.Acts.{SeenAndClock, limit_in}
use Rattle.lrs_hall.specs.Conversation.{Worker}
use Rattle.lrs_hall.specs.Serving.{KeepsPass}
use Rattle.lrs_hall.specs.Steps.{Serves}

-- ---- passes

pub kept_still : (turns : Turns) (pass : Pass Record) → IsIdle turns pass → KeepsPass turns pass pass
kept_still turns pass idle = record { idle = idle; marks = refl; opening = refl; tide = none_falls_same pass.tide }

pub kept_then : (turns : Turns) (old mid new : Pass Record) → KeepsPass turns old mid → KeepsPass turns mid new → KeepsPass turns old new
kept_then turns old mid new first more =
    record {
      idle = more.idle;
      marks = more.marks ∙ first.marks;
      opening = more.opening ∙ first.opening;
      tide = none_falls_then old.tide mid.tide new.tide first.tide more.tide;
    }

-- ---- a request that is answered with the pass of a moment later, which has seen no more

pub serves_later : {T E : Type 0} (closes : Bool) (request : Request) (old mid new : Worker SeenAndClock) (marks later : List ℕ) (receipt : Receipt) (sent : Result T E) (before now : Option (List ℕ))
    → later ≡ marks → mid ≡ old → Serves (limit_in later) closes request mid new receipt sent before now → Serves (limit_in marks) closes request old new receipt sent before now
serves_later closes request old mid new marks later receipt sent before now same is serves =
    subst (λ (w : Worker SeenAndClock). Serves (limit_in marks) closes request w new receipt sent before now) is
    (subst (λ (ms : List ℕ). Serves (limit_in ms) closes request mid new receipt sent before now) same serves)
