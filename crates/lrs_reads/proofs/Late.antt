-- To a caller who is let in only an earlier list is refused.
use Rattle.std.proofs.Common.{◌≡◌, [], ◌∷◌, Option, Some, None, refl}
use Rattle.lrs_refusals.specs.LrsHistoryHistory.{refused_or}
use Rattle.lrs_replies.specs.declared.answered.Answered.{Answered}
use Rattle.lrs_replies.specs.declared.answered.Refusal.{Refusal}
use Rattle.lrs_ids.specs.Choices.{first_some}

pub late_alone : (late : Option Refusal) (said : Answered) → refused_or late said ≡ refused_or (first_some (None ∷ late ∷ [])) said
late_alone None said = refl
late_alone (Some r) said = refl
