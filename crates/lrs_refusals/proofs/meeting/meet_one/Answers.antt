use Rattle.std.proofs.Common.{[], ◌∷◌, ◌++◌, Bool, ap, ◌∙◌}
use Rattle.lrs_refusals.proofs.meeting.meet_one.Goals as goal

pub returns-clause-held : goal.returns-clause-held
returns-clause-held c = c.in_ok-push.ensures.ok ∙ ap (λ (held : Bool). c.args.held.now ++ held ∷ []) c.in_ok-meeting.ensures.held
