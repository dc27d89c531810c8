use Rattle.std.proofs.Common.{Bool, true, ap, ◌∙◌}
use Rattle.lrs_made.specs.Cmi5SessionViews.{view_of}
use Rattle.lrs_refusals.proofs.meeting.session_of.Goals as goal

pub returns : goal.returns
returns c =
    c.session_view.ensures ∙ ap (λ (gone : Bool). view_of c.args.launch.now true gone c.args.parts.now.statements.held) c.was_abandoned.ensures
