use Rattle.std.proofs.Common.{◌∙◌, Bool, ap}
use Rattle.cmi5_session.specs.Counting.{one_more}
use Rattle.cmi5_running_sessions.proofs.Counting.{same_counts}
use Rattle.cmi5_running_sessions.proofs.units.Reached.count.Goals as goal

pub returns : goal.returns
returns c =
    let r = c.args.self.now in
    same_counts _ _ _ _ (c.one_more.ensures ∙ ap (λ (b : Bool). one_more r.completed b) c.says.ensures) (c.one_more-2.ensures ∙ ap (λ (b : Bool). one_more r.passed b) c.says-2.ensures)
