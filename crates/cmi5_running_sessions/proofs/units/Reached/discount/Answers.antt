use Rattle.std.proofs.Common.{◌∙◌, Bool, ap}
use Rattle.cmi5_session.specs.Counting.{one_less}
use Rattle.cmi5_running_sessions.proofs.Counting.{same_counts}
use Rattle.cmi5_running_sessions.proofs.units.Reached.discount.Goals as goal

pub returns : goal.returns
returns c =
    let r = c.args.self.now in
    same_counts _ _ _ _ (c.one_less.ensures ∙ ap (λ (b : Bool). one_less r.completed b) c.says.ensures) (c.one_less-2.ensures ∙ ap (λ (b : Bool). one_less r.passed b) c.says-2.ensures)
