-- A unit breaks no rule.
use Rattle.std.proofs.Common.{sym, ap, ◌∙◌}
use Rattle.std.specs.Prelude.{option_and_then, slice_get}
use Rattle.lrs_json.specs.View.{view}
use Rattle.cmi5_course.proofs.UnitLaws.{node_sound, all_sound}
use Rattle.cmi5_course.proofs.course.Course.unit_at.Goals as goal

pub returns-clause-sound : goal.returns-clause-sound
returns-clause-sound c =
    all_sound c.unit_in.result
    (λ unit e. node_sound
    (view c.self.inside.tree) c.self.inside.nodes c.args.index unit c.self.invariant.read c.self.invariant.unbroken
    (ap (λ ns. option_and_then (λ node. node.unit) (slice_get ns c.args.index)) (sym c.as_slice.ensures)
    ∙ sym c.unit_in.ensures ∙ e))
