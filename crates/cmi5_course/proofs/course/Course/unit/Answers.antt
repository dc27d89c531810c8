-- The index is counted from 0 on, and a unit stands there.
use Rattle.std.proofs.Common.{ap, sym, ◌∙◌}
use Rattle.std.specs.Prelude.{position}
use Rattle.std.proofs.lemmas.Iterator.Adapters.{position_from-zero}
use Rattle.lrs_json.specs.View.{view}
use Rattle.cmi5_course.specs.Courses.{is_unit_of, index_of_unit}
use Rattle.cmi5_course.proofs.UnitLaws.{unit_stands}
use Rattle.cmi5_course.proofs.course.Course.unit.Goals as goal

pub returns-in-Some-clause-value : goal.returns-in-Some-clause-value
returns-in-Some-clause-value c =
    c.in-Some.ensures.value ∙ sym (position_from-zero (is_unit_of c.args.id.now) c.as_slice.result.now)
    ∙ ap (position (is_unit_of c.args.id.now)) c.as_slice.ensures ∙ ap (index_of_unit c.args.id.now) c.self.view_is

pub returns-in-Some-clause-stands : goal.returns-in-Some-clause-stands
returns-in-Some-clause-stands c =
    rw (← c.self.view_is)
    (unit_stands (view c.self.inside.tree) c.self.inside.nodes c.args.id.now c.in-Some.index c.self.invariant.read
    (sym (c.in-Some.ensures.value ∙ sym (position_from-zero (is_unit_of c.args.id.now) c.as_slice.result.now)
    ∙ ap (position (is_unit_of c.args.id.now)) c.as_slice.ensures)))

pub returns-in-None-clause-value : goal.returns-in-None-clause-value
returns-in-None-clause-value c =
    c.in-None.ensures.value ∙ sym (position_from-zero (is_unit_of c.args.id.now) c.as_slice.result.now)
    ∙ ap (position (is_unit_of c.args.id.now)) c.as_slice.ensures ∙ ap (index_of_unit c.args.id.now) c.self.view_is
