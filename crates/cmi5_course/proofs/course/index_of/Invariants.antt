use Rattle.std.proofs.Common.{◌≡◌, drop}
use Rattle.std.specs.List.{position_from}
use Rattle.cmi5_course.specs.Courses.{is_unit_of}
use Rattle.cmi5_course.proofs.course.index_of.Given as goal

abbrev pub invariant-loop-index : goal.invariant-loop-index
invariant-loop-index l =
    position_from (is_unit_of l.id) 0 l.nodes ≡ position_from (is_unit_of l.id) l.index (drop l.index l.nodes)
