use Rattle.std.proofs.Common.{◌≡◌}
use Rattle.std.specs.List.{list_all}
use Rattle.form_urlencoded.specs.Parse.{raw_pairs_left}
use Rattle.cmi5_course.specs.Urls.{is_free, keeps_free}
use Rattle.cmi5_course.proofs.urls.keeps_free.Given as goal

abbrev pub invariant-loop-name : goal.invariant-loop-name
invariant-loop-name l =
    (goal.iterator-loop-name).can_next l.name-iterator
    × (goal.iterator-loop-name).is_finite l.name-iterator
    × (keeps_free l.query ≡ list_all is_free (raw_pairs_left l.name-iterator))
