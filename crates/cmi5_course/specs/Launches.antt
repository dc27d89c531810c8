-- Launched units.
use Rattle.std.specs.Prelude.{ℕ, List}
use Rattle.cmi5_course.specs.declared.launch.Launch.{Launch}

-- the id of its session
abbrev pub session_of : Launch → List ℕ
session_of launch = launch.session
