-- What is counted of registrations, in the order in which they were made.
use Rattle.std.specs.Prelude.{◌≡◌, ◌≤◌, ℕ, List, Option, Some, slice_get}
use Rattle.cmi5_running_verdicts.specs.Tallies.{AreTallies}
use Rattle.cmi5_running_verdicts.specs.declared.tally.Tally.{Tally}
use Rattle.cmi5_verdict.specs.Cmi5SessionMarked.{MarkedStatement}
use Rattle.cmi5_verdict.specs.Nodes.{SeenEnrolment}

-- The tallies of each registration, those of one that is to come, and for how many more there is room.
pub record SeenRunning : Type 0 where
  pub held : List (List Tally)
  pub coming : Option (List Tally)
  pub spare : ℕ

-- the registration of that number has tallies, which stand for these statements
pub record TalliesStandFor (r : SeenRunning) (those : List MarkedStatement) (number : ℕ) (e : SeenEnrolment)
    : Type 0 where
  pub tallies : List Tally
  pub held : slice_get r.held number ≡ Some tallies
  pub are : AreTallies e those tallies

-- There are tallies for a registration that comes, which stand for these statements, and room for them.
pub record HasCounted (r : SeenRunning) (those : List MarkedStatement) (e : SeenEnrolment) : Type 0 where
  pub tallies : List Tally
  pub coming : r.coming ≡ Some tallies
  pub are : AreTallies e those tallies
  pub room : 1 ≤ r.spare
