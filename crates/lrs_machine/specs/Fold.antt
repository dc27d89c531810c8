-- The state that a desk's fold gives.
use Rattle.lrs_fold.specs.declared.fold.Fold.{Fold}
use Rattle.lrs_parts.specs.Parts.{state_of as parts_state}
use Rattle.lrs_parts.specs.State.{State}

abbrev pub state_of : Fold → State
state_of fold = parts_state fold.parts
