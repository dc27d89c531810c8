-- What is told of nodes by what was said of each, and by marks: one for each, in the order of the text.
use Rattle.std.specs.Prelude.{ℕ, ◌&&◌, ◌||◌, Bool, true, false, not, List, get_or}
use Rattle.std.specs.List.{list_all}
use Rattle.std.specs.Option.{option_map_or}
use Rattle.cmi5_course.specs.declared.course.Node.{Node}
use Rattle.cmi5_verdict.specs.Nodes.{is_under, is_unit_in, indices, unit_in}
use Rattle.cmi5_verdict.specs.Said.{meets, said_of}
use Rattle.cmi5_verdict.specs.declared.said.Said.{Said}

abbrev pub is_marked : List Bool → ℕ → Bool
is_marked marks index = get_or marks index false

-- the node is met by what was said of each, if it is a unit
abbrev pub is_met_by : List Node → List Said → ℕ → Bool
is_met_by nodes said index = option_map_or (λ unit. meets unit.move_on (said_of said index)) (unit_in nodes index) true

-- the node is met, or stands elsewhere
abbrev pub is_met_or_elsewhere : List Node → List Said → ℕ → ℕ → Bool
is_met_or_elsewhere nodes said holder index = is_met_by nodes said index || not (is_under nodes holder index)

-- so it is of each node
abbrev pub is_satisfied_by : List Node → List Said → ℕ → Bool
is_satisfied_by nodes said holder = list_all (is_met_or_elsewhere nodes said holder) (indices nodes)

-- no unit, satisfied, and not said yet
abbrev pub is_owed_by : List Node → List Bool → List Said → ℕ → Bool
is_owed_by nodes is_satisfied said index =
    not (is_unit_in nodes index) && is_marked is_satisfied index && not (said_of said index).satisfied
