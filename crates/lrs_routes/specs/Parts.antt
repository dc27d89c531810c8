-- The part of a path that stands for the parameter of a route's pattern, as it is sent: undecoded.
use Rattle.std.specs.Prelude.{ℕ, List, [], drop, length, nat_eq, ◌==◌, Bool, if◌then◌else◌, Option, Some, option_map}
use Rattle.std.specs.List.{before_first, starts_with}
use Rattle.lrs_names.specs.Ids.{id_of}
use Rattle.lrs_routes.specs.declared.values.PartValue.{PartValue}
use Rattle.lrs_routes.specs.declared.values.PartValue.TheVariants as part

-- What the part is to be: none is looked at; any text; or an id. With what stands before it in the pattern.
pub data PartForm : Type 0 where
  no_part : PartForm
  text_part : List ℕ → PartForm
  id_part : List ℕ → PartForm

abbrev pub is_slash : ℕ → Bool
is_slash b = b == 47

-- what stands in the path behind that beginning, up to the next slash; nothing, if the path begins otherwise
abbrev pub part_behind : List ℕ → List ℕ → List ℕ
part_behind beginning path =
    if starts_with nat_eq path beginning then before_first is_slash (drop (length beginning) path) else []

-- what the part is; None if it is no id where one is asked for
abbrev pub part_of : PartForm → List ℕ → Option PartValue
part_of no_part path = Some part.Nothing
part_of (text_part beginning) path = Some (part.Text (part_behind beginning path))
part_of (id_part beginning) path = option_map (λ id. part.Id id) (id_of (part_behind beginning path))

-- such a value as a part of this form gives
abbrev pub OfPart : PartForm → PartValue → Type 0
OfPart no_part part.Nothing = Unit {0}
OfPart (text_part beginning) (part.Text text) = Unit {0}
OfPart (id_part beginning) (part.Id id) = Unit {0}
OfPart form value = ⊥
