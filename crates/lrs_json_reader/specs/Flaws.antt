-- Where a name is repeated, and where a number is out of range.
use Rattle.std.specs.Prelude.{ℕ, max, List, [], ◌∷◌, ◌++◌, Option, Some, None, if◌then◌else◌}
use Rattle.lrs_decimal.specs.Range.{is_in_range}
use Rattle.lrs_json.specs.Names.{is_among}
use Rattle.lrs_json_reader.specs.Located.{Located, null, boolean, number, string, array, object, Elements, no_elements}
use Rattle.lrs_json_reader.specs.Located.{element, Members, no_members, member}

-- The names that equal an earlier name of the same object, each by the bytes that are left from its quote on.
abbrev mutual
  pub repeated_names : Located → List ℕ
  repeated_names null = []
  repeated_names (boolean b) = []
  repeated_names (number left s) = []
  repeated_names (string s) = []
  repeated_names (array ps) = repeated_in_elements ps
  repeated_names (object ms) = repeated_in_members [] ms

  pub repeated_in_elements : Elements → List ℕ
  repeated_in_elements no_elements = []
  repeated_in_elements (element p ps) = repeated_names p ++ repeated_in_elements ps

  -- after members of these names
  pub repeated_in_members : List (List ℕ) → Members → List ℕ
  repeated_in_members names no_members = []
  repeated_in_members names (member left k p ms) = (if is_among k names then left ∷ [] else [])
      ++ (repeated_names p ++ repeated_in_members (k ∷ names) ms)

-- The numbers that are out of range, each by the bytes that are left from its first byte on.
abbrev mutual
  pub out_of_range_numbers : Located → List ℕ
  out_of_range_numbers null = []
  out_of_range_numbers (boolean b) = []
  out_of_range_numbers (number left s) = if is_in_range s then [] else left ∷ []
  out_of_range_numbers (string s) = []
  out_of_range_numbers (array ps) = out_of_range_in_elements ps
  out_of_range_numbers (object ms) = out_of_range_in_members ms

  pub out_of_range_in_elements : Elements → List ℕ
  out_of_range_in_elements no_elements = []
  out_of_range_in_elements (element p ps) = out_of_range_numbers p ++ out_of_range_in_elements ps

  pub out_of_range_in_members : Members → List ℕ
  out_of_range_in_members no_members = []
  out_of_range_in_members (member left k p ms) = out_of_range_numbers p ++ out_of_range_in_members ms

-- the earlier of two offsets, by the bytes that are left
abbrev pub earlier : Option ℕ → Option ℕ → Option ℕ
earlier a None = a
earlier None (Some b) = Some b
earlier (Some a) (Some b) = Some (max a b)

-- The earliest has the most bytes left.
abbrev pub earliest : List ℕ → Option ℕ
earliest [] = None
earliest (left ∷ lefts) = earlier (Some left) (earliest lefts)
