-- A JSON value whose numbers and names know where they stand: by how many bytes the text has left from their first byte
-- on.
use Rattle.std.specs.Prelude.{ℕ, List, Bool}
use Rattle.lrs_json.specs.Json as Json

mutual
  pub data Located : Type 0 where
    null : Located
    boolean : Bool → Located
    number : ℕ → List ℕ → Located
    string : List ℕ → Located
    array : Elements → Located
    object : Members → Located

  pub data Elements : Type 0 where
    no_elements : Elements
    element : Located → Elements → Elements

  pub data Members : Type 0 where
    no_members : Members
    member : ℕ → List ℕ → Located → Members → Members

-- the same value, without the offsets
abbrev mutual
  pub plain : Located → Json.Json
  plain null = Json.null
  plain (boolean b) = Json.boolean b
  plain (number left s) = Json.number s
  plain (string s) = Json.string s
  plain (array ps) = Json.array (plain_elements ps)
  plain (object ms) = Json.object (plain_members ms)

  pub plain_elements : Elements → Json.Elements
  plain_elements no_elements = Json.no_elements
  plain_elements (element p ps) = Json.element (plain p) (plain_elements ps)

  pub plain_members : Members → Json.Members
  plain_members no_members = Json.no_members
  plain_members (member left k p ms) = Json.member k (plain p) (plain_members ms)
