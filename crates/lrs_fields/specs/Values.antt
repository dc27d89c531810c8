-- What a field can hold, the value of JSON that it is kept as, and what is true of every field that is kept.
use Rattle.std.specs.Prelude.{ℕ, ◌<◌, ◌^◌, List, [], ◌∷◌, map, Option, Some, None, IfSome, IsTrue, IsUtf8}
use Rattle.std.specs.Fmt.{decimal}
use Rattle.std.specs.List.{AllByRecursion}
use Rattle.hex.specs.Hex.{IsBytes, encode_lower}
use Rattle.lrs_agents.specs.Identifiers.{identifier_json}
use Rattle.lrs_agents.specs.declared.agents.Agent.{Agent}
use Rattle.lrs_agents.specs.declared.identifiers.Ifi.{Ifi}
use Rattle.lrs_agents.specs.declared.identifiers.Ifi.TheVariants.{Mbox, MboxSha1, OpenId, Account}
use Rattle.lrs_agent_texts.specs.Texts.{agent_json}
use Rattle.lrs_fields.specs.declared.lent.Lent.{Lent}
use Rattle.lrs_json.specs.Fits.{IsReadable}
use Rattle.lrs_json.specs.Json.{Json, number, string, array}
use Rattle.lrs_json.specs.View.{view, elements_of}
use Rattle.lrs_json.specs.declared.limits.TheConstants.{DEPTH}
use Rattle.lrs_json.specs.declared.tree.Tree.{Tree}
use Rattle.lrs_names.specs.Ids.{IsId, id_text}
use Rattle.lrs_names.specs.Iris.{is_iri}

pub data Value : Type 0 where
  text_value : List ℕ → Value
  id_value : List ℕ → Value
  tree_value : Tree → Value
  trees_value : List Tree → Value
  iri_value : List ℕ → Value
  agent_value : Ifi → Value
  bytes_value : List ℕ → Value
  actor_value : Agent → Value
  number_value : ℕ → Value

-- bytes are spelled in lower-case hexadecimal digits, a number in decimal digits alone
abbrev pub value_json : Value → Json
value_json (text_value t) = string t
value_json (id_value i) = string (id_text i)
value_json (tree_value t) = view t
value_json (trees_value ts) = array (elements_of (map view ts))
value_json (iri_value t) = string t
value_json (agent_value ifi) = identifier_json ifi
value_json (bytes_value bytes) = string (encode_lower bytes)
value_json (actor_value actor) = agent_json actor
value_json (number_value n) = number (decimal n)

-- the members that the fields are kept as
abbrev pub members_for : List (List ℕ × Value) → List (List ℕ × Json)
members_for fields = map (λ field. (field.0, value_json field.1)) fields

-- a field, where there is a value for it
abbrev pub optional_field : {A : Type 0} → List ℕ → (A → Value) → Option A → List (List ℕ × Value)
optional_field name value None = []
optional_field name value (Some a) = (name, value a) ∷ []

-- the value that is lent
abbrev pub lent : Lent → Value
lent (Lent.Text t) = text_value t.now
lent (Lent.Id i) = id_value i.now
lent (Lent.Tree t) = tree_value t.now
lent (Lent.Trees ts) = trees_value ts.now
lent (Lent.Received t) = tree_value t.now
lent (Lent.AllReceived ts) = trees_value ts.now
lent (Lent.Word w) = text_value w.now
lent (Lent.Iri i) = iri_value i.now
lent (Lent.Agent ifi) = agent_value ifi.now
lent (Lent.Bytes bytes) = bytes_value bytes.now
lent (Lent.Actor actor) = actor_value actor.now
lent (Lent.Number n) = number_value n

-- ---- what is lawful

-- a tree such as reading gives, with at most `DEPTH` levels
abbrev pub IsLawfulTree : Json → Type 0
IsLawfulTree tree = IsReadable DEPTH tree

abbrev pub AreLawfulTrees : List Tree → Type 0
AreLawfulTrees trees = AllByRecursion (λ tree. IsLawfulTree (view tree)) trees

abbrev pub IsLawfulValue : Value → Type 0
IsLawfulValue (text_value t) = Unit {0}
IsLawfulValue (id_value i) = Unit {0}
IsLawfulValue (tree_value t) = IsLawfulTree (view t)
IsLawfulValue (trees_value ts) = AreLawfulTrees ts
IsLawfulValue (iri_value t) = Unit {0}
IsLawfulValue (agent_value ifi) = Unit {0}
IsLawfulValue (bytes_value bytes) = Unit {0}
IsLawfulValue (actor_value actor) = Unit {0}
IsLawfulValue (number_value n) = Unit {0}

-- ---- what the types ensure

-- Each text is UTF-8.
abbrev pub HoldsAgent : Ifi → Type 0
HoldsAgent (Mbox text) = IsUtf8 text
HoldsAgent (MboxSha1 text) = IsUtf8 text
HoldsAgent (OpenId text) = IsUtf8 text
HoldsAgent (Account home name) = IsUtf8 home × IsUtf8 name

abbrev pub HoldsActor : Agent → Type 0
HoldsActor actor = HoldsAgent actor.ifi × IfSome actor.name IsUtf8

-- A text is UTF-8, an id has its sixteen bytes, an IRI is one, bytes are such, and a number is below 2 ^ 32.
abbrev pub HoldsValue : Value → Type 0
HoldsValue (text_value t) = IsUtf8 t
HoldsValue (id_value i) = IsId i
HoldsValue (tree_value t) = Unit {0}
HoldsValue (trees_value ts) = Unit {0}
HoldsValue (iri_value t) = IsUtf8 t × IsTrue (is_iri t)
HoldsValue (agent_value ifi) = HoldsAgent ifi
HoldsValue (bytes_value bytes) = IsBytes bytes
HoldsValue (actor_value actor) = HoldsActor actor
HoldsValue (number_value n) = n < 2 ^ 32
