-- What the value of a member is, as it is of one kind: the proof that a text tells its entry goes by this.
use Rattle.std.specs.Prelude.{ℕ, ◌^◌, List, codes, nat_le, nat_lt, ◌&&◌, Option, Some, None, option_and_then, option_map, if◌then◌else◌}
use Rattle.std.specs.Fmt.{decimal}
use Rattle.std.specs.Result.{result_ok}
use Rattle.std.specs.Str.{bytes_eq}
use Rattle.std.specs.Str.Parse.{digits_value}
use Rattle.hex.specs.Hex.{decode_of}
use Rattle.lrs_agents.specs.Identifiers.{identifier_of}
use Rattle.lrs_agents.specs.declared.agents.Agent.{Agent}
use Rattle.lrs_json.specs.Depth.{depth, depth_of_elements}
use Rattle.lrs_json.specs.Json.{Json, number, array}
use Rattle.lrs_json.specs.Trees.{tree_of, trees_of}
use Rattle.lrs_json.specs.declared.limits.TheConstants.{DEPTH}
use Rattle.lrs_json.specs.declared.tree.Tree.{Tree}
use Rattle.lrs_json.specs.Parts.{text_in}
use Rattle.lrs_names.specs.Ids.{id_of}
use Rattle.lrs_names.specs.Iris.{is_iri}
use Rattle.lrs_names.specs.Members.{text_under}

abbrev pub id_in : Json → Option (List ℕ)
id_in value = option_and_then id_of (text_in value)

-- with at most `DEPTH` levels
abbrev pub tree_in : Json → Option Tree
tree_in value = if nat_le (depth value) DEPTH then Some (tree_of value) else None

-- each with at most `DEPTH` levels
abbrev pub trees_in : Json → Option (List Tree)
trees_in (array items) = if nat_le (depth_of_elements items) DEPTH then Some (trees_of items) else None
trees_in other = None

abbrev pub iri_of : List ℕ → Option (List ℕ)
iri_of text = if is_iri text then Some text else None

abbrev pub iri_in : Json → Option (List ℕ)
iri_in value = option_and_then iri_of (text_in value)

-- the bytes that digits spell, in either case
abbrev pub bytes_in : Json → Option (List ℕ)
bytes_in value = option_and_then (λ digits. result_ok (decode_of digits)) (text_in value)

-- the number below 2 ^ 32 whose decimal digits the spelling is
unfoldable pub number_of : List ℕ → Option ℕ
number_of spelling =
    let n = digits_value 10 spelling in
    if bytes_eq spelling (decimal n) && nat_lt n (2 ^ 32) then Some n else None

abbrev pub number_in : Json → Option ℕ
number_in (number spelling) = number_of spelling
number_in other = None

-- its identifier, and the text under `name`
abbrev pub actor_in : Json → Option Agent
actor_in value =
    option_map (λ ifi. record { ifi = ifi; name = text_under (codes "name") value }) (identifier_of value)
