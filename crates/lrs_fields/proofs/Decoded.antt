-- What is read of the value that a field holds is what the field holds.
use Rattle.std.proofs.Common.{◌≡◌, ◌≤◌, ℕ, List, [], ◌∷◌, map, Some, IsTrue, refl, ap, ◌∙◌, ◌<◌, ◌^◌, Bool, true, ◌&&◌, nat_lt, if◌then◌else◌, None, Result, arith}
use Rattle.std.specs.Result.{result_ok}
use Rattle.std.proofs.lemmas.Bool.{le-leb}
use Rattle.hex.specs.Hex.{IsBytes, encode_lower}
use Rattle.hex.proofs.HexLemmas.{decode_of-encode_lower}
use Rattle.lrs_agents.specs.Identifiers.{identifier_json, identifier_of}
use Rattle.lrs_agents.specs.declared.identifiers.Ifi.{Ifi}
use Rattle.lrs_agents.specs.declared.identifiers.Ifi.TheVariants.{Mbox, MboxSha1, OpenId, Account}
use Rattle.lrs_json.specs.Depth.{depth, depth_of_elements}
use Rattle.lrs_json.specs.Json.{array, string}
use Rattle.lrs_json.specs.Trees.{trees_of}
use Rattle.lrs_json.specs.View.{elements_of, view}
use Rattle.lrs_json.specs.declared.tree.Tree.{Tree}
use Rattle.lrs_json.proofs.Back.{back}
use Rattle.lrs_json.specs.declared.limits.TheConstants.{DEPTH}
use Rattle.lrs_names.specs.Ids.{IsId, id_text}
use Rattle.lrs_names.specs.Iris.{is_iri}
use Rattle.lrs_names.proofs.IdTexts.{id_of-id_text}
use Rattle.std.specs.Fmt.{decimal}
use Rattle.std.specs.Str.{bytes_eq}
use Rattle.std.specs.Str.Parse.{digits_value}
use Rattle.std.proofs.lemmas.Bool.Decides.{nat_tests}
use Rattle.std.proofs.lemmas.Fmt.{decimal_is_IsNumeral}
use Rattle.std.proofs.lemmas.Slice.Eq.{bytes_eq-Decides}
use Rattle.lrs_agent_texts.specs.Texts.{agent_json}
use Rattle.lrs_agent_texts.proofs.AgentTexts.{agent_json-IsAgentOf}
use Rattle.lrs_agents.specs.declared.agents.Agent.{Agent}
use Rattle.lrs_fields.proofs.Decoding.{actor_in, bytes_in, id_in, iri_in, number_of, tree_in, trees_in}

pub read_id : (id : List ℕ) → IsId id → id_in (string (id_text id)) ≡ Some id
read_id id is = id_of-id_text id is

pub read_iri : (text : List ℕ) → IsTrue (is_iri text) → iri_in (string text) ≡ Some text
read_iri text is = rw is refl

pub read_agent : (agent : Ifi) → identifier_of (identifier_json agent) ≡ Some agent
unfolding identifier_of
read_agent (Mbox text) = refl
read_agent (MboxSha1 text) = refl
read_agent (OpenId text) = refl
read_agent (Account home name) = refl

pub read_bytes : (bytes : List ℕ) → IsBytes bytes → bytes_in (string (encode_lower bytes)) ≡ Some bytes
read_bytes bytes are = ap result_ok (decode_of-encode_lower bytes are)

pub read_tree : (tree : Tree) → depth (view tree) ≤ DEPTH → tree_in (view tree) ≡ Some tree
read_tree tree shallow = rw (le-leb (depth (view tree)) DEPTH shallow, back tree) refl

trees_back : (trees : List Tree) → trees_of (elements_of (map view trees)) ≡ trees
trees_back [] = refl
trees_back (tree ∷ trees) = rw (back tree, trees_back trees) refl

pub read_trees : (trees : List Tree) → depth_of_elements (elements_of (map view trees)) ≤ DEPTH → trees_in (array (elements_of (map view trees))) ≡ Some trees
read_trees trees shallow = rw (le-leb (depth_of_elements (elements_of (map view trees))) DEPTH shallow, trees_back trees) refl

abbrev fits : List ℕ → ℕ → Bool
fits spelling n = bytes_eq spelling (decimal n) && nat_lt n (2 ^ 32)

fits_own : (n : ℕ) → n < 2 ^ 32 → fits (decimal n) n ≡ true
fits_own n small =
    let same : bytes_eq (decimal n) (decimal n) ≡ true = (bytes_eq-Decides (decimal n) (decimal n)).1 refl in
    let below : nat_lt n (2 ^ 32) ≡ true = grind (arith, nat_tests) in
    rw (same, below) refl

found : (spelling : List ℕ) (n m : ℕ) → m ≡ n → fits spelling n ≡ true → (if fits spelling m then Some m else None) ≡ Some n
found spelling n m same fit = ap (λ k. if fits spelling k then Some k else None) same ∙ ap (λ t. if t then Some n else None) fit

pub read_number : (n : ℕ) → n < 2 ^ 32 → number_of (decimal n) ≡ Some n
unfolding number_of
read_number n small =
    let value : digits_value 10 (decimal n) ≡ n = (decimal_is_IsNumeral n (omega (arith, small))).1 in
    found (decimal n) n (digits_value 10 (decimal n)) value (fits_own n small)

pub read_actor : (actor : Agent) → actor_in (agent_json actor) ≡ Some actor
read_actor actor = let is = agent_json-IsAgentOf actor in rw (is.ifi, is.name) refl
