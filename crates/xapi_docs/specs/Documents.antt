-- The documents in the order of their keys, at most one under a key: which one a key names, and the ids of many.
use Rattle.std.specs.Prelude.{ℕ, ℤ, ◌&&◌, int_lt, not, Bool, true, List, filter, map, Option}
use Rattle.std.specs.BTreeMap.{insert_entry, is_at}
use Rattle.std.specs.List.{list_any}
use Rattle.std.specs.Map.{lookup}
use Rattle.std.specs.Option.{option_map_or}
use Rattle.lrs_agents.specs.declared.identifiers.Ifi.{Ifi}
use Rattle.lrs_time.specs.Timestamp.{instant_of_moment}
use Rattle.xapi_keys.specs.Keys.{is_of, is_same_key, is_state, key_cmp}
use Rattle.xapi_docs.specs.declared.documents.Document.{Document}
use Rattle.xapi_keys.specs.declared.state_key.StateKey.{StateKey}

abbrev pub Documents : Type 0
Documents = List (StateKey × Document)

-- the document that is held under a key
abbrev pub document_under : StateKey → Documents → Option Document
document_under key documents = lookup (is_at (key_cmp key)) documents

-- ---- what is written and dropped

-- it takes the place of the one under its key, or comes where the order of keys has it
abbrev pub with_document : StateKey → Document → Documents → Documents
with_document key document documents = insert_entry key_cmp documents key document

abbrev pub is_one_of_keys : List StateKey → StateKey → Bool
is_one_of_keys keys key = list_any (λ k. is_same_key k key) keys

-- without those of these keys
abbrev pub without_documents : List StateKey → Documents → Documents
without_documents keys documents = filter (λ held. not (is_one_of_keys keys held.0)) documents

-- ---- those of an activity, an agent and a registration

-- the keys of all of them, or of the one of that state id
abbrev pub keys_in : List ℕ → Ifi → Option (List ℕ) → Option (List ℕ) → Documents → List StateKey
keys_in activity agent registration state documents =
    map (λ held. held.0) (filter (λ held. is_of activity agent registration held.0 && is_state state held.0) documents)

-- it was written later than that, where an instant is given
abbrev pub is_later : Option ℤ → Document → Bool
is_later since document = option_map_or (λ first. int_lt first (instant_of_moment document.moment)) since true

-- The state ids of those that were written later, in the order of their keys, which is that of the ids' bytes.
abbrev pub ids_in : List ℕ → Ifi → Option (List ℕ) → Option ℤ → Documents → List (List ℕ)
ids_in activity agent registration since documents =
    map (λ held. held.0.state)
    (filter (λ held. is_of activity agent registration held.0 && is_later since held.1) documents)
