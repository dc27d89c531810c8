-- The statements that are made from a seed, to load a store with.
use Rattle.std.specs.Prelude.{ℕ, zero, suc, ◌+◌, ◌-◌, ◌*◌, ◌/◌, ◌%◌, ◌^◌, ◌==◌, Bool, List, [], ◌∷◌, ◌++◌, map, codes}
use Rattle.std.specs.Prelude.{if◌then◌else◌, min}
use Rattle.std.specs.Fmt.{decimal}
use Rattle.std.specs.List.{range_with_len}
use Rattle.lrs_json.specs.Json.{Json, object, string}
use Rattle.lrs_json.specs.View.{members_of}
use Rattle.lrs_names.specs.Ids.{id_of_word, id_text}
use Rattle.lrs_generator.specs.declared.generator.TheConstants.{BATCH}

-- the number from which the i-th statement is made
abbrev pub number_at : ℕ → ℕ → ℕ
number_at seed zero = seed
number_at seed (suc i) = (number_at seed i * 6364136223846793005 + 1442695040888963407) % 2 ^ 64

-- its id
abbrev pub id_at : ℕ → ℕ → List ℕ
id_at seed i = id_of_word (seed * 2 ^ 32 + i)

-- it voids the one two indices before it
abbrev pub is_voiding : ℕ → Bool
is_voiding i = i % 50 == 49

-- it refers to the one before it, unless it voids
abbrev pub is_referring : ℕ → Bool
is_referring i = i % 10 == 9

abbrev pub account_json : ℕ → Json
account_json x = object (members_of
    ((codes "homePage", string (codes "https://l.invalid"))
    ∷ (codes "name", string (codes "u" ++ decimal (x / 2 ^ 50 % 20))) ∷ []))

abbrev pub actor_json : ℕ → Json
actor_json x = object (members_of ((codes "account", account_json x) ∷ []))

abbrev pub reference_json : List ℕ → Json
reference_json id =
    object (members_of ((codes "objectType", string (codes "StatementRef")) ∷ (codes "id", string (id_text id)) ∷ []))

abbrev pub id_json : List ℕ → Json
id_json iri = object (members_of ((codes "id", string iri) ∷ []))

abbrev pub verb_iri : ℕ → ℕ → List ℕ
verb_iri i x = if is_voiding i then codes "http://adlnet.gov/expapi/verbs/voided"
    else codes "http://v.invalid/" ++ decimal (x / 2 ^ 33 % 7)

abbrev pub object_json : ℕ → ℕ → ℕ → Json
object_json seed i x = if is_voiding i then reference_json (id_at seed (i - 2))
    else (if is_referring i then reference_json (id_at seed (i - 1))
    else id_json (codes "http://a.invalid/" ++ decimal (x / 2 ^ 40 % 50)))

-- The one that is made from the number x: {"id":I,"actor":A,"verb":V,"object":O}
abbrev pub statement_of : ℕ → ℕ → ℕ → Json
statement_of seed i x = object (members_of
    ((codes "id", string (id_text (id_at seed i)))
    ∷ (codes "actor", actor_json x)
    ∷ (codes "verb", id_json (verb_iri i x))
    ∷ (codes "object", object_json seed i x) ∷ []))

-- the i-th statement of a seed
abbrev pub statement_json : ℕ → ℕ → Json
statement_json seed i = statement_of seed i (number_at seed i)

-- ---- batches

-- How many statements batch j of n statements has: BATCH, but in the last.
abbrev pub length_of_batch : ℕ → ℕ → ℕ
length_of_batch n j = min BATCH (n - j * BATCH)

-- the statements of batch j
abbrev pub batch : ℕ → ℕ → ℕ → List Json
batch seed n j = map (statement_json seed) (range_with_len (j * BATCH) (length_of_batch n j))

-- how many batches n statements make
abbrev pub batch_count : ℕ → ℕ
batch_count n = (n + (BATCH - 1)) / BATCH
