-- The positions that stand under each key.
use Rattle.std.specs.Prelude.{◌≡◌, ◌==◌, ◌-◌, ℕ, Bool, false, List, [], ◌∷◌, ◌++◌, length, slice_get, if◌then◌else◌}
use Rattle.std.specs.Map.{lookup}
use Rattle.std.specs.Option.{option_map_or}
use Rattle.xapi_statement_keys.specs.Keys.{is_same_key}
use Rattle.xapi_statement_keys.specs.declared.key.Key.{Key}

-- the positions under a key; under one that has none, none
abbrev pub posting_of : Key → List (Key × List ℕ) → List ℕ
posting_of key postings = option_map_or (λ ks. ks) (lookup (is_same_key key) postings) []

-- ---- changes

abbrev pub is_last : ℕ → List ℕ → Bool
is_last k ks = option_map_or (λ last. last == k) (slice_get ks (length ks - 1)) false

-- a position is put at the end, if it isn't there yet
abbrev pub posted : ℕ → List ℕ → List ℕ
posted k ks = if is_last k ks then ks else ks ++ k ∷ []

-- a position is put where none stands
abbrev pub posted_if_none : ℕ → List ℕ → List ℕ
posted_if_none k [] = k ∷ []
posted_if_none k (j ∷ ks) = j ∷ ks

-- the posting of a key is changed by a function, and no other
abbrev pub Changes : Key → (List ℕ → List ℕ) → List (Key × List ℕ) → List (Key × List ℕ) → Type 0
Changes key change old new = (k : Key) → posting_of k new ≡
    (if is_same_key key k then change (posting_of k old) else posting_of k old)

-- each key has the same posting
abbrev pub SamePostings : List (Key × List ℕ) → List (Key × List ℕ) → Type 0
SamePostings old new = (k : Key) → posting_of k new ≡ posting_of k old
