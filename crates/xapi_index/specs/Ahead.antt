-- How positions are written ahead for statements that are to come, and taken back.
use Rattle.std.specs.Prelude.{◌≡◌, ◌⊎◌, ◌++◌, ◌&&◌, not, ℕ, Bool, true, false, List, [], ◌∷◌, length, if◌then◌else◌}
use Rattle.lrs_json.specs.declared.tree.Tree.{Tree}
use Rattle.xapi_index.specs.Index.{ArePosted, is_coming}
use Rattle.xapi_postings.specs.Ascending.{positions_with}
use Rattle.xapi_postings.specs.Postings.{posting_of}
use Rattle.xapi_postings.specs.XapiStatementStored.{StoredStatement}
use Rattle.xapi_postings.specs.XapiStatementKeysKeys.{has_key, is_among, is_same_key}
use Rattle.xapi_postings.specs.XapiStatementKeysKeyKey.{Key}

-- ---- changes of many postings

-- the postings of the keys that pass are changed by a function, and no others
abbrev pub ChangesEach : (Key → Bool) → (List ℕ → List ℕ) → List (Key × List ℕ) → List (Key × List ℕ) → Type 0
ChangesEach passes change old new = (key : Key) → posting_of key new ≡
    (if passes key then change (posting_of key old) else posting_of key old)

-- of the postings of the keys that pass some are changed by a function, and no others
abbrev pub ChangesSome : (Key → Bool) → (List ℕ → List ℕ) → List (Key × List ℕ) → List (Key × List ℕ) → Type 0
ChangesSome passes change old new = (key : Key) → (posting_of key new ≡ posting_of key old)
    ⊎ ((passes key ≡ true) × (posting_of key new ≡ change (posting_of key old)))

-- it is one of the keys, and not that one
abbrev pub is_other : Key → List Key → Key → Bool
is_other own keys k = is_among k keys && not (is_same_key own k)

-- ---- statements that are to come

-- Those that are held stand under their keys, and behind them those that are to come, whose keys are kept.
pub record StandAhead (held ahead : List StoredStatement) (postings : List (Key × List ℕ))
    (coming : List (List Key)) : Type 0 where
  pub posted : ArePosted (held ++ ahead) postings
  pub long : length ahead ≡ length coming
  pub others : (key : Key) → is_coming key coming ≡ false
      → positions_with (has_key key) (held ++ ahead) ≡ positions_with (has_key key) held

-- ---- texts that were written before

-- These are the texts of the first ones of these statements.
abbrev pub AreTextsOf : List Tree → List StoredStatement → Type 0
AreTextsOf [] ss = Unit {0}
AreTextsOf (t ∷ ts) [] = ⊥
AreTextsOf (t ∷ ts) (s ∷ ss) = (t ≡ s.received) × AreTextsOf ts ss

-- the first of these, if there is one, is that of the statement
abbrev pub IsNextTextOf : List Tree → StoredStatement → Type 0
IsNextTextOf [] s = Unit {0}
IsNextTextOf (t ∷ ts) s = t ≡ s.received
