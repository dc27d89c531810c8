-- What is seen of the statements in memory, and when statements that are to come are ready.
use Rattle.std.specs.Prelude.{◌≡◌, ◌≤◌, ◌+◌, ◌<◌, ◌++◌, ℕ, Bool, true}
use Rattle.std.specs.Prelude.{false, List, [], filter_map, length, map, slice_get, Some}
use Rattle.std.specs.List.{AllByRecursion, list_any}
use Rattle.xapi_postings.specs.XapiStatementStatements.{add_each}
use Rattle.xapi_postings.specs.Ascending.{IsAscending, below, positions_with}
use Rattle.xapi_postings.specs.Postings.{posting_of}
use Rattle.xapi_postings.specs.XapiStatementStored.{StoredStatement}
use Rattle.xapi_postings.specs.XapiStatementKeysKeys.{has_key, is_among}
use Rattle.xapi_postings.specs.XapiStatementKeysKeyKey.{Key}
use Rattle.xapi_postings.specs.XapiStatementKeysKeysKeys.{Keys}

-- Their list, the positions under each key, the keys of those that are to come, these themselves, and for how many more
-- there is room in the list. Positions that aren't below the length of the list are of statements that are to come.
pub record Indexed : Type 0 where
  pub held : List StoredStatement
  pub postings : List (Key × List ℕ)
  pub coming : List (List Key)
  pub ahead : List StoredStatement
  pub spare : ℕ

-- the keys in each of them
abbrev pub lists_of : List Keys → List (List Key)
lists_of each = map (λ (keys : Keys). keys.items.items) each

-- it is a key of one that is to come
abbrev pub is_coming : Key → List (List Key) → Bool
is_coming key coming = list_any (λ keys. is_among key keys) coming

-- Of the positions under a key, those below the length are of the statements with that key.
pub record IsPosting (held : List StoredStatement) (coming : ℕ) (key : Key) (positions : List ℕ) : Type 0 where
  pub visible : below (length held) positions ≡ positions_with (has_key key) held
  pub ascending : IsAscending positions
  pub bounded : AllByRecursion (λ k. k < length held + coming) positions

-- the positions under a key are those of the statements with that key, and no more
abbrev pub ArePosted : List StoredStatement → List (Key × List ℕ) → Type 0
ArePosted held postings = (key : Key) → posting_of key postings ≡ positions_with (has_key key) held

-- no statement is older than one before it
abbrev pub IsRising : List StoredStatement → Type 0
IsRising held = (i j : ℕ) → (s t : StoredStatement) → i ≤ j → slice_get held i ≡ Some s → slice_get held j ≡ Some t
    → s.stored ≤ t.stored

pub record IsIndex (held : List StoredStatement) (postings : List (Key × List ℕ)) (coming : List (List Key))
    (rises : Bool) : Type 0 where
  pub posted : (key : Key) → IsPosting held (length coming) key (posting_of key postings)
  pub others : (key : Key) → is_coming key coming ≡ false
      → posting_of key postings ≡ positions_with (has_key key) held
  pub rising : rises ≡ true → IsRising held

-- ---- what is to come

-- the index holds nothing of statements that are to come
pub record HoldsNothingAhead (index : Indexed) : Type 0 where
  pub posted : ArePosted index.held index.postings
  pub coming : index.coming ≡ []
  pub ahead : index.ahead ≡ []

-- These statements are ready: they stand under their keys, there is room for them in the list, and those of them that
-- are new are at hand, in their order.
pub record IsIndexReadyFor (index : Indexed) (statements : List StoredStatement) : Type 0 where
  pub posted : ArePosted (add_each index.held statements) index.postings
  pub spare : length statements ≤ index.spare
  pub ahead : add_each index.held statements ≡ index.held ++ index.ahead

-- the statements at these positions, where there are some
abbrev pub statements_at : List StoredStatement → List ℕ → List StoredStatement
statements_at statements positions = filter_map (λ position. slice_get statements position) positions
