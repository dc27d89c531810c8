-- How the lists are found that the filters of a query ask for: each narrows what those before it let pass.
use Rattle.std.specs.Prelude.{◌≡◌, ◌&&◌, ℕ, Bool, true, List, slice_get, Option, Some, None}
use Rattle.std.specs.List.{AllByRecursion, list_all}
use denote.Ref.{Bor}
use Rattle.xapi_index.specs.XapiPostingsAscending.{IsAscending, is_in}
use Rattle.xapi_index.specs.XapiStatementStored.{StoredStatement}
use Rattle.xapi_index.specs.XapiStatementKeysKeys.{has_key}
use Rattle.xapi_index.specs.XapiStatementKeysKeyKey.{Key}

-- the statement has the key; where none is given, each passes
abbrev pub passes_key : Option Key → StoredStatement → Bool
passes_key None s = true
passes_key (Some key) s = has_key key s

-- those that have the key are those that pass
abbrev pub AsksFor : Option Key → (StoredStatement → Bool) → Type 0
AsksFor key pass = (s : StoredStatement) → passes_key key s ≡ pass s

-- Of the statements that are held, the list has those that pass.
abbrev pub ListsThose : List StoredStatement → (StoredStatement → Bool) → List ℕ → Type 0
ListsThose held pass ks = (k : ℕ) → (s : StoredStatement) → slice_get held k ≡ Some s → is_in ks k ≡ pass s

-- the position stands in each list
abbrev pub is_in_each : List (Bor (List ℕ)) → ℕ → Bool
is_in_each lists k = list_all (λ ks. is_in ks.now k) lists

abbrev pub EachAscends : List (Bor (List ℕ)) → Type 0
EachAscends lists = AllByRecursion (λ ks. IsAscending ks.now) lists

-- Of the statements that are held, those in each of the new lists are those in each of the old ones that pass.
abbrev pub Narrows : List StoredStatement → (StoredStatement → Bool) → List (Bor (List ℕ)) → List (Bor (List ℕ))
    → Type 0
Narrows held pass old new = (k : ℕ) → (s : StoredStatement) → slice_get held k ≡ Some s
    → is_in_each new k ≡ is_in_each old k && pass s
