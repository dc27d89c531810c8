-- Statements are made one after the other, each under the next id.
use Rattle.std.proofs.Common.{◌≡◌, ℕ, List, [], ◌∷◌, ◌++◌, map, refl, sym, ap, ◌∙◌, append_assoc, append-nil}
use Rattle.lrs_history.specs.Made.{left_behind, made_under}
use Rattle.lrs_ids.specs.Ids.{Supply, rest_of}
use Rattle.lrs_ids.specs.IdSupply.{GiveSame}
use Rattle.lrs_json.specs.Json.{Json}
use Rattle.lrs_json.specs.View.{view}
use Rattle.lrs_json.specs.declared.tree.Tree.{Tree}
use Rattle.lrs_made.proofs.Same.{behind_same, made_same}
use Rattle.lrs_made.proofs.Trees.{tree_seen}
use Rattle.lrs_parts.specs.XapiIndexBatches.{held_of}
use Rattle.xapi_statement.specs.declared.Authority.TheVariants.{Desk}
use Rattle.xapi_statement.specs.declared.statement.Statement.{Statement}
use Rattle.xapi_statement.specs.Stored.{StoredStatement}

-- what a statement says
abbrev pub value_of : Statement → Json
value_of s = view s.tree

-- ---- one

abbrev kept : ℕ → List ℕ → Tree → StoredStatement
kept moment id tree = held_of moment Desk (record { id = id; tree = tree })

-- it goes under the next id
pub one_made : (supply : Supply) (moment : ℕ) (tree : Tree) (id : List ℕ) (item : StoredStatement) (before after : List StoredStatement)
    → id ≡ supply 0 → item ≡ kept moment id tree → after ≡ before ++ item ∷ [] → after ≡ before ++ made_under supply moment (view tree ∷ [])
one_made supply moment tree id item before after next is pushed =
    pushed
    ∙ (ap (λ (x : StoredStatement). before ++ x ∷ []) is
    ∙ (ap (λ (k : List ℕ). before ++ kept moment k tree ∷ []) next
    ∙ ap (λ (t : Tree). before ++ kept moment (supply 0) t ∷ []) (tree_seen tree (view tree) refl)))

-- ---- each of a list

-- those so far, and those of what is left
pub made_more : (old new : Supply) (moment : ℕ) (x : Statement) (left rest : List Statement) (before after all : List StoredStatement)
    → left ≡ x ∷ rest → after ≡ before ++ made_under old moment (value_of x ∷ []) → GiveSame new (rest_of old)
    → before ++ made_under old moment (map value_of left) ≡ all → after ++ made_under new moment (map value_of rest) ≡ all
made_more old new moment x left rest before after all at pushed behind so_far =
    let js : List Json = map value_of rest in
    ap (λ (xs : List StoredStatement). xs ++ made_under new moment js) pushed
    ∙ (append_assoc before (made_under old moment (value_of x ∷ [])) (made_under new moment js)
    ∙ (ap (λ (xs : List StoredStatement). before ++ (made_under old moment (value_of x ∷ []) ++ xs)) (made_same new (rest_of old) moment js behind)
    ∙ (ap (λ (xs : List Statement). before ++ made_under old moment (map value_of xs)) (sym at) ∙ so_far)))

-- nothing is left to be made
pub made_all : (supply : Supply) (moment : ℕ) (left : List Statement) (before all : List StoredStatement) → left ≡ []
    → before ++ made_under supply moment (map value_of left) ≡ all → before ≡ all
made_all supply moment left before all none so_far =
    sym (append-nil before) ∙ (ap (λ (xs : List Statement). before ++ made_under supply moment (map value_of xs)) (sym none) ∙ so_far)

-- the ids that are left behind them
pub behind_more : (old new first : Supply) (x : Statement) (left rest all : List Statement) → left ≡ x ∷ rest → GiveSame new (rest_of old)
    → GiveSame (left_behind old left) (left_behind first all) → GiveSame (left_behind new rest) (left_behind first all)
behind_more old new first x left rest all at behind so_far = record {
  same = λ k.
      (behind_same new (rest_of old) rest behind).same k ∙ (sym (ap (λ (xs : List Statement). left_behind old xs k) at) ∙ so_far.same k);
}
