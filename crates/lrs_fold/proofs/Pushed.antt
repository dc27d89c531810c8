-- Statements of a batch are pushed one after the other, if they are new.
use Rattle.std.proofs.Common.{◌≡◌, ℕ, ◌+◌, ◌≤◌, List, [], ◌∷◌, ◌++◌, length, map, drop, Bool, true, false, Option, Some, None, refl, sym, ap, ◌∙◌, append_assoc, append-nil}
use Rattle.std.specs.Prelude.{if◌then◌else◌}
use Rattle.std.proofs.lemmas.List.{at_drop_all}
use Rattle.lrs_command.specs.declared.who.Who.{Who}
use Rattle.lrs_reads.specs.LrsRefusalsNaming.{with_these_ids}
use Rattle.lrs_reads.specs.LrsHistoryEffects.{new_by}
use Rattle.lrs_reads.specs.LrsHistoryWhose.{authority_of}
use Rattle.lrs_json.specs.declared.tree.Tree.{Tree}
use Rattle.lrs_learning.specs.LrsStateState.{State}
use Rattle.xapi_index.specs.Batches.{WithId, held_of, kept_by}
use Rattle.xapi_statement.specs.Statements.{is_held, new_ones}
use Rattle.xapi_statement.specs.declared.Authority.{Authority}
use Rattle.xapi_statement.specs.Stored.{StoredStatement}

-- those of the first, and those of the others
first_then : (st : State) (by : Who) (moment : ℕ) (n : WithId) (ns : List WithId) → new_by st by moment (n ∷ []) ++ new_by st by moment ns ≡ new_by st by moment (n ∷ ns)
first_then st by moment n ns = by_authority (authority_of st by)
  where
    by_held : (b : Bool) (s : StoredStatement) (ss : List StoredStatement) → (if b then [] else s ∷ []) ++ ss ≡ (if b then ss else s ∷ ss)
    by_held true s ss = refl
    by_held false s ss = refl

    by_authority : (o : Option Authority) → new_ones st.statements (kept_by moment o (n ∷ [])) ++ new_ones st.statements (kept_by moment o ns) ≡ new_ones st.statements (kept_by moment o (n ∷ ns))
    by_authority None = refl
    by_authority (Some authority) = by_held (is_held n.id st.statements) (held_of moment authority n) (new_ones st.statements (map (held_of moment authority) ns))

pub pushed_more : (st : State) (by : Who) (moment : ℕ) (ids : List (List ℕ)) (i : ℕ) (id : List ℕ) (t : Tree) (ts : List Tree) (before after all : List StoredStatement) → drop i ids ≡ id ∷ drop (i + 1) ids
    → after ≡ before ++ new_by st by moment (record { id = id; tree = t } ∷ []) → before ++ new_by st by moment (with_these_ids (drop i ids) (t ∷ ts)) ≡ all
    → after ++ new_by st by moment (with_these_ids (drop (i + 1) ids) ts) ≡ all
pushed_more st by moment ids i id t ts before after all at pushed so_far =
    let n : WithId = record { id = id; tree = t } in
    let ns : List WithId = with_these_ids (drop (i + 1) ids) ts in
    ap (λ xs. xs ++ new_by st by moment ns) pushed
    ∙ (append_assoc before (new_by st by moment (n ∷ [])) (new_by st by moment ns)
    ∙ (ap (λ xs. before ++ xs) (first_then st by moment n ns)
    ∙ (sym (ap (λ xs. before ++ new_by st by moment (with_these_ids xs (t ∷ ts))) at) ∙ so_far)))

-- nothing is left to be pushed
none_new : (st : State) (by : Who) (moment : ℕ) → new_by st by moment [] ≡ []
none_new st by moment = by_authority (authority_of st by)
  where
    by_authority : (o : Option Authority) → new_ones st.statements (kept_by moment o []) ≡ []
    by_authority None = refl
    by_authority (Some authority) = refl

no_trees : (ids : List (List ℕ)) → with_these_ids ids [] ≡ []
no_trees [] = refl
no_trees (id ∷ ids) = refl

pushed_all : (st : State) (by : Who) (moment : ℕ) (before all : List StoredStatement) → before ++ new_by st by moment [] ≡ all → before ≡ all
pushed_all st by moment before all so_far = sym (ap (λ xs. before ++ xs) (none_new st by moment) ∙ append-nil before) ∙ so_far

pub pushed_no_trees : (st : State) (by : Who) (moment : ℕ) (ids : List (List ℕ)) (before all : List StoredStatement) → before ++ new_by st by moment (with_these_ids ids []) ≡ all → before ≡ all
pushed_no_trees st by moment ids before all so_far =
    pushed_all st by moment before all (sym (ap (λ ns. before ++ new_by st by moment ns) (no_trees ids)) ∙ so_far)

pub pushed_no_ids : (st : State) (by : Who) (moment : ℕ) (ids : List (List ℕ)) (i : ℕ) (ts : List Tree) (before all : List StoredStatement) → length ids ≤ i
    → before ++ new_by st by moment (with_these_ids (drop i ids) ts) ≡ all → before ≡ all
pushed_no_ids st by moment ids i ts before all end so_far =
    pushed_all st by moment before all (sym (at_drop_all (λ ns. before ++ new_by st by moment (with_these_ids ns ts)) ids i end) ∙ so_far)
