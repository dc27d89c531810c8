-- Statements with the ids that were found for them are those that go under them.
use Rattle.std.proofs.Common.{◌≡◌, zero, suc, ℕ, ◌+◌, ◌≤◌, List, [], ◌∷◌, length, drop, Some, refl, sym, ap, subst, ◌∙◌}
use Rattle.std.specs.Prelude.{slice_get}
use Rattle.std.proofs.lemmas.List.{at_drop_all}
use Rattle.std.proofs.lemmas.Option.{get_or_from_slice_get, none-some, same_Some, slice_get_within}
use Rattle.lrs_refusals.specs.Naming.{with_these_ids}
use Rattle.lrs_json.specs.View.{view}
use Rattle.lrs_json.specs.declared.tree.Tree.{Tree}
use Rattle.lrs_json.proofs.Lists.{drop_item}
use Rattle.lrs_record.specs.Entries.{AreLawfulTrees, IsLawfulTree}
use Rattle.xapi_index.specs.Batches.{id_for, with_ids, ids_under, supply_behind}
use Rattle.lrs_ids.specs.Ids.{Supply}
use Rattle.xapi_statement.specs.Statement.{own_id}

pub with_ids_again : (supply : Supply) (ts : List Tree) → with_these_ids (ids_under (with_ids supply ts)) ts ≡ with_ids supply ts
with_ids_again supply [] = refl
with_ids_again supply (t ∷ ts) =
    ap (λ ns. record { id = id_for (supply 0) (own_id (view t)); tree = t } ∷ ns) (with_ids_again (supply_behind supply (own_id (view t))) ts)

-- ---- a walk over both lists by index

-- the next of both
pub next_with_id : (ids : List (List ℕ)) (ts : List Tree) (at : ℕ) (id : List ℕ) (t : Tree) → slice_get ids at ≡ Some id → slice_get ts at ≡ Some t
    → with_these_ids (drop at ids) (drop at ts) ≡ record { id = id; tree = t } ∷ with_these_ids (drop (at + 1) ids) (drop (at + 1) ts)
next_with_id ids ts at id t first second =
    ap (λ is. with_these_ids is (drop at ts)) (drop_item ids at id (slice_get_within ids at id first) (sym (get_or_from_slice_get ids at id id first)))
    ∙ ap (λ rest. with_these_ids (id ∷ drop (at + 1) ids) rest) (drop_item ts at t (slice_get_within ts at t second) (sym (get_or_from_slice_get ts at t t second)))

none_of : (ids : List (List ℕ)) → with_these_ids ids [] ≡ []
none_of [] = refl
none_of (id ∷ ids) = refl

pub no_trees_left : (ids : List (List ℕ)) (ts : List Tree) (at : ℕ) → length ts ≤ at → with_these_ids (drop at ids) (drop at ts) ≡ []
no_trees_left ids ts at end = at_drop_all (λ rest. with_these_ids (drop at ids) rest) ts at end ∙ none_of (drop at ids)

-- ---- one of several

pub lawful_at : (ts : List Tree) (at : ℕ) (t : Tree) → AreLawfulTrees ts → slice_get ts at ≡ Some t → IsLawfulTree (view t)
lawful_at [] at t each is = absurd (none-some t is)
lawful_at (u ∷ ts) zero t each is = subst (λ (x : Tree). IsLawfulTree (view x)) (same_Some u t is) each.0
lawful_at (u ∷ ts) (suc at) t each is = lawful_at ts at t each.1 is
