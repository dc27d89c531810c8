-- The ids under which statements go that come together.
use Rattle.std.proofs.Common.{◌≡◌, ℕ, ◌+◌, List, [], ◌∷◌, ◌++◌, drop, Some, Bool, true, false, ◌||◌, cond, refl, sym, ap, ◌∙◌, append_assoc}
use Rattle.std.specs.Prelude.{is_some}
use Rattle.std.specs.Str.{bytes_eq}
use Rattle.lrs_json.specs.View.{view}
use Rattle.lrs_json.specs.declared.tree.Tree.{Tree}
use Rattle.lrs_names.specs.Members.{is_one_of}
use Rattle.lrs_ids.specs.Ids.{Supply, IsCounted, those}
use Rattle.lrs_ids.specs.IdSupply.{GiveSame}
use Rattle.xapi_postings.specs.XapiStatementStored.{StoredStatement}
use Rattle.xapi_postings.specs.XapiStatementStatement.{own_id}
use Rattle.xapi_postings.specs.XapiStatementStatements.{held_under, ids_of, is_held}
use Rattle.xapi_index.specs.Batches.{id_for, with_ids, ids_under, supply_after, supply_behind}

pub used_held : (held : List StoredStatement) (id : List ℕ) → is_held id held ≡ is_one_of (ids_of held) id
used_held [] id = refl
used_held (s ∷ held) id = by_test (bytes_eq s.id id) (used_held held id)
  where
    by_test : (b : Bool) → is_held id held ≡ is_one_of (ids_of held) id → is_some (cond b (Some s) (held_under id held)) ≡ b || is_one_of (ids_of held) id
    by_test true more = refl
    by_test false more = more

-- as many are used as are held
pub held_counted : (held : List StoredStatement) → IsCounted (those (ids_of held))
held_counted held = record { ids = ids_of held; same = λ id. refl; count = refl }

pub names_same : (supply other : Supply) (ts : List Tree) → GiveSame supply other → ids_under (with_ids supply ts) ≡ ids_under (with_ids other ts)
names_same supply other ts same = ap (λ s. ids_under (with_ids s ts)) (λ i k. same.same k i)

-- one more of them is named
pub names_more : (old new : Supply) (ts : List Tree) (i : ℕ) (t : Tree) (id : List ℕ) (ids next all : List (List ℕ)) → drop i ts ≡ t ∷ drop (i + 1) ts
    → id ≡ id_for (old 0) (own_id (view t)) → GiveSame new (supply_behind old (own_id (view t))) → next ≡ ids ++ id ∷ [] → ids ++ ids_under (with_ids old (drop i ts)) ≡ all
    → next ++ ids_under (with_ids new (drop (i + 1) ts)) ≡ all
names_more old new ts i t id ids next all at is left pushed before =
    ap (λ xs. xs ++ ids_under (with_ids new (drop (i + 1) ts))) pushed
    ∙ (append_assoc ids (id ∷ []) (ids_under (with_ids new (drop (i + 1) ts)))
    ∙ (ap (λ rest. ids ++ id ∷ rest) (names_same new (supply_behind old (own_id (view t))) (drop (i + 1) ts) left)
    ∙ (ap (λ k. ids ++ k ∷ ids_under (with_ids (supply_behind old (own_id (view t))) (drop (i + 1) ts))) is
    ∙ (sym (ap (λ xs. ids ++ ids_under (with_ids old xs)) at) ∙ before))))

-- ---- what is left after them

pub after_same : (supply other : Supply) (ts : List Tree) → GiveSame supply other → GiveSame (supply_after supply ts) (supply_after other ts)
after_same supply other ts same = record { same = λ k. ap (λ (s : Supply). supply_after s ts k) (λ i j. same.same j i) }

pub after_more : (old new first : Supply) (ts : List Tree) (i : ℕ) (t : Tree) (all : List Tree) → drop i ts ≡ t ∷ drop (i + 1) ts
    → GiveSame new (supply_behind old (own_id (view t))) → GiveSame (supply_after old (drop i ts)) (supply_after first all)
    → GiveSame (supply_after new (drop (i + 1) ts)) (supply_after first all)
after_more old new first ts i t all at left before = record {
  same = λ k.
      (after_same new (supply_behind old (own_id (view t))) (drop (i + 1) ts) left).same k ∙ (sym (ap (λ xs. supply_after old xs k) at) ∙ before.same k);
}
