-- What is known of the statements of a write, as it is found out, handed on and asked.
use Rattle.std.proofs.Common.{◌≡◌, ℕ, zero, suc, ◌+◌, ◌≤◌, List, [], ◌∷◌, ◌++◌, length, drop, Bool, Option, Some, sym, ap, subst, ◌∙◌, append_assoc, append-nil}
use Rattle.std.specs.Prelude.{slice_get}
use Rattle.std.proofs.lemmas.List.{at_drop_all}
use Rattle.std.proofs.lemmas.Option.{none-some, same_Some}
use Rattle.lrs_made.specs.LrsHistoryOccasions.{supply_in}
use Rattle.lrs_ids.specs.Ids.{Supply}
use Rattle.lrs_ids.specs.IdSupply.{GiveSame, left_of}
use Rattle.lrs_json.specs.declared.tree.Tree.{Tree}
use Rattle.lrs_names.specs.declared.draw.Draw.{Draw}
use Rattle.lrs_made.specs.LrsStateState.{State, used_in}
use Rattle.lrs_record.specs.declared.entry.Write.{Write}
use Rattle.lrs_record.specs.declared.entry.Write.TheVariants.{Put, Post}
use Rattle.lrs_refusals.specs.Known.{batch_in, is_own_held, own_held, AreTold, IsBatch, IsKnown, IsKnownOf, IsTold, TellHeld, TellsNext}
use Rattle.lrs_refusals.specs.Naming.{with_these_ids}
use Rattle.lrs_refusals.specs.declared.known.Batch.{Batch}
use Rattle.lrs_refusals.specs.declared.known.Known.{Known}
use Rattle.lrs_refusals.specs.declared.known.Known.TheVariants as known
use Rattle.xapi_index.proofs.Supplies.{after_same, names_same}
use Rattle.xapi_index.specs.Batches.{ids_under, supply_after, with_ids}

-- ---- of a write

-- where nothing is known
pub nothing_known : (st : State) (draw : Draw) (w : Write) → IsKnown st draw w known.Nothing
nothing_known st draw (Put id statement) = tt
nothing_known st draw (Post statements) = tt
nothing_known st draw other = tt

pub taken_batch : (st : State) (draw : Draw) (ts : List Tree) (k : Known) (b : Batch) → Some b ≡ batch_in k → IsKnownOf st draw ts k → IsBatch st draw ts b
taken_batch st draw ts known.Nothing b is so = cc is
taken_batch st draw ts (known.Put held) b is so = cc is
taken_batch st draw ts (known.Batch x) b is so = subst (λ (y : Batch). IsBatch st draw ts y) (sym (same_Some b x is)) so

-- ---- statements that come together

-- the ids of a supply that gives the same
pub batch_named : (st : State) (draw : Draw) (ts : List Tree) (b : Batch) (before : Supply) → GiveSame before (supply_in st (Post ts) draw) → b.ids ≡ ids_under (with_ids before ts)
    → GiveSame (left_of (used_in st) b.supply) (supply_after before ts) → b.held ≡ [] → IsBatch st draw ts b
batch_named st draw ts b before given named behind none = record {
  ids = named ∙ names_same before (supply_in st (Post ts) draw) ts given;
  left = record { same = λ k. behind.same k ∙ (after_same before (supply_in st (Post ts) draw) ts given).same k };
  held = subst (λ (flags : List Bool). TellHeld st flags b.ids) (sym none) tt;
}

-- what is told of own ids is told of those under which statements go
tells_own : (st : State) (ids : List (List ℕ)) (ts : List Tree) → AreTold st (with_these_ids ids ts) → TellHeld st (own_held st ts) ids
tells_own st [] [] told = tt
tells_own st [] (t ∷ ts) told = tt
tells_own st (id ∷ ids) [] told = tt
tells_own st (id ∷ ids) (t ∷ ts) told = (told.0, tells_own st ids ts told.1)

-- each was looked up
pub batch_told : (st : State) (draw : Draw) (ts : List Tree) (b : Batch) (flags : List Bool) → IsBatch st draw ts b → b.held ≡ [] → AreTold st (with_these_ids b.ids ts) → flags ≡ b.held ++ own_held st ts
    → IsBatch st draw ts (record { ids = b.ids; held = flags; supply = b.supply })
batch_told st draw ts b flags is none told looked = record {
  ids = is.ids;
  left = is.left;
  held = subst (λ (fs : List Bool). TellHeld st fs b.ids) (sym (looked ∙ ap (λ (fs : List Bool). fs ++ own_held st ts) none)) (tells_own st b.ids ts told);
}

pub told_at : (st : State) (ids : List (List ℕ)) (ts : List Tree) (at : ℕ) (id : List ℕ) (t : Tree) → AreTold st (with_these_ids ids ts) → slice_get ids at ≡ Some id → slice_get ts at ≡ Some t
    → IsTold st (record { id = id; tree = t })
told_at st [] ts at id t told first second = absurd (none-some id first)
told_at st (x ∷ ids) [] at id t told first second = absurd (none-some t second)
told_at st (x ∷ ids) (u ∷ ts) zero id t told first second =
    subst (λ (y : List ℕ). IsTold st (record { id = y; tree = t })) (same_Some x id first)
    (subst (λ (v : Tree). IsTold st (record { id = x; tree = v })) (same_Some u t second) told.0)
told_at st (x ∷ ids) (u ∷ ts) (suc at) id t told first second = told_at st ids ts at id t told.1 first second

-- ---- one after the other

-- it was told of one more
pub held_more : (st : State) (ts : List Tree) (i : ℕ) (t : Tree) (before after all : List Bool) → drop i ts ≡ t ∷ drop (i + 1) ts → after ≡ before ++ is_own_held st t ∷ []
    → before ++ own_held st (drop i ts) ≡ all → after ++ own_held st (drop (i + 1) ts) ≡ all
held_more st ts i t before after all at pushed so_far =
    ap (λ (flags : List Bool). flags ++ own_held st (drop (i + 1) ts)) pushed
    ∙ (append_assoc before (is_own_held st t ∷ []) (own_held st (drop (i + 1) ts))
    ∙ (sym (ap (λ (us : List Tree). before ++ own_held st us) at) ∙ so_far))

pub held_all : (st : State) (ts : List Tree) (i : ℕ) (before all : List Bool) → length ts ≤ i → before ++ own_held st (drop i ts) ≡ all → before ≡ all
held_all st ts i before all end so_far = sym (append-nil before) ∙ (sym (at_drop_all (λ (us : List Tree). before ++ own_held st us) ts i end) ∙ so_far)

-- it is asked of the next id
pub tells_next : (st : State) (flags : List Bool) (id : List ℕ) (ids : List (List ℕ)) → TellHeld st flags (id ∷ ids) → TellsNext st flags id
tells_next st [] id ids told = tt
tells_next st (held ∷ more) id ids told = told.0

pub tells_more : (st : State) (flags : List Bool) (id : List ℕ) (ids : List (List ℕ)) → TellHeld st flags (id ∷ ids) → TellHeld st (drop 1 flags) ids
tells_more st [] id ids told = tt
tells_more st (held ∷ more) id ids told = told.1
