-- The documents of an activity, an agent and a registration: what is shown of them, slot by slot.
use Rattle.std.proofs.Common.{◌≡◌, ℕ, ℤ, Bool, true, false, ◌&&◌, List, [], ◌∷◌, ◌++◌, Option, Some, None, Less, is_some, refl, sym, ap, subst, ◌∙◌, ⊎_elim, true≢false}
use Rattle.std.specs.BTreeMap.Range.{entries_between}
use Rattle.std.specs.Cmp.{first_so}
use Rattle.std.specs.List.{AllByRecursion}
use Rattle.std.specs.List.Sorted.{IsStrictlySortedBy}
use Rattle.std.specs.Map.{keys_of}
use Rattle.std.specs.Option.{option_map_or}
use Rattle.std.specs.declared.ops.Bound.TheVariants.{Included, Unbounded}
use Rattle.std.proofs.lemmas.Bool.{cases_Bool}
use Rattle.lrs_agents.specs.declared.identifiers.Ifi.{Ifi}
use Rattle.xapi_docs.proofs.Keyed.{first_of, ids, states_less, together}
use Rattle.xapi_docs.proofs.Walks.{Walks, begins, ends, not_shown, passes_by, picked, shown, stops, takes}
use Rattle.xapi_docs.specs.Docs.{Slots}
use Rattle.xapi_docs.specs.Documents.{is_later}
use Rattle.xapi_docs.specs.declared.documents.Document.{Document}
use Rattle.xapi_keys.specs.Keys.{is_of, is_state, key_cmp}
use Rattle.xapi_keys.specs.declared.state_key.StateKey.{StateKey}

module _ (activity : List ℕ) (agent : Ifi) (registration : Option (List ℕ)) where
  abbrev pub first : StateKey
  first = first_of activity agent registration

  unlisted : (more : Document → Bool) (k : StateKey) (x : Document) → is_of activity agent registration k ≡ false → (is_of activity agent registration k && more x) ≡ false
  unlisted more k x no_one = ap (λ b. b && more x) no_one

  -- ---- state ids

  module _ (since : Option ℤ) where
    abbrev pub is_told : StateKey × Document → Bool
    is_told held = is_of activity agent registration held.0 && is_later since held.1

    abbrev pub state_of : StateKey × Document → List ℕ
    state_of held = held.0.state

    abbrev pub WalksIds : List (List ℕ) → Slots → Slots → Type 0
    WalksIds told rest all = Walks key_cmp first is_told state_of told rest all

    told : (k : StateKey) (p : Option Document) (rest : Slots) → is_of activity agent registration k ≡ true → option_map_or (is_later since) p false ≡ true
        → picked key_cmp first is_told state_of ((k, p) ∷ rest) ≡ k.state ∷ picked key_cmp first is_told state_of rest
    told k None rest of late = absurd (true≢false (sym late))
    told k (Some x) rest of late = shown key_cmp first is_told state_of k x rest (ap (λ b. b && is_later since x) of ∙ late)

    untold : (k : StateKey) (p : Option Document) (rest : Slots) → is_of activity agent registration k ≡ true → option_map_or (is_later since) p false ≡ false
        → picked key_cmp first is_told state_of ((k, p) ∷ rest) ≡ picked key_cmp first is_told state_of rest
    untold k None rest of late = refl
    untold k (Some x) rest of late = not_shown key_cmp first is_told state_of k x rest (ap (λ b. b && is_later since x) of ∙ late)

    pub ids_begin : (slots : Slots) → IsStrictlySortedBy key_cmp (keys_of slots) → WalksIds [] (entries_between key_cmp (Included first) Unbounded slots) slots
    ids_begin slots s = begins key_cmp first is_told state_of (is_of activity agent registration) (together activity agent registration) (λ k x no_one. unlisted (is_later since) k x no_one) slots s

    pub ids_start : (done : List (List ℕ)) (k : StateKey) (rest inside all : Slots) → done ≡ [] → k ≡ first → rest ≡ entries_between key_cmp (Included k) Unbounded inside → inside ≡ all
        → IsStrictlySortedBy key_cmp (keys_of inside) → WalksIds done rest all
    ids_start done k rest inside all none is from same s =
        subst (λ d. WalksIds d rest all) (sym none) (subst (λ r. WalksIds [] r all) (sym (from ∙ ap (λ (z : StateKey). entries_between key_cmp (Included z) Unbounded inside) is))
        (subst (λ a. WalksIds [] (entries_between key_cmp (Included first) Unbounded inside) a) same (ids_begin inside s)))

    pub ids_more : (done : List (List ℕ)) (k : StateKey) (p : Option Document) (rest all : Slots) → WalksIds done ((k, p) ∷ rest) all → is_of activity agent registration k ≡ true
        → option_map_or (is_later since) p false ≡ true → WalksIds (done ++ k.state ∷ []) rest all
    ids_more done k p rest all walks of late = takes key_cmp first is_told state_of done k p k.state rest all walks (told k p rest of late)

    pub ids_past : (done : List (List ℕ)) (k : StateKey) (p : Option Document) (rest all : Slots) → WalksIds done ((k, p) ∷ rest) all → is_of activity agent registration k ≡ true
        → option_map_or (is_later since) p false ≡ false → WalksIds done rest all
    ids_past done k p rest all walks of late = passes_by key_cmp first is_told state_of done k p rest all walks (untold k p rest of late)

    pub ids_stop : (done : List (List ℕ)) (k : StateKey) (p : Option Document) (rest all : Slots) → WalksIds done ((k, p) ∷ rest) all → is_of activity agent registration k ≡ false
        → done ≡ picked key_cmp first is_told state_of all
    ids_stop done k p rest all walks no_one =
        stops key_cmp first is_told state_of (is_of activity agent registration) (together activity agent registration) (λ j x none. unlisted (is_later since) j x none) done k p rest all walks no_one

    pub ids_end : (done : List (List ℕ)) (rest all : Slots) → WalksIds done rest all → rest ≡ [] → done ≡ picked key_cmp first is_told state_of all
    ids_end done rest all walks none = ends key_cmp first is_told state_of done rest all walks none

    less_ids : (k : StateKey) (slots : Slots) → is_of activity agent registration k ≡ true → AllByRecursion (λ q. key_cmp k q ≡ Less) (keys_of slots)
        → AllByRecursion (λ s. ids k.state s ≡ Less) (picked key_cmp first is_told state_of slots)
    less_ids k [] of less = tt
    less_ids k ((q, None) ∷ slots) of less = less_ids k slots of less.1
    less_ids k ((q, Some x) ∷ slots) of less = ⊎_elim
        (λ is. rw is (states_less activity agent registration k q of (first_so (is_of activity agent registration q) (is_later since x) is) less.0, less_ids k slots of less.1))
        (λ not_told. rw not_told (less_ids k slots of less.1))
        (cases_Bool (is_of activity agent registration q && is_later since x))

    -- they are in the order of their bytes
    pub ids_sorted : (slots : Slots) → IsStrictlySortedBy key_cmp (keys_of slots) → IsStrictlySortedBy ids (picked key_cmp first is_told state_of slots)
    unfolding IsStrictlySortedBy
    ids_sorted [] s = tt
    ids_sorted ((q, None) ∷ slots) s = ids_sorted slots s.1
    ids_sorted ((q, Some x) ∷ slots) s = ⊎_elim
        (λ is. rw is (less_ids q slots (first_so (is_of activity agent registration q) (is_later since x) is) s.0, ids_sorted slots s.1))
        (λ not_told. rw not_told (ids_sorted slots s.1))
        (cases_Bool (is_of activity agent registration q && is_later since x))

  -- ---- keys

  module _ (state : Option (List ℕ)) where
    abbrev pub is_named : StateKey × Document → Bool
    is_named held = is_of activity agent registration held.0 && is_state state held.0

    abbrev pub key_of : StateKey × Document → StateKey
    key_of held = held.0

    abbrev pub WalksKeys : List StateKey → Slots → Slots → Type 0
    WalksKeys named rest all = Walks key_cmp first is_named key_of named rest all

    unnamed : (k : StateKey) → is_of activity agent registration k ≡ false → (is_of activity agent registration k && is_state state k) ≡ false
    unnamed k no_one = ap (λ b. b && is_state state k) no_one

    pub keys_begin : (slots : Slots) → IsStrictlySortedBy key_cmp (keys_of slots) → WalksKeys [] (entries_between key_cmp (Included first) Unbounded slots) slots
    keys_begin slots s = begins key_cmp first is_named key_of (is_of activity agent registration) (together activity agent registration) (λ k x no_one. unnamed k no_one) slots s

    pub keys_start : (done : List StateKey) (k : StateKey) (rest inside all : Slots) → done ≡ [] → k ≡ first → rest ≡ entries_between key_cmp (Included k) Unbounded inside → inside ≡ all
        → IsStrictlySortedBy key_cmp (keys_of inside) → WalksKeys done rest all
    keys_start done k rest inside all none is from same s =
        subst (λ d. WalksKeys d rest all) (sym none) (subst (λ r. WalksKeys [] r all) (sym (from ∙ ap (λ (z : StateKey). entries_between key_cmp (Included z) Unbounded inside) is))
        (subst (λ a. WalksKeys [] (entries_between key_cmp (Included first) Unbounded inside) a) same (keys_begin inside s)))

    pub keys_more : (done : List StateKey) (k : StateKey) (p : Option Document) (rest all : Slots) → WalksKeys done ((k, p) ∷ rest) all → is_of activity agent registration k ≡ true
        → (is_some p && is_state state k) ≡ true → WalksKeys (done ++ k ∷ []) rest all
    keys_more done k None rest all walks of is = absurd (true≢false (sym is))
    keys_more done k (Some x) rest all walks of is =
        takes key_cmp first is_named key_of done k (Some x) k rest all walks (shown key_cmp first is_named key_of k x rest (ap (λ b. b && is_state state k) of ∙ is))

    pub keys_past : (done : List StateKey) (k : StateKey) (p : Option Document) (rest all : Slots) → WalksKeys done ((k, p) ∷ rest) all → is_of activity agent registration k ≡ true
        → (is_some p && is_state state k) ≡ false → WalksKeys done rest all
    keys_past done k None rest all walks of other = passes_by key_cmp first is_named key_of done k None rest all walks refl
    keys_past done k (Some x) rest all walks of other =
        passes_by key_cmp first is_named key_of done k (Some x) rest all walks (not_shown key_cmp first is_named key_of k x rest (ap (λ b. b && is_state state k) of ∙ other))

    pub keys_stop : (done : List StateKey) (k : StateKey) (p : Option Document) (rest all : Slots) → WalksKeys done ((k, p) ∷ rest) all → is_of activity agent registration k ≡ false
        → done ≡ picked key_cmp first is_named key_of all
    keys_stop done k p rest all walks no_one =
        stops key_cmp first is_named key_of (is_of activity agent registration) (together activity agent registration) (λ j x none. unnamed j none) done k p rest all walks no_one

    pub keys_end : (done : List StateKey) (rest all : Slots) → WalksKeys done rest all → rest ≡ [] → done ≡ picked key_cmp first is_named key_of all
    keys_end done rest all walks none = ends key_cmp first is_named key_of done rest all walks none
