-- Lists of positions: what those under a key tell of the statements, and how the lists of filters narrow them.
use Rattle.std.proofs.Common.{◌≡◌, ◌<◌, ◌≤◌, ◌+◌, ◌&&◌, ℕ, zero, suc, List, [], ◌∷◌, ◌++◌, length, take, get_or, refl, sym, ◌∙◌, ap, subst, arith, Option, Some, None, IfSome, IfNone, Bool, true, false, slice_get, Bor}
use Rattle.std.specs.Option.{option_map_or}
use Rattle.std.proofs.lemmas.Bool.{and_parts, lt-ltb}
use Rattle.std.proofs.lemmas.List.{take_all}
use Rattle.std.proofs.lemmas.List.Elements.{All-from_recursion}
use Rattle.std.proofs.lemmas.List.Folds.{list_all-append, list_all_at, list_all_more}
use Rattle.std.proofs.lemmas.Option.{same_Some, slice_get-get_or, slice_get_within}
use Rattle.xapi_index.specs.Index.{IsPosting}
use Rattle.xapi_index.specs.XapiPostingsAscending.{IsAscending, is_in}
use Rattle.xapi_index.specs.XapiPostingsAscendingProofs.{is_in-below, is_in-positions}
use Rattle.xapi_index.specs.XapiQueryFilters.{direct, passes_activity, passes_agent, passes_registration, passes_verb}
use Rattle.xapi_index.specs.XapiQueryQueryQuery.{Query}
use Rattle.xapi_search.specs.Narrowing.{AsksFor, EachAscends, ListsThose, Narrows, is_in_each, passes_key}
use Rattle.xapi_index.specs.XapiStatementStored.{StoredStatement}
use Rattle.xapi_index.specs.XapiStatementKeysKeys.{has_key}
use Rattle.xapi_index.specs.XapiStatementKeysKeyKey.{Key}

abbrev pub Lists : Type 0
Lists = List (Bor (List ℕ))

-- the list at an index, as a proof reads `lists[i]`
abbrev pub list_at : Lists → ℕ → List ℕ
list_at lists i = (get_or lists i (record { ref_ptr = (0, 0); now = [] })).now

-- ---- under a key

-- those under a key are those of the statements with that key
pub in_posting : (held : List StoredStatement) (coming : ℕ) (key : Key) (ks : List ℕ) → IsPosting held coming key ks → ListsThose held (has_key key) ks
in_posting held coming key ks posting = λ k s at.
    let lt : k < length held = slice_get_within held k s at in
    sym (ap (λ b. b && is_in ks k) (lt-ltb k (length held) lt))
    ∙ (sym (is_in-below (length held) ks k)
    ∙ (ap (λ (js : List ℕ). is_in js k) posting.visible
    ∙ (is_in-positions (has_key key) held k ∙ ap (λ (o : Option StoredStatement). option_map_or (has_key key) o false) at)))

-- ---- one list more

and_true : (b : Bool) → b && true ≡ b
and_true true = refl
and_true false = refl

narrowed_by : (held : List StoredStatement) (pass : StoredStatement → Bool) (old new : Lists) (list : Bor (List ℕ)) → new ≡ old ++ list ∷ [] → ListsThose held pass list.now → Narrows held pass old new
narrowed_by held pass old new list is those = λ k s at.
    ap (λ (lists : Lists). is_in_each lists k) is
    ∙ (list_all-append (λ (ks : Bor (List ℕ)). is_in ks.now k) old (list ∷ [])
    ∙ ap (λ b. is_in_each old k && b) (and_true (is_in list.now k) ∙ those k s at))

-- the list of a key is added
pub narrowed : (held : List StoredStatement) (asked : Option Key) (key : Key) (old new : Lists) (list : Bor (List ℕ)) → asked ≡ Some key → new ≡ old ++ list ∷ [] → ListsThose held (has_key key) list.now → Narrows held (passes_key asked) old new
narrowed held asked key old new list given is those = λ k s at.
    narrowed_by held (has_key key) old new list is those k s at ∙ ap (λ (o : Option Key). is_in_each old k && passes_key o s) (sym given)

-- there is no key
pub not_narrowed : (held : List StoredStatement) (asked : Option Key) (lists : Lists) → asked ≡ None → Narrows held (passes_key asked) lists lists
not_narrowed held asked lists none = λ k s at.
    sym (and_true (is_in_each lists k)) ∙ ap (λ (o : Option Key). is_in_each lists k && passes_key o s) (sym none)

-- by what a filter asks for
pub narrowed_so : (held : List StoredStatement) (asked : Option Key) (pass : StoredStatement → Bool) (old new : Lists) → AsksFor asked pass → Narrows held (passes_key asked) old new → Narrows held pass old new
narrowed_so held asked pass old new asks narrows = λ k s at. narrows k s at ∙ ap (λ b. is_in_each old k && b) (asks s)

-- each filter narrows them
pub narrowed_by_all : (held : List StoredStatement) (query : Query) (none agent verb activity registration : Lists) → none ≡ []
    → Narrows held (passes_agent query) none agent → Narrows held (passes_verb query) agent verb → Narrows held (passes_activity query) verb activity → Narrows held (passes_registration query) activity registration
    → Narrows held (direct query) [] registration
narrowed_by_all held query none agent verb activity registration empty by_agent by_verb by_activity by_registration = λ k s at.
    by_registration k s at
    ∙ ap (λ b. b && passes_registration query s) (by_activity k s at
    ∙ ap (λ b. b && passes_activity query s) (by_verb k s at
    ∙ ap (λ b. b && passes_verb query s) (by_agent k s at ∙ ap (λ (lists : Lists). is_in_each lists k && passes_agent query s) empty)))

-- ---- in order

each_more : (old : Lists) (list : Bor (List ℕ)) → IsAscending list.now → EachAscends old → EachAscends (old ++ list ∷ [])
each_more [] list ascends each = (ascends, tt)
each_more (x ∷ xs) list ascends each = (each.0, each_more xs list ascends each.1)

pub ascending_more : (old new : Lists) (list : Bor (List ℕ)) → new ≡ old ++ list ∷ [] → IsAscending list.now → EachAscends old → EachAscends new
ascending_more old new list is ascends each = subst (λ (lists : Lists). EachAscends lists) (sym is) (each_more old list ascends each)

pub ascending_none : (none : Lists) → none ≡ [] → EachAscends none
ascending_none none empty = subst (λ (lists : Lists). EachAscends lists) (sym empty) tt

pub ascends_at : (lists : Lists) (i : ℕ) → i < length lists → EachAscends lists → IsAscending (list_at lists i)
ascends_at lists i lt each = All-from_recursion (λ (ks : Bor (List ℕ)). IsAscending ks.now) lists each i (record { ref_ptr = (0, 0); now = [] }) lt

-- ---- whether a position stands in each list

pub not_in_each : (lists : Lists) (i k : ℕ) → i < length lists → is_in (list_at lists i) k ≡ false → is_in_each lists k ≡ false
not_in_each lists i k lt out = list_all_at (λ (ks : Bor (List ℕ)). is_in ks.now k) lists i (record { ref_ptr = (0, 0); now = [] }) lt out

pub in_each_more : (lists : Lists) (i k : ℕ) → i < length lists → is_in_each (take i lists) k ≡ true → is_in (list_at lists i) k ≡ true → is_in_each (take (i + 1) lists) k ≡ true
in_each_more lists i k lt before here =
    list_all_more (λ (ks : Bor (List ℕ)). is_in ks.now k) lists i (record { ref_ptr = (0, 0); now = [] }) lt
    ∙ (ap (λ b. b && is_in (list_at lists i) k) before ∙ here)

pub in_each : (lists : Lists) (i k : ℕ) → length lists ≤ i → is_in_each (take i lists) k ≡ true → is_in_each lists k ≡ true
in_each lists i k past all = sym (ap (λ (ls : Lists). is_in_each ls k) (take_all i lists past)) ∙ all

-- ---- one of the lists

in_one : (lists : Lists) (i : ℕ) (list : Bor (List ℕ)) → slice_get lists i ≡ Some list → (k : ℕ) → is_in_each lists k ≡ true → is_in list.now k ≡ true
in_one [] i list at k all = cc at
in_one (x ∷ xs) zero list at k all =
    let same : x ≡ list = same_Some x list at in
    ap (λ (ks : Bor (List ℕ)). is_in ks.now k) (sym same) ∙ (and_parts (is_in x.now k) (is_in_each xs k) all).0
in_one (x ∷ xs) (suc i) list at k all = in_one xs i list at k (and_parts (is_in x.now k) (is_in_each xs k) all).1

pub one_passing : (lists : Lists) (i : ℕ) (o : Option (Bor (List ℕ))) → o ≡ slice_get lists i → IfSome o (λ (list : Bor (List ℕ)). (k : ℕ) → is_in_each lists k ≡ true → is_in list.now k ≡ true)
one_passing lists i None at = tt
one_passing lists i (Some list) at = λ k all. in_one lists i list (sym at) k all

one_of : (lists : Lists) (i : ℕ) (list : Bor (List ℕ)) → slice_get lists i ≡ Some list → EachAscends lists → IsAscending list.now
one_of [] i list at each = cc at
one_of (x ∷ xs) zero list at each = subst (λ (ks : Bor (List ℕ)). IsAscending ks.now) (same_Some x list at) each.0
one_of (x ∷ xs) (suc i) list at each = one_of xs i list at each.1

pub one_ascending : (lists : Lists) (i : ℕ) (o : Option (Bor (List ℕ))) → o ≡ slice_get lists i → EachAscends lists → IfSome o (λ (list : Bor (List ℕ)). IsAscending list.now)
one_ascending lists i None at each = tt
one_ascending lists i (Some list) at each = one_of lists i list (sym at) each

pub none_there : (lists : Lists) (i : ℕ) (o : Option (Bor (List ℕ))) → o ≡ slice_get lists i → (0 < length lists → i < length lists) → IfNone o (lists ≡ [])
none_there lists i (Some list) at within = tt
none_there [] i None at within = refl
none_there (x ∷ xs) i None at within =
    let none : None ≡ Some (get_or (x ∷ xs) i x) = at ∙ slice_get-get_or (x ∷ xs) i x (within (omega arith)) in cc none
