-- What changes among marked statements where one comes: it stands behind the others, and may void one of them.
use Rattle.std.proofs.Common.{◌≡◌, ◌<◌, ◌≤◌, ◌+◌, ◌^◌, zero, suc, ℕ, List, [], ◌∷◌, ◌++◌, length, length-append, take, append_assoc, refl, sym, ◌∙◌, ap, subst, arith, true≢false, Option, Some, None, Bool, true, false, cond, not, ◌&&◌, ◌||◌, nat_lt, slice_get}
use Rattle.std.specs.Prelude.{option_and_then, position, find, is_some, if◌then◌else◌}
use Rattle.std.specs.List.{position_from}
use Rattle.std.specs.Option.{option_map_or}
use Rattle.std.specs.Str.{bytes_eq}
use Rattle.std.specs.Cmp.{first_so, second_so}
use Rattle.std.proofs.lemmas.Grind.{common_steps}
use Rattle.std.proofs.lemmas.Iterator.Adapters.{position_from-zero}
use Rattle.std.proofs.lemmas.List.{take_more}
use Rattle.std.proofs.lemmas.List.Folds.{list_any-append}
use Rattle.std.proofs.lemmas.Option.{cond_some, get_or_from_slice_get, none-some, same_Some, slice_get_within}
use Rattle.std.proofs.lemmas.Slice.Eq.{bytes_eq-Decides}
use Rattle.std.proofs.lemmas.Bool.{not-true, or_parts}
use Rattle.cmi5_running_sessions.specs.Cmi5SessionMarked.{MarkedStatement, mark, marked, marked_by}
use Rattle.lrs_ids.specs.Ids.{are_distinct}
use Rattle.lrs_json.specs.View.{view}
use Rattle.lrs_names.specs.Members.{is_one_of}
use Rattle.lrs_parts.specs.Progress.{is_voided_anew, voided_anew}
use Rattle.xapi_statement.specs.Statements.{add, add_each, ids_of, is_held, is_that_id, is_target, is_voided, position_referred, referred_at, voided_by, voids}
use Rattle.cmi5_running_verdicts.specs.XapiIndexAddingProofs.{extends}
use Rattle.cmi5_running_verdicts.specs.XapiIndexFirstsProofs.{get_first, lt_yes, index_first}
use Rattle.cmi5_running_verdicts.specs.XapiIndexFoundProofs.{found_at}
use Rattle.lrs_register.proofs.Firsts.{item-at}
use Rattle.cmi5_running_verdicts.specs.XapiIndexSuppliesProofs.{used_held}
use Rattle.xapi_rules.specs.Rules.{is_voiding}
use Rattle.xapi_statement.specs.Statement.{target_of}
use Rattle.xapi_statement.specs.Stored.{StoredStatement}

-- ---- truths

or_none : (b : Bool) → (b || false) ≡ b
or_none true = refl
or_none false = refl

pub same_bytes : (a b : List ℕ) → bytes_eq a b ≡ true → a ≡ b
same_bytes a b is = (bytes_eq-Decides a b).0 is

pub bytes_same : (a b : List ℕ) → a ≡ b → bytes_eq a b ≡ true
bytes_same a b is = (bytes_eq-Decides a b).1 is

-- ---- lists

-- what stands among the first n
pub within_front : {A : Type 0} (n : ℕ) (xs : List A) (k : ℕ) (x : A) → slice_get (take n xs) k ≡ Some x → (k < n) × (slice_get xs k ≡ Some x)
within_front zero xs k x at = absurd (none-some x at)
within_front (suc n) [] k x at = absurd (none-some x at)
within_front (suc n) (y ∷ ys) zero x at = (omega arith, at)
within_front (suc n) (y ∷ ys) (suc k) x at =
    let rest : (k < n) × (slice_get ys k ≡ Some x) = within_front n ys k x at in
    (omega (arith, rest.0), rest.1)

pub take_next : {A : Type 0} (xs : List A) (at : ℕ) (x : A) → slice_get xs at ≡ Some x → take (at + 1) xs ≡ take at xs ++ x ∷ []
take_next xs at x there = take_more xs at x (slice_get_within xs at x there) ∙ ap (λ y. take at xs ++ y ∷ []) (get_or_from_slice_get xs at x x there)

take_front : {A : Type 0} (xs ys : List A) → take (length xs) (xs ++ ys) ≡ xs
take_front [] ys = refl
take_front (x ∷ xs) ys = ap (λ zs. x ∷ zs) (take_front xs ys)

pub get_behind : {A : Type 0} (xs : List A) (y : A) (ys : List A) → slice_get (xs ++ y ∷ ys) (length xs) ≡ Some y
get_behind [] y ys = refl
get_behind (x ∷ xs) y ys = get_behind xs y ys

front_few : {A : Type 0} (n : ℕ) (xs : List A) → length (take n xs) ≤ n
front_few zero xs = omega arith
front_few (suc n) [] = omega arith
front_few (suc n) (x ∷ xs) = omega (arith, front_few n xs)

-- something stands at the first index that passes
pub stands_there : {A : Type 0} (p : A → Bool) (xs : List A) (k : ℕ) → position p xs ≡ Some k → (y : A) × (slice_get xs k ≡ Some y)
stands_there {A} p xs k at = by_item (find p xs) (item-at p xs (position p xs) k at refl) (sym (found_at p xs (position p xs) refl) ∙ ap (λ o. is_some o) at)
  where
    by_item : (o : Option A) → slice_get xs k ≡ o → is_some o ≡ true → (y : A) × (slice_get xs k ≡ Some y)
    by_item None is some = absurd (true≢false (sym some))
    by_item (Some y) is some = (y, is)

found_by : {A : Type 0} (p : A → Bool) (x : A) (xs : List A) (y : A) → (find p xs ≡ Some y → p y ≡ true)
    → (b : Bool) → p x ≡ b → cond b (Some x) (find p xs) ≡ Some y → p y ≡ true
found_by {A} p x xs y rest true passes at = subst (λ (z : A). p z ≡ true) (same_Some x y at) passes
found_by p x xs y rest false fails at = rest at

found_passes : {A : Type 0} (p : A → Bool) (xs : List A) (y : A) → find p xs ≡ Some y → p y ≡ true
found_passes p [] y is = absurd (none-some y is)
found_passes p (x ∷ xs) y is = found_by p x xs y (found_passes p xs y) (p x) refl is

-- and it passes
pub passes_there : {A : Type 0} (p : A → Bool) (xs : List A) (k : ℕ) (y : A) → position p xs ≡ Some k → slice_get xs k ≡ Some y → p y ≡ true
passes_there p xs k y at there = found_passes p xs y (sym (item-at p xs (position p xs) k at refl) ∙ there)

-- ---- ids of their own

among : (xs : List StoredStatement) (k : ℕ) (t : StoredStatement) (id : List ℕ) → slice_get xs k ≡ Some t → t.id ≡ id → is_one_of (ids_of xs) id ≡ true
among [] k t id at same = absurd (none-some t at)
among (x ∷ xs) zero t id at same =
    ap (λ b. b || is_one_of (ids_of xs) id) (bytes_same x.id id (ap (λ (u : StoredStatement). u.id) (same_Some x t at) ∙ same))
among (x ∷ xs) (suc k) t id at same = by_test (bytes_eq x.id id) (among xs k t id at same)
  where
    by_test : (b : Bool) → is_one_of (ids_of xs) id ≡ true → (b || is_one_of (ids_of xs) id) ≡ true
    by_test true more = refl
    by_test false more = more

index_by : (i : ℕ) (x : StoredStatement) (xs : List StoredStatement) (k : ℕ) (t : StoredStatement) → slice_get xs k ≡ Some t → is_one_of (ids_of xs) x.id ≡ false
    → position_from (λ (u : StoredStatement). bytes_eq u.id t.id) (i + 1) xs ≡ Some (i + 1 + k) → (b : Bool) → bytes_eq x.id t.id ≡ b
    → cond b (Some i) (position_from (λ (u : StoredStatement). bytes_eq u.id t.id) (i + 1) xs) ≡ Some (i + suc k)
index_by i x xs k t at apart rest true is = absurd (true≢false (sym (among xs k t x.id at (sym (same_bytes x.id t.id is))) ∙ apart))
index_by i x xs k t at apart rest false is =
    let index : i + 1 + k ≡ i + suc k = omega arith in
    rest ∙ ap (λ (n : ℕ). Some n) index

index_from : (i : ℕ) (xs : List StoredStatement) → are_distinct (ids_of xs) ≡ true → (k : ℕ) (t : StoredStatement) → slice_get xs k ≡ Some t
    → position_from (λ (u : StoredStatement). bytes_eq u.id t.id) i xs ≡ Some (i + k)
index_from i [] distinct k t at = absurd (none-some t at)
index_from i (x ∷ xs) distinct zero t at =
    let here : bytes_eq x.id t.id ≡ true = bytes_same x.id t.id (ap (λ (u : StoredStatement). u.id) (same_Some x t at)) in
    let index : i ≡ i + zero = omega arith in
    ap (λ b. cond b (Some i) (position_from (λ (u : StoredStatement). bytes_eq u.id t.id) (i + 1) xs)) here ∙ ap (λ (n : ℕ). Some n) index
index_from i (x ∷ xs) distinct (suc k) t at =
    let apart : is_one_of (ids_of xs) x.id ≡ false = not-true (is_one_of (ids_of xs) x.id) (first_so (not (is_one_of (ids_of xs) x.id)) (are_distinct (ids_of xs)) distinct) in
    index_by i x xs k t at apart (index_from (i + 1) xs (second_so (not (is_one_of (ids_of xs) x.id)) (are_distinct (ids_of xs)) distinct) k t at)
    (bytes_eq x.id t.id) refl

-- each stands at the first index of its id
pub index_of_id : (xs : List StoredStatement) → are_distinct (ids_of xs) ≡ true → (k : ℕ) (t : StoredStatement) → slice_get xs k ≡ Some t
    → position (λ (u : StoredStatement). bytes_eq u.id t.id) xs ≡ Some k
index_of_id xs distinct k t at =
    let index : 0 + k ≡ k = omega arith in
    position_from-zero (λ (u : StoredStatement). bytes_eq u.id t.id) xs ∙ (index_from 0 xs distinct k t at ∙ ap (λ (n : ℕ). Some n) index)

pub same_index : (xs : List StoredStatement) → are_distinct (ids_of xs) ≡ true → (j k : ℕ) (s t : StoredStatement) → slice_get xs j ≡ Some s → slice_get xs k ≡ Some t → s.id ≡ t.id → j ≡ k
same_index xs distinct j k s t one other same =
    same_Some j k (sym (index_of_id xs distinct j s one) ∙ (ap (λ (id : List ℕ). position (λ (u : StoredStatement). bytes_eq u.id id) xs) same ∙ index_of_id xs distinct k t other))

one_of_more : (xs : List StoredStatement) (s : StoredStatement) (id : List ℕ) → is_one_of (ids_of (xs ++ s ∷ [])) id ≡ (is_one_of (ids_of xs) id || bytes_eq s.id id)
one_of_more [] s id = or_none (bytes_eq s.id id)
one_of_more (x ∷ xs) s id = by_test (bytes_eq x.id id) (one_of_more xs s id)
  where
    by_test : (b : Bool) → is_one_of (ids_of (xs ++ s ∷ [])) id ≡ (is_one_of (ids_of xs) id || bytes_eq s.id id)
        → (b || is_one_of (ids_of (xs ++ s ∷ [])) id) ≡ ((b || is_one_of (ids_of xs) id) || bytes_eq s.id id)
    by_test true more = refl
    by_test false more = more

distinct_push : (held : List StoredStatement) (s : StoredStatement) → are_distinct (ids_of held) ≡ true → is_one_of (ids_of held) s.id ≡ false → are_distinct (ids_of (held ++ s ∷ [])) ≡ true
distinct_push [] s distinct apart = refl
distinct_push (x ∷ xs) s distinct apart =
    ap (λ b. not b && are_distinct (ids_of (xs ++ s ∷ []))) none ∙ distinct_push xs s (second_so (not (is_one_of (ids_of xs) x.id)) (are_distinct (ids_of xs)) distinct) both.1
  where
    both : (bytes_eq x.id s.id ≡ false) × (is_one_of (ids_of xs) s.id ≡ false)
    both = or_parts (bytes_eq x.id s.id) (is_one_of (ids_of xs) s.id) apart

    other : (b : Bool) → bytes_eq s.id x.id ≡ b → b ≡ false
    other true is = absurd (true≢false (sym (bytes_same x.id s.id (sym (same_bytes s.id x.id is))) ∙ both.0))
    other false is = refl

    first : is_one_of (ids_of xs) x.id ≡ false
    first = not-true (is_one_of (ids_of xs) x.id) (first_so (not (is_one_of (ids_of xs) x.id)) (are_distinct (ids_of xs)) distinct)

    none : is_one_of (ids_of (xs ++ s ∷ [])) x.id ≡ false
    none = one_of_more xs s x.id ∙ (ap (λ b. b || bytes_eq s.id x.id) first ∙ other (bytes_eq s.id x.id) refl)

distinct_add : (held : List StoredStatement) (s : StoredStatement) → are_distinct (ids_of held) ≡ true → are_distinct (ids_of (add held s)) ≡ true
distinct_add held s distinct = by_test (is_held s.id held) refl
  where
    by_test : (b : Bool) → is_held s.id held ≡ b → are_distinct (ids_of (if b then held else held ++ s ∷ [])) ≡ true
    by_test true is = distinct
    by_test false is = distinct_push held s distinct (sym (used_held held s.id) ∙ is)

-- what is added leaves the ids distinct
pub distinct_each : (held xs : List StoredStatement) → are_distinct (ids_of held) ≡ true → are_distinct (ids_of (add_each held xs)) ≡ true
distinct_each held [] distinct = distinct
distinct_each held (x ∷ xs) distinct = distinct_each (add held x) xs (distinct_add held x distinct)

-- ---- what is added

pub longer : (held xs : List StoredStatement) → length held ≤ length (add_each held xs)
longer held xs =
    let behind = extends held xs in
    omega (arith, ap (λ (ys : List StoredStatement). length ys) behind.1, length-append held behind.0)

pub front_of : (held xs : List StoredStatement) → take (length held) (add_each held xs) ≡ held
front_of held xs =
    let behind = extends held xs in
    ap (λ (ys : List StoredStatement). take (length held) ys) behind.1 ∙ take_front held behind.0

pub next_added : (held xs : List StoredStatement) (x : StoredStatement) → slice_get (add_each (held ++ x ∷ []) xs) (length held) ≡ Some x
next_added held xs x =
    let behind = extends (held ++ x ∷ []) xs in
    ap (λ (ys : List StoredStatement). slice_get ys (length held)) (behind.1 ∙ append_assoc held (x ∷ []) behind.0) ∙ get_behind held x behind.0

-- ---- marks

pub marks_long : (those xs : List StoredStatement) → length (marked_by those xs) ≡ length xs
marks_long those [] = refl
marks_long those (x ∷ xs) = ap suc (marks_long those xs)

marks_append : (those xs ys : List StoredStatement) → marked_by those (xs ++ ys) ≡ marked_by those xs ++ marked_by those ys
marks_append those [] ys = refl
marks_append those (x ∷ xs) ys = ap (λ (ms : List MarkedStatement). mark x (is_voided those x) ∷ ms) (marks_append those xs ys)

-- as many as stand before it
pub marks_few : (all : List StoredStatement) (at : ℕ) → at + 1 < 2 ^ 64 → length (marked (take at all)) + 1 < 2 ^ 64
marks_few all at few = omega (arith, few, marks_long (take at all) (take at all), front_few at all)

-- by which each is voided alike
marks_same : (a b xs : List StoredStatement) → ((k : ℕ) (t : StoredStatement) → slice_get xs k ≡ Some t → is_voided a t ≡ is_voided b t) → marked_by a xs ≡ marked_by b xs
marks_same a b [] same = refl
marks_same a b (x ∷ xs) same =
    ap (λ (v : Bool). mark x v ∷ marked_by a xs) (same zero x refl)
    ∙ ap (λ (ms : List MarkedStatement). mark x (is_voided b x) ∷ ms) (marks_same a b xs (λ k t at. same (suc k) t at))

-- by which each but one is
record Parted (a b xs : List StoredStatement) (x : StoredStatement) : Type 0 where
  front : List MarkedStatement
  rest : List MarkedStatement
  by_a : marked_by a xs ≡ front ++ mark x (is_voided a x) ∷ rest
  by_b : marked_by b xs ≡ front ++ mark x (is_voided b x) ∷ rest

parted_at : (a b xs : List StoredStatement) (q : ℕ) (x : StoredStatement) → slice_get xs q ≡ Some x
    → ((k : ℕ) (t : StoredStatement) → slice_get xs k ≡ Some t → (k ≡ q → ⊥) → is_voided a t ≡ is_voided b t) → Parted a b xs x
parted_at a b [] q x at same = absurd (none-some x at)
parted_at a b (y ∷ ys) zero x at same =
    let here : y ≡ x = same_Some y x at in
    record {
      front = [];
      rest = marked_by a ys;
      by_a = ap (λ (z : StoredStatement). mark z (is_voided a z) ∷ marked_by a ys) here;
      by_b = ap (λ (z : StoredStatement). mark z (is_voided b z) ∷ marked_by b ys) here
          ∙ ap (λ (ms : List MarkedStatement). mark x (is_voided b x) ∷ ms) (sym (marks_same a b ys (λ k t there. same (suc k) t there (λ is. omega (arith, is)))));
    }
parted_at a b (y ∷ ys) (suc q) x at same =
    let more : Parted a b ys x = parted_at a b ys q x at (λ k t there apart. same (suc k) t there (λ is. apart (omega (arith, is)))) in
    record {
      front = mark y (is_voided a y) ∷ more.front;
      rest = more.rest;
      by_a = ap (λ (ms : List MarkedStatement). mark y (is_voided a y) ∷ ms) more.by_a;
      by_b = ap (λ (v : Bool). mark y v ∷ marked_by b ys) (sym (same zero y refl (λ is. omega (arith, is))))
          ∙ ap (λ (ms : List MarkedStatement). mark y (is_voided a y) ∷ ms) more.by_b;
    }

-- ---- what one statement more voids

one_target : (a b : List ℕ) (s : StoredStatement) → voids a s ≡ true → voids b s ≡ true → a ≡ b
one_target a b s one other = by_target (voided_by s) one other
  where
    by_target : (o : Option (List ℕ)) → is_that_id a o ≡ true → is_that_id b o ≡ true → a ≡ b
    by_target None one other = absurd (true≢false (sym one))
    by_target (Some id) one other = sym (same_bytes id a one) ∙ same_bytes id b other

-- who voids is voiding, and refers to what it voids
voiding_target : (id : List ℕ) (s : StoredStatement) → voids id s ≡ true → (target_of (view s.received) ≡ Some id) × (is_voiding (view s.received) ≡ true)
voiding_target id s is = by_verb (is_voiding (view s.received)) (target_of (view s.received)) is
  where
    by_verb : (b : Bool) (o : Option (List ℕ)) → is_that_id id (if b then o else None) ≡ true → (o ≡ Some id) × (b ≡ true)
    by_verb true None is = absurd (true≢false (sym is))
    by_verb true (Some other) is = (ap (λ (x : List ℕ). Some x) (same_bytes other id is), refl)
    by_verb false o is = absurd (true≢false (sym is))

voided_more : (those : List StoredStatement) (s t : StoredStatement)
    → is_voided (those ++ s ∷ []) t ≡ (not (is_voiding (view t.received)) && (is_target t.id those || (voids t.id s || false)))
voided_more those s t = ap (λ (b : Bool). not (is_voiding (view t.received)) && b) (list_any-append (voids t.id) those (s ∷ []))

-- what it doesn't void is voided as before
stays : (those : List StoredStatement) (s t : StoredStatement) → voids t.id s ≡ false → is_voided (those ++ s ∷ []) t ≡ is_voided those t
stays those s t none =
    voided_more those s t
    ∙ (ap (λ (b : Bool). not (is_voiding (view t.received)) && (is_target t.id those || (b || false))) none
    ∙ ap (λ (b : Bool). not (is_voiding (view t.received)) && b) (or_none (is_target t.id those)))

-- what was voided is voided still
still : (those : List StoredStatement) (s t : StoredStatement) → is_voided those t ≡ true → is_voided (those ++ s ∷ []) t ≡ true
still those s t is = voided_more those s t ∙ by_parts (is_voiding (view t.received)) (is_target t.id those) is
  where
    by_parts : (v g : Bool) → (not v && g) ≡ true → (not v && (g || (voids t.id s || false))) ≡ true
    by_parts true g is = absurd (true≢false (sym is))
    by_parts false true is = refl
    by_parts false false is = absurd (true≢false (sym is))

-- what is voided by it alone
newly : (those : List StoredStatement) (s t : StoredStatement) → is_voided those t ≡ false → is_voided (those ++ s ∷ []) t ≡ true → (voids t.id s ≡ true) × (is_voiding (view t.received) ≡ false)
newly those s t old new = by_parts (is_voiding (view t.received)) (is_target t.id those) (voids t.id s) old (sym (voided_more those s t) ∙ new)
  where
    by_parts : (v g w : Bool) → (not v && g) ≡ false → (not v && (g || (w || false))) ≡ true → (w ≡ true) × (v ≡ false)
    by_parts true g w old new = absurd (true≢false (sym new))
    by_parts false true w old new = absurd (true≢false old)
    by_parts false false true old new = (refl, refl)
    by_parts false false false old new = absurd (true≢false (sym new))

-- ---- by position

-- the first ones, and the one behind them
voided_on : (all : List StoredStatement) (at : ℕ) (s t : StoredStatement) → slice_get all at ≡ Some s → is_voided (take (at + 1) all) t ≡ is_voided (take at all ++ s ∷ []) t
voided_on all at s t there = ap (λ (xs : List StoredStatement). is_voided xs t) (take_next all at s there)

-- it refers to what it voids
refers : (all : List StoredStatement) (at k : ℕ) (s t : StoredStatement) → are_distinct (ids_of all) ≡ true → slice_get all at ≡ Some s → slice_get all k ≡ Some t → k < at
    → voids t.id s ≡ true → referred_at (take (at + 1) all) at ≡ Some k
refers all at k s t distinct there other before is =
    let front : List StoredStatement = take (at + 1) all in
    let target : target_of (view s.received) ≡ Some t.id = (voiding_target t.id s is).0 in
    let on : nat_lt k (at + 1) ≡ true = lt_yes k (at + 1) (omega (arith, before)) in
    let index : position (λ (u : StoredStatement). bytes_eq u.id t.id) all ≡ Some k = index_of_id all distinct k t other in
    ap (λ (o : Option StoredStatement). option_and_then (position_referred front) o) (get_first (at + 1) all at (omega arith) ∙ there)
    ∙ (ap (λ (o : Option (List ℕ)). option_and_then (λ (id : List ℕ). position (λ (u : StoredStatement). bytes_eq u.id id) front) o) target
    ∙ sym (index_first (λ (u : StoredStatement). bytes_eq u.id t.id) (at + 1) all (position (λ (u : StoredStatement). bytes_eq u.id t.id) all) k index refl on))

anew : (all : List StoredStatement) (at k : ℕ) (t : StoredStatement) → slice_get all k ≡ Some t → is_voided (take at all) t ≡ false → is_voided (take (at + 1) all) t ≡ true → is_voided_anew all at k ≡ true
anew all at k t there old new =
    ap (λ (o : Option StoredStatement). not (option_map_or (is_voided (take at all)) o false) && option_map_or (is_voided (take (at + 1) all)) o false) there
    ∙ (ap (λ (b : Bool). not b && is_voided (take (at + 1) all) t) old ∙ new)

-- It voids none that stands: only its own mark comes.
pub no_event : (all : List StoredStatement) (at : ℕ) (s : StoredStatement) → are_distinct (ids_of all) ≡ true → slice_get all at ≡ Some s → voided_anew all at ≡ None
    → marked (take (at + 1) all) ≡ marked (take at all) ++ mark s (is_voided (take (at + 1) all) s) ∷ []
no_event all at s distinct there none =
    ap (λ (xs : List StoredStatement). marked_by (take (at + 1) all) xs) (take_next all at s there)
    ∙ (marks_append (take (at + 1) all) (take at all) (s ∷ [])
    ∙ ap (λ (ms : List MarkedStatement). ms ++ mark s (is_voided (take (at + 1) all) s) ∷ []) (marks_same (take (at + 1) all) (take at all) (take at all) same))
  where
    contrary : (k : ℕ) (t : StoredStatement) → (k < at) × (slice_get all k ≡ Some t) → is_voided (take at all) t ≡ false → is_voided (take (at + 1) all) t ≡ true → ⊥
    contrary k t index old new =
        let voided : voids t.id s ≡ true = (newly (take at all) s t old (sym (voided_on all at s t there) ∙ new)).0 in
        let found : voided_anew all at ≡ Some k =
        ap (λ (o : Option ℕ). option_and_then (λ (position : ℕ). if is_voided_anew all at position then Some position else None) o) (refers all at k s t distinct there index.1 index.0 voided)
        ∙ ap (λ (b : Bool). if b then Some k else None) (anew all at k t index.1 old new) in
        none-some k (sym none ∙ found)

    decide : (k : ℕ) (t : StoredStatement) → (k < at) × (slice_get all k ≡ Some t) → (old new : Bool) → is_voided (take at all) t ≡ old → is_voided (take (at + 1) all) t ≡ new
        → is_voided (take (at + 1) all) t ≡ is_voided (take at all) t
    decide k t index true new was is = voided_on all at s t there ∙ still (take at all) s t was ∙ sym was
    decide k t index false true was is = absurd (contrary k t index was is)
    decide k t index false false was is = is ∙ sym was

    same : (k : ℕ) (t : StoredStatement) → slice_get (take at all) k ≡ Some t → is_voided (take (at + 1) all) t ≡ is_voided (take at all) t
    same k t found = decide k t (within_front at all k t found) (is_voided (take at all) t) (is_voided (take (at + 1) all) t) refl refl

-- It voids one that stands: that one's mark changes, and its own comes.
pub record Voiding (all : List StoredStatement) (at : ℕ) (s : StoredStatement) (q : ℕ) : Type 0 where
  pub voided : StoredStatement
  pub there : slice_get all q ≡ Some voided
  pub by : voids voided.id s ≡ true
  pub front : List MarkedStatement
  pub rest : List MarkedStatement
  pub old : marked (take at all) ≡ front ++ mark voided false ∷ rest
  pub new : marked (take (at + 1) all) ≡ front ++ mark voided true ∷ (rest ++ mark s (is_voided (take (at + 1) all) s) ∷ [])

-- what is told of the one that is found
record Found (all : List StoredStatement) (at q : ℕ) : Type 0 where
  item : StoredStatement
  there : slice_get all q ≡ Some item
  old : is_voided (take at all) item ≡ false
  new : is_voided (take (at + 1) all) item ≡ true

found_anew : (all : List StoredStatement) (at q : ℕ) → is_voided_anew all at q ≡ true → Found all at q
found_anew all at q is = by_item (slice_get all q) refl is
  where
    by_item : (o : Option StoredStatement) → slice_get all q ≡ o
        → (not (option_map_or (is_voided (take at all)) o false) && option_map_or (is_voided (take (at + 1) all)) o false) ≡ true → Found all at q
    by_item None at_q is = absurd (true≢false (sym is))
    by_item (Some x) at_q is = record {
      item = x;
      there = at_q;
      old = not-true (is_voided (take at all) x) (first_so (not (is_voided (take at all) x)) (is_voided (take (at + 1) all) x) is);
      new = second_so (not (is_voided (take at all) x)) (is_voided (take (at + 1) all) x) is;
    }

index_anew : (all : List StoredStatement) (at q : ℕ) → voided_anew all at ≡ Some q → (referred_at (take (at + 1) all) at ≡ Some q) × (is_voided_anew all at q ≡ true)
index_anew all at q is = by_index (referred_at (take (at + 1) all) at) refl is
  where
    by_index : (o : Option ℕ) → referred_at (take (at + 1) all) at ≡ o → option_and_then (λ (position : ℕ). if is_voided_anew all at position then Some position else None) o ≡ Some q
        → (referred_at (take (at + 1) all) at ≡ Some q) × (is_voided_anew all at q ≡ true)
    by_index None refers is = absurd (none-some q is)
    by_index (Some p) refers is =
        let both : (is_voided_anew all at p ≡ true) × (p ≡ q) = cond_some (is_voided_anew all at p) p q is in
        (refers ∙ ap (λ (n : ℕ). Some n) both.1, subst (λ (n : ℕ). is_voided_anew all at n ≡ true) both.1 both.0)

-- what it refers to is no later than itself
referred_within : (all : List StoredStatement) (at q : ℕ) → referred_at (take (at + 1) all) at ≡ Some q → q < at + 1
referred_within all at q is = by_item (slice_get (take (at + 1) all) at) is
  where
    by_target : (o : Option (List ℕ)) → option_and_then (λ (id : List ℕ). position (λ (u : StoredStatement). bytes_eq u.id id) (take (at + 1) all)) o ≡ Some q → q < at + 1
    by_target None is = absurd (none-some q is)
    by_target (Some id) is =
        let found = stands_there (λ (u : StoredStatement). bytes_eq u.id id) (take (at + 1) all) q is in
        (within_front (at + 1) all q found.0 found.1).0

    by_item : (o : Option StoredStatement) → option_and_then (position_referred (take (at + 1) all)) o ≡ Some q → q < at + 1
    by_item None is = absurd (none-some q is)
    by_item (Some s) is = by_target (target_of (view s.received)) is

-- one that it doesn't void
other_stays : (all : List StoredStatement) (at : ℕ) (s t : StoredStatement) → slice_get all at ≡ Some s → (voids t.id s ≡ true → ⊥) → is_voided (take (at + 1) all) t ≡ is_voided (take at all) t
other_stays all at s t there apart = by_test (voids t.id s) refl
  where
    by_test : (b : Bool) → voids t.id s ≡ b → is_voided (take (at + 1) all) t ≡ is_voided (take at all) t
    by_test true both = absurd (apart both)
    by_test false none = voided_on all at s t there ∙ stays (take at all) s t none

pub voiding_at : (all : List StoredStatement) (at : ℕ) (s : StoredStatement) (q : ℕ) → are_distinct (ids_of all) ≡ true → slice_get all at ≡ Some s → voided_anew all at ≡ Some q → Voiding all at s q
voiding_at all at s q distinct there is = record {
  voided = found.item;
  there = found.there;
  by = only.0;
  front = parts.front;
  rest = parts.rest;
  old = parts.by_b ∙ ap (λ (v : Bool). parts.front ++ mark found.item v ∷ parts.rest) found.old;
  new = ap (λ (xs : List StoredStatement). marked_by (take (at + 1) all) xs) (take_next all at s there)
      ∙ (marks_append (take (at + 1) all) (take at all) (s ∷ [])
      ∙ (ap (λ (ms : List MarkedStatement). ms ++ mark s (is_voided (take (at + 1) all) s) ∷ [])
      (parts.by_a ∙ ap (λ (v : Bool). parts.front ++ mark found.item v ∷ parts.rest) found.new)
      ∙ append_assoc parts.front (mark found.item true ∷ parts.rest) (mark s (is_voided (take (at + 1) all) s) ∷ [])));
}
  where
    index : (referred_at (take (at + 1) all) at ≡ Some q) × (is_voided_anew all at q ≡ true)
    index = index_anew all at q is

    found : Found all at q
    found = found_anew all at q index.1

    only : (voids found.item.id s ≡ true) × (is_voiding (view found.item.received) ≡ false)
    only = newly (take at all) s found.item found.old (sym (voided_on all at s found.item there) ∙ found.new)

    -- it isn't the one that voids
    other : q ≡ at → ⊥
    other same =
        let here : s ≡ found.item = same_Some s found.item (sym there ∙ (ap (λ (n : ℕ). slice_get all n) (sym same) ∙ found.there)) in
        true≢false (sym (voiding_target found.item.id s only.0).1 ∙ (ap (λ (t : StoredStatement). is_voiding (view t.received)) here ∙ only.1))

    before : (b : Bool) → nat_lt q at ≡ b → q < at
    before true less = grind (arith, common_steps)
    before false more =
        let past : at ≤ q = grind (arith, common_steps) in
        let no_later : q < at + 1 = referred_within all at q index.0 in
        absurd (other (omega (arith, past, no_later)))

    within : slice_get (take at all) q ≡ Some found.item
    within = get_first at all q (before (nat_lt q at) refl) ∙ found.there

    others : (k : ℕ) (t : StoredStatement) → slice_get (take at all) k ≡ Some t → (k ≡ q → ⊥) → is_voided (take (at + 1) all) t ≡ is_voided (take at all) t
    others k t here apart =
        other_stays all at s t there
        (λ both. apart (same_index all distinct k q t found.item (within_front at all k t here).1 found.there (one_target t.id found.item.id s both only.0)))

    parts : Parted (take (at + 1) all) (take at all) (take at all) found.item
    parts = parted_at (take (at + 1) all) (take at all) (take at all) q found.item within others
