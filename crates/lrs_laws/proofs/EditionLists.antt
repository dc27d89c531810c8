-- Editions that come one after the other: their numbers, the last one of an id, and what is counted of each id.
use Rattle.std.proofs.Common.{◌≡◌, ◌⊎◌, inl, inr, ℕ, zero, suc, ◌+◌, ◌<◌, ◌≤◌, ◌==◌, ◌&&◌, ◌||◌, List, [], ◌∷◌, ◌++◌, length, map, take, Bool, true, false, Option, Some, None, cond, refl, sym, ap, subst, ◌∙◌, arith, length-append, append-nil, eq-eqb}
use Rattle.std.specs.Prelude.{find, option_and_then, option_map, position, slice_get, if◌then◌else◌}
use Rattle.std.specs.List.{AllByRecursion, last_or}
use Rattle.std.specs.Option.{option_or}
use Rattle.std.specs.Str.{bytes_eq}
use Rattle.std.specs.Cmp.{first_so, second_so}
use Rattle.std.proofs.lemmas.Bool.Decides.{nat_tests}
use Rattle.std.proofs.lemmas.List.{map-append}
use Rattle.std.proofs.lemmas.List.Elements.{filter-append}
use Rattle.std.proofs.lemmas.List.Folds.{find-append}
use Rattle.std.proofs.lemmas.Option.{slice_get_within}
use Rattle.std.proofs.lemmas.Slice.Eq.{bytes_eq-Decides}
use Rattle.cmi5_course.specs.Courses.{Course, course_key}
use Rattle.lrs_history.specs.DeskEffects.{next_number, with_one_more}
use Rattle.lrs_ids.specs.Ids.{are_distinct}
use Rattle.lrs_laws.proofs.Keepers.{distinct_push}
use Rattle.lrs_laws.proofs.Lists.{each_found, each_push, each_weaker, found_passes}
use Rattle.lrs_laws.proofs.WholeBatches.{there}
use Rattle.lrs_laws.specs.Editions.{count_if_any, editions_of}
use Rattle.lrs_names.specs.Members.{is_one_of}
use Rattle.lrs_register.proofs.Firsts.{position-item, position-push}
use Rattle.lrs_register.specs.Register.{with_first}
use Rattle.lrs_state.specs.Courses.{course_under, courses_after, key_of_course, newest_edition}
use Rattle.lrs_state.specs.Editions.{SeenEdition, edition_under, index_of_edition, is_edition_of}
use Rattle.lrs_state.specs.declared.courses.HeldCourse.{HeldCourse}

-- ---- lists

-- what stands in a list with one more stood there before, or is that one
at_push : {A : Type 0} (xs : List A) (y : A) (k : ℕ) (x : A) → slice_get (xs ++ y ∷ []) k ≡ Some x → (slice_get xs k ≡ Some x) ⊎ ((k ≡ length xs) × (y ≡ x))
at_push [] y zero x is = inr (refl, cc is)
at_push [] y (suc k) x is = cc is
at_push (z ∷ xs) y zero x is = inl is
at_push {A} (z ∷ xs) y (suc k) x is = by_rest (at_push xs y k x is)
  where
    by_rest : (slice_get xs k ≡ Some x) ⊎ ((k ≡ length xs) × (y ≡ x)) → (slice_get (z ∷ xs) (suc k) ≡ Some x) ⊎ ((suc k ≡ length (z ∷ xs)) × (y ≡ x))
    by_rest (inl at) = inl at
    by_rest (inr both) = inr (ap suc both.0, both.1)

take_front : {A : Type 0} (xs ys : List A) (k : ℕ) → k ≤ length xs → take k (xs ++ ys) ≡ take k xs
take_front xs ys zero le = refl
take_front [] ys (suc k) le = absurd (omega (arith, le))
take_front (x ∷ xs) ys (suc k) le = ap (λ zs. x ∷ zs) (take_front xs ys k (omega (arith, le)))

take_whole : {A : Type 0} (xs ys : List A) → take (length xs) (xs ++ ys) ≡ xs
take_whole [] ys = refl
take_whole (x ∷ xs) ys = ap (λ zs. x ∷ zs) (take_whole xs ys)

last_push : {A : Type 0} (o : Option A) (xs : List A) (y : A) → last_or o (xs ++ y ∷ []) ≡ Some y
last_push o [] y = refl
last_push o (x ∷ xs) y = last_push (Some x) xs y

or_none : {A : Type 0} (o : Option A) → option_or o None ≡ o
or_none None = refl
or_none (Some a) = refl

pub same_key : (a b : List ℕ) → bytes_eq a b ≡ true → a ≡ b
same_key a b is = (bytes_eq-Decides a b).0 is

pub own_key : (a : List ℕ) → bytes_eq a a ≡ true
own_key a = (bytes_eq-Decides a a).1 refl

same_number : (a b : ℕ) → (a == b) ≡ true → a ≡ b
same_number a b is = grind (arith, nat_tests)

-- what isn't found has no index
pub no_index : {A : Type 0} (p : A → Bool) (xs : List A) → find p xs ≡ None → position p xs ≡ None
no_index {A} p xs none = by_index (position p xs) refl
  where
    by_index : (o : Option ℕ) → position p xs ≡ o → o ≡ None
    by_index None is = refl
    by_index (Some k) is =
        let held = there p xs k is in
        let no : Some held.0 ≡ None = sym held.1 ∙ (ap (λ q. option_and_then (λ i. slice_get xs i) q) (sym is) ∙ (position-item p xs ∙ none)) in
        cc no

-- an item put in the place of the first that passes is found there
first_found : {A : Type 0} (p : A → Bool) (item h : A) (xs : List A) → find p xs ≡ Some h → p item ≡ true → find p (with_first p item xs) ≡ Some item
first_found p item h [] is passes = cc is
first_found {A} p item h (x ∷ xs) is passes = by_test (p x) refl is (λ later. first_found p item h xs later passes)
  where
    by_test : (b : Bool) → p x ≡ b → cond b (Some x) (find p xs) ≡ Some h → (find p xs ≡ Some h → find p (with_first p item xs) ≡ Some item)
        → find p (if b then item ∷ xs else x ∷ with_first p item xs) ≡ Some item
    by_test true here at more = ap (λ b. cond b (Some item) (find p xs)) passes
    by_test false here at more = ap (λ b. cond b (Some x) (find p (with_first p item xs))) here ∙ more at

-- and others are found as before
first_apart : {A : Type 0} (p q : A → Bool) (item : A) → ((x : A) → q x ≡ true → p x ≡ false) → p item ≡ false → (xs : List A) → find p (with_first q item xs) ≡ find p xs
first_apart p q item apart other [] = refl
first_apart {A} p q item apart other (x ∷ xs) = by_test (q x) refl (first_apart p q item apart other xs)
  where
    by_test : (b : Bool) → q x ≡ b → find p (with_first q item xs) ≡ find p xs → find p (if b then item ∷ xs else x ∷ with_first q item xs) ≡ cond (p x) (Some x) (find p xs)
    by_test true here more = ap (λ b. cond b (Some item) (find p xs)) other ∙ sym (ap (λ b. cond b (Some x) (find p xs)) (apart x here))
    by_test false here more = ap (λ o. cond (p x) (Some x) o) more

-- what it is found by stays
first_keys : {A : Type 0} (key : A → List ℕ) (q : A → Bool) (item : A) → ((x : A) → q x ≡ true → key x ≡ key item) → (xs : List A) → map key (with_first q item xs) ≡ map key xs
first_keys key q item same [] = refl
first_keys {A} key q item same (x ∷ xs) = by_test (q x) refl (first_keys key q item same xs)
  where
    by_test : (b : Bool) → q x ≡ b → map key (with_first q item xs) ≡ map key xs → map key (if b then item ∷ xs else x ∷ with_first q item xs) ≡ key x ∷ map key xs
    by_test true here more = ap (λ k. k ∷ map key xs) (sym (same x here))
    by_test false here more = ap (λ ks. key x ∷ ks) more

-- an id under which no course is found is the id of none
no_key : (id : List ℕ) (courses : List HeldCourse) → course_under id courses ≡ None → is_one_of (map key_of_course courses) id ≡ false
no_key id [] none = refl
no_key id (c ∷ courses) none = by_test (bytes_eq c.id id) refl none (λ later. no_key id courses later)
  where
    by_test : (b : Bool) → bytes_eq c.id id ≡ b → cond b (Some c) (course_under id courses) ≡ None → (course_under id courses ≡ None → is_one_of (map key_of_course courses) id ≡ false)
        → is_one_of (map key_of_course (c ∷ courses)) id ≡ false
    by_test true here at more = cc at
    by_test false other at more = ap (λ b. b || is_one_of (map key_of_course courses) id) other ∙ more at

-- ---- what is counted

abbrev pub count : List ℕ → List SeenEdition → ℕ
count id editions = length (editions_of id editions)

count_push : (es : List SeenEdition) (e : SeenEdition) → count_if_any (es ++ e ∷ []) ≡ Some (length es + 1)
count_push [] e = refl
count_push (x ∷ es) e = ap Some (length-append (x ∷ es) (e ∷ []))

-- the next number is that of one edition more
next_is : (o : Option HeldCourse) (es : List SeenEdition) → option_map (λ (c : HeldCourse). c.editions) o ≡ count_if_any es → next_number o ≡ length es + 1
next_is None [] is = refl
next_is None (e ∷ es) is = cc is
next_is (Some c) [] is = cc is
next_is (Some c) (e ∷ es) is =
    let same : c.editions ≡ length (e ∷ es) = cc is in
    ap (λ n. n + 1) same

abbrev IsBounded : List SeenEdition → SeenEdition → Type 0
IsBounded editions e = e.number ≤ count (course_key e.course) editions

-- Editions are numbered by id, and what is counted of each id is their number.
pub record AreInOrder (es : List SeenEdition) (cs : List HeldCourse) : Type 0 where
  pub numbers : (k : ℕ) (e : SeenEdition) → slice_get es k ≡ Some e → e.number ≡ count (course_key e.course) (take k es) + 1
  pub bounded : AllByRecursion (IsBounded es) es
  pub found : (k : ℕ) (e : SeenEdition) → slice_get es k ≡ Some e → index_of_edition (course_key e.course) e.number es ≡ Some k
  pub newest : (id : List ℕ) → newest_edition id cs es ≡ last_or None (editions_of id es)
  pub counts : (id : List ℕ) → option_map (λ (c : HeldCourse). c.editions) (course_under id cs) ≡ count_if_any (editions_of id es)
  pub apart : are_distinct (map key_of_course cs) ≡ true

pub none_in_order : AreInOrder [] []
none_in_order = record {
  numbers = λ k e is. cc is;
  bounded = tt;
  found = λ k e is. cc is;
  newest = λ id. refl;
  counts = λ id. refl;
  apart = refl;
}

-- ---- an edition more

module _ (es : List SeenEdition) (cs : List HeldCourse) (old : AreInOrder es cs) (course : Course) where
  abbrev id : List ℕ
  id = course_key course

  abbrev held : Option HeldCourse
  held = course_under id cs

  abbrev new : SeenEdition
  new = record { course = course; number = next_number held }

  number_is : next_number held ≡ count id es + 1
  number_is = next_is held (editions_of id es) (old.counts id)

  -- those of an id, with the new one if it is of that id
  of_id : (i : List ℕ) (b : Bool) → bytes_eq id i ≡ b → editions_of i (es ++ new ∷ []) ≡ editions_of i es ++ cond b (new ∷ []) []
  of_id i b is =
      filter-append (λ (e : SeenEdition). bytes_eq (course_key e.course) i) es (new ∷ []) ∙ ap (λ c. editions_of i es ++ cond c (new ∷ []) []) is

  count_own : count id (es ++ new ∷ []) ≡ count id es + 1
  count_own = ap (λ (l : List SeenEdition). length l) (of_id id true (own_key id)) ∙ length-append (editions_of id es) (new ∷ [])

  count_more : (i : List ℕ) → count i es ≤ count i (es ++ new ∷ [])
  count_more i =
      let all : count i (es ++ new ∷ []) ≡ length (editions_of i es ++ cond (bytes_eq id i) (new ∷ []) []) = ap (λ (l : List SeenEdition). length l) (of_id i (bytes_eq id i) refl) in
      let sum : length (editions_of i es ++ cond (bytes_eq id i) (new ∷ []) []) ≡ count i es + length (cond (bytes_eq id i) (new ∷ []) []) =
      length-append (editions_of i es) (cond (bytes_eq id i) (new ∷ []) []) in
      omega (arith, all, sum)

  -- none had its number
  none_yet : find (is_edition_of id (next_number held)) es ≡ None
  none_yet = by_found (find (is_edition_of id (next_number held)) es) refl
    where
      by_found : (o : Option SeenEdition) → find (is_edition_of id (next_number held)) es ≡ o → o ≡ None
      by_found None is = refl
      by_found (Some e) is =
          let passes : (e.number == next_number held) && bytes_eq (course_key e.course) id ≡ true = found_passes (is_edition_of id (next_number held)) es e is in
          let alike : (e.number == next_number held) ≡ true = first_so (e.number == next_number held) (bytes_eq (course_key e.course) id) passes in
          let same : course_key e.course ≡ id = same_key (course_key e.course) id (second_so (e.number == next_number held) (bytes_eq (course_key e.course) id) passes) in
          let low : e.number ≤ count (course_key e.course) es = each_found (IsBounded es) (is_edition_of id (next_number held)) es e old.bounded is in
          let under : e.number ≤ count id es = subst (λ i. e.number ≤ count i es) same low in
          let number : e.number ≡ next_number held = same_number e.number (next_number held) alike in
          absurd (omega (arith, under, number, number_is))

  -- ---- the courses

  -- under its own id it is counted
  own_course : (o : Option HeldCourse) → held ≡ o → (c : HeldCourse) × (course_under id (courses_after cs (with_one_more id o)) ≡ Some c) × (c.editions ≡ next_number o)
  own_course None is = (
    record { id = id; editions = 1 },
    find-append (λ (c : HeldCourse). bytes_eq c.id id) cs (record { id = id; editions = 1 } ∷ [])
        ∙ (ap (λ p. option_or p (cond (bytes_eq id id) (Some (record { id = id; editions = 1 })) None)) is
        ∙ ap (λ b. cond b (Some (record { id = id; editions = 1 })) None) (own_key id)),
    refl,
  )
  own_course (Some h) is =
      let item : HeldCourse = record h { editions = h.editions + 1 } in
      let here : h.id ≡ id = same_key h.id id (found_passes (λ (c : HeldCourse). bytes_eq c.id id) cs h is) in (
        item,
        subst (λ i. find (λ (c : HeldCourse). bytes_eq c.id i) (with_first (λ (c : HeldCourse). bytes_eq c.id h.id) item cs) ≡ Some item) here
            (first_found (λ (c : HeldCourse). bytes_eq c.id h.id) item h cs (ap (λ i. course_under i cs) here ∙ is) (own_key h.id)),
        refl,
      )

  -- and nothing else changes
  other_course : (i : List ℕ) → bytes_eq id i ≡ false → (o : Option HeldCourse) → held ≡ o → course_under i (courses_after cs (with_one_more id o)) ≡ course_under i cs
  other_course i other None is =
      find-append (λ (c : HeldCourse). bytes_eq c.id i) cs (record { id = id; editions = 1 } ∷ [])
      ∙ (ap (λ b. option_or (course_under i cs) (cond b (Some (record { id = id; editions = 1 })) None)) other ∙ or_none (course_under i cs))
  other_course i other (Some h) is =
      let here : h.id ≡ id = same_key h.id id (found_passes (λ (c : HeldCourse). bytes_eq c.id id) cs h is) in
      first_apart (λ (c : HeldCourse). bytes_eq c.id i) (λ (c : HeldCourse). bytes_eq c.id h.id) (record h { editions = h.editions + 1 })
      (λ c at. ap (λ k. bytes_eq k i) (same_key c.id h.id at ∙ here) ∙ other) (ap (λ k. bytes_eq k i) here ∙ other) cs

  apart_still : (o : Option HeldCourse) → held ≡ o → are_distinct (map key_of_course (courses_after cs (with_one_more id o))) ≡ true
  apart_still None is =
      ap are_distinct (map-append key_of_course cs (record { id = id; editions = 1 } ∷ [])) ∙ (distinct_push (map key_of_course cs) id (no_key id cs is) ∙ old.apart)
  apart_still (Some h) is =
      ap are_distinct (first_keys key_of_course (λ (c : HeldCourse). bytes_eq c.id h.id) (record h { editions = h.editions + 1 }) (λ c at. same_key c.id h.id at) cs) ∙ old.apart

  -- ---- the newest

  abbrev later : List HeldCourse
  later = courses_after cs (with_one_more id held)

  -- it passes its own test
  own_test : is_edition_of id (next_number held) new ≡ true
  own_test = ap (λ b. (next_number held == next_number held) && b) (own_key id) ∙ ap (λ b. b && true) (eq-eqb (next_number held) (next_number held) refl)

  newest_own : newest_edition id later (es ++ new ∷ []) ≡ last_or None (editions_of id (es ++ new ∷ []))
  newest_own =
      let own = own_course held refl in
      ap (λ o. option_and_then (λ (c : HeldCourse). edition_under id c.editions (es ++ new ∷ [])) o) own.1
      ∙ (ap (λ n. edition_under id n (es ++ new ∷ [])) own.2
      ∙ (find-append (is_edition_of id (next_number held)) es (new ∷ [])
      ∙ (ap (λ o. option_or o (cond (is_edition_of id (next_number held) new) (Some new) None)) none_yet
      ∙ (ap (λ b. cond b (Some new) None) own_test
      ∙ sym (ap (λ (l : List SeenEdition). last_or None l) (of_id id true (own_key id)) ∙ last_push None (editions_of id es) new)))))

  other_edition : (i : List ℕ) → bytes_eq id i ≡ false → (n : ℕ) → edition_under i n (es ++ new ∷ []) ≡ edition_under i n es
  other_edition i other n =
      find-append (is_edition_of i n) es (new ∷ [])
      ∙ (ap (λ b. option_or (edition_under i n es) (cond ((next_number held == n) && b) (Some new) None)) other
      ∙ (ap (λ b. option_or (edition_under i n es) (cond b (Some new) None)) (never (next_number held == n)) ∙ or_none (edition_under i n es)))
    where
      never : (b : Bool) → b && false ≡ false
      never true = refl
      never false = refl

  newest_other : (i : List ℕ) → bytes_eq id i ≡ false → newest_edition i later (es ++ new ∷ []) ≡ last_or None (editions_of i (es ++ new ∷ []))
  newest_other i other =
      ap (λ o. option_and_then (λ (c : HeldCourse). edition_under i c.editions (es ++ new ∷ [])) o) (other_course i other held refl)
      ∙ (by_course (course_under i cs)
      ∙ (old.newest i
      ∙ sym (ap (λ (l : List SeenEdition). last_or None l) (of_id i false other ∙ append-nil (editions_of i es)))))
    where
      by_course : (o : Option HeldCourse) → option_and_then (λ (c : HeldCourse). edition_under i c.editions (es ++ new ∷ [])) o
          ≡ option_and_then (λ (c : HeldCourse). edition_under i c.editions es) o
      by_course None = refl
      by_course (Some c) = other_edition i other c.editions

  newest_now : (i : List ℕ) (b : Bool) → bytes_eq id i ≡ b → newest_edition i later (es ++ new ∷ []) ≡ last_or None (editions_of i (es ++ new ∷ []))
  newest_now i true is = subst (λ j. newest_edition j later (es ++ new ∷ []) ≡ last_or None (editions_of j (es ++ new ∷ []))) (same_key id i is) newest_own
  newest_now i false is = newest_other i is

  counts_own : option_map (λ (c : HeldCourse). c.editions) (course_under id later) ≡ count_if_any (editions_of id (es ++ new ∷ []))
  counts_own =
      let own = own_course held refl in
      ap (λ o. option_map (λ (c : HeldCourse). c.editions) o) own.1
      ∙ (ap Some (own.2 ∙ number_is)
      ∙ sym (ap count_if_any (of_id id true (own_key id)) ∙ count_push (editions_of id es) new))

  counts_now : (i : List ℕ) (b : Bool) → bytes_eq id i ≡ b → option_map (λ (c : HeldCourse). c.editions) (course_under i later) ≡ count_if_any (editions_of i (es ++ new ∷ []))
  counts_now i true is =
      subst (λ j. option_map (λ (c : HeldCourse). c.editions) (course_under j later) ≡ count_if_any (editions_of j (es ++ new ∷ []))) (same_key id i is) counts_own
  counts_now i false is =
      ap (λ o. option_map (λ (c : HeldCourse). c.editions) o) (other_course i is held refl)
      ∙ (old.counts i ∙ sym (ap count_if_any (of_id i false is ∙ append-nil (editions_of i es))))

  -- ---- each edition

  numbers_now : (k : ℕ) (e : SeenEdition) → slice_get (es ++ new ∷ []) k ≡ Some e → e.number ≡ count (course_key e.course) (take k (es ++ new ∷ [])) + 1
  numbers_now k e is = by_place (at_push es new k e is)
    where
      by_place : (slice_get es k ≡ Some e) ⊎ ((k ≡ length es) × (new ≡ e)) → e.number ≡ count (course_key e.course) (take k (es ++ new ∷ [])) + 1
      by_place (inl at) =
          let within : k < length es = slice_get_within es k e at in
          old.numbers k e at ∙ ap (λ (l : List SeenEdition). count (course_key e.course) l + 1) (sym (take_front es (new ∷ []) k (omega (arith, within))))
      by_place (inr both) =
          subst (λ (x : SeenEdition). x.number ≡ count (course_key x.course) (take k (es ++ new ∷ [])) + 1) both.1
          (number_is ∙ ap (λ (l : List SeenEdition). count id l + 1) (sym (ap (λ n. take n (es ++ new ∷ [])) both.0 ∙ take_whole es (new ∷ []))))

  still_bounded : (e : SeenEdition) → IsBounded es e → IsBounded (es ++ new ∷ []) e
  still_bounded e low = omega (arith, low, count_more (course_key e.course))

  new_bounded : next_number held ≤ count id (es ++ new ∷ [])
  new_bounded = omega (arith, number_is, count_own)

  bounded_now : AllByRecursion (IsBounded (es ++ new ∷ [])) (es ++ new ∷ [])
  bounded_now =
      each_push (IsBounded (es ++ new ∷ [])) es new (each_weaker (IsBounded es) (IsBounded (es ++ new ∷ [])) still_bounded es old.bounded) new_bounded

  found_now : (k : ℕ) (e : SeenEdition) → slice_get (es ++ new ∷ []) k ≡ Some e → index_of_edition (course_key e.course) e.number (es ++ new ∷ []) ≡ Some k
  found_now k e is = by_place (at_push es new k e is)
    where
      by_place : (slice_get es k ≡ Some e) ⊎ ((k ≡ length es) × (new ≡ e)) → index_of_edition (course_key e.course) e.number (es ++ new ∷ []) ≡ Some k
      by_place (inl at) =
          position-push (is_edition_of (course_key e.course) e.number) es new
          ∙ ap (λ o. option_or o (cond (is_edition_of (course_key e.course) e.number new) (Some (length es)) None)) (old.found k e at)
      by_place (inr both) =
          subst (λ (x : SeenEdition). index_of_edition (course_key x.course) x.number (es ++ new ∷ []) ≡ Some k) both.1
          (position-push (is_edition_of id (next_number held)) es new
          ∙ (ap (λ o. option_or o (cond (is_edition_of id (next_number held) new) (Some (length es)) None)) (no_index (is_edition_of id (next_number held)) es none_yet)
          ∙ (ap (λ b. cond b (Some (length es)) None) own_test ∙ ap Some (sym both.0))))

  pub in_order_still : AreInOrder (es ++ new ∷ []) later
  in_order_still = record {
    numbers = numbers_now;
    bounded = bounded_now;
    found = found_now;
    newest = λ i. newest_now i (bytes_eq id i) refl;
    counts = λ i. counts_now i (bytes_eq id i) refl;
    apart = apart_still held refl;
  }
