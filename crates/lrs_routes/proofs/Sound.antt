-- A route that the router finds fits the path.
use Rattle.std.proofs.Common.{◌≡◌, ◌⊎◌, ℕ, zero, suc, ◌-◌, ◌<◌, ◌≤◌, true, false, List, [], ◌∷◌, length, take, drop, Option, Some, None, refl, sym, ap, ◌∙◌, subst, inl, inr, arith}
use Rattle.std.specs.Prelude.{◌==◌, ltb, ◌&&◌, nat_eq}
use Rattle.std.specs.List.{ends_with}
use Rattle.std.proofs.lemmas.Bool.{cases_Bool, and_parts, ltb-true}
use Rattle.std.proofs.lemmas.Bool.Decides.{nat_tests}
use Rattle.std.proofs.lemmas.List.{take-append-drop, length-take-le, length-drop}
use Rattle.std.proofs.Math.Seq.{take-length}
use Rattle.matchit.specs.Rows.{RowsOf, param_token, catch_all_token}
use Rattle.matchit.specs.Seek.{own, step, or_else, segment, has_slash, cuts, better, longest_from, longest_suffix, with_suffix, same_text, param_step, seek, first}
use Rattle.lrs_routes.specs.Paths.{Fits}
use Rattle.lrs_routes.proofs.Neat.{Has}

some≢none : {K : Type 0} (k : K) → None ≡ Some k → ⊥
some≢none k e = grind (arith)

some_same : {K : Type 0} {x y : K} → Some x ≡ Some y → x ≡ y
some_same e = grind (arith, e)

cons_same : (x y : ℕ) {u t : List ℕ} → x ≡ y → u ≡ t → x ∷ u ≡ y ∷ t
cons_same x y e f = λ i. e i ∷ f i

-- a front of a segment that leaves its last byte has no slash
front_no_slash : (path : List ℕ) (n : ℕ) → n < length (segment path) → has_slash (take n path) ≡ false
front_no_slash path zero h = refl
front_no_slash [] (suc n) h = refl
front_no_slash (b ∷ rest) (suc n) h = elim (cases_Bool (b == 47)) [
  | inl is ↦ let short : suc n < 1 = rw is at h in absurd (omega arith)
  | inr not ↦
      let long : suc n < suc (length (segment rest)) = rw not at h in
      let more = front_no_slash rest n (omega arith) in
      rw (not, more) refl
]

segment_length : (path : List ℕ) → length (segment path) ≤ length path
segment_length [] = omega arith
segment_length (b ∷ rest) = elim (cases_Bool (b == 47)) [
  | inl is ↦ let one : length (segment (b ∷ rest)) ≡ 1 = rw is refl in omega arith
  | inr not ↦
      let more = segment_length rest in
      let one : length (segment (b ∷ rest)) ≡ suc (length (segment rest)) = rw not refl in
      omega arith
]

-- the path that is left after a parameter, as the search reads it
pub behind : (b : ℕ) (path : List ℕ) (n : ℕ) → 0 < n → drop n (b ∷ path) ≡ drop (n - 1) path
behind b path zero h = absurd (omega arith)
behind b path (suc n) h = ap (λ (m : ℕ). drop m path) (omega arith)

module _ {K : Type 0} where
  longest_cuts : (seg best : List ℕ) (rs : RowsOf K) → (longest_from seg best rs ≡ best) ⊎ (cuts seg (longest_from seg best rs) ≡ true)
  longest_cuts seg best [] = inl refl
  longest_cuts seg best ((t, key) ∷ rest) = elim (cases_Bool (ltb (length best) (length (segment t)) && cuts seg (segment t))) [
    | inl is ↦
        let picked : better seg best (segment t) ≡ segment t = rw is refl in
        let fits = (and_parts (ltb (length best) (length (segment t))) (cuts seg (segment t)) is).1 in
        elim (longest_cuts seg (better seg best (segment t)) rest) [
          | inl same ↦ inr (subst (λ (s : List ℕ). cuts seg s ≡ true) (sym (same ∙ picked)) fits)
          | inr c ↦ inr c
        ]
    | inr not ↦
        let picked : better seg best (segment t) ≡ best = rw not refl in
        elim (longest_cuts seg (better seg best (segment t)) rest) [
          | inl same ↦ inl (same ∙ picked)
          | inr c ↦ inr c
        ]
  ]

module _ {K : Type 0} where
  either_way : (a b : Option K) {R : Type 0} (k : K) → or_else a b ≡ Some k → (a ≡ Some k → R) → (b ≡ Some k → R) → R
  either_way None b k e f g = g e
  either_way (Some x) b k e f g = f e

  own_has : (rs : RowsOf K) (k : K) → own rs ≡ Some k → Has rs [] k
  own_has [] k e = absurd (some≢none k e)
  own_has (([], key) ∷ rest) k e = inl (refl, some_same e)
  own_has ((x ∷ t, key) ∷ rest) k e = inr (own_has rest k e)

  pub step_has : (b : ℕ) (rs : RowsOf K) (t : List ℕ) (k : K) → Has (step b rs) t k → Has rs (b ∷ t) k
  step_has b [] t k h = h
  step_has b (([], key) ∷ rest) t k h = inr (step_has b rest t k h)
  step_has b ((x ∷ u, key) ∷ rest) t k h = elim (cases_Bool (x == b)) [
    | inl is ↦
        let known : Has ((u, key) ∷ step b rest) t k = rw is at h in
        elim known [
          | inl same ↦ inl (cons_same x b (grind (arith, nat_tests, is)) same.0, same.1)
          | inr more ↦ inr (step_has b rest t k more)
        ]
    | inr not ↦ inr (step_has b rest t k (rw not at h))
  ]

  pub suffix_has : (s : List ℕ) (rs : RowsOf K) (t : List ℕ) (k : K) → Has (with_suffix s rs) t k → Has rs t k
  suffix_has s [] t k h = h
  suffix_has s ((u, key) ∷ rest) t k h = elim (cases_Bool (same_text (segment u) s)) [
    | inl is ↦
        let known : Has ((u, key) ∷ with_suffix s rest) t k = rw is at h in
        elim known [
          | inl same ↦ inl same
          | inr more ↦ inr (suffix_has s rest t k more)
        ]
    | inr not ↦ inr (suffix_has s rest t k (rw not at h))
  ]

suffix_short : (seg s : List ℕ) → cuts seg s ≡ true → length s < length seg
suffix_short seg s e = ltb-true (length s) (length seg) (and_parts (ltb (length s) (length seg)) (ends_with nat_eq seg s) e).0

cut_from : (seg s : List ℕ) → 0 < length s → (s ≡ []) ⊎ (cuts seg s ≡ true) → cuts seg s ≡ true
cut_from seg s some h = elim h [
  | inl e ↦ let none : length s ≡ 0 = ap (λ (xs : List ℕ). length xs) e in absurd (omega arith)
  | inr c ↦ c
]

module _ {K : Type 0} where
  -- the three answers of a parameter's step
  abbrev BySuffix : RowsOf K → List ℕ → Type 0
  BySuffix rs path =
      (s : List ℕ) × (param_step rs path ≡ (length (segment path) - length s, with_suffix s rs))
      × (0 < length s) × (length s < length (segment path))

  abbrev Whole : RowsOf K → List ℕ → Type 0
  Whole rs path = (param_step rs path ≡ (length path, rs)) × (has_slash path ≡ false)

  param_cases : (rs : RowsOf K) (path : List ℕ) → BySuffix rs path ⊎ ((param_step rs path ≡ (0, [])) ⊎ Whole rs path)
  unfolding param_step
  param_cases rs path = elim (cases_Bool (ltb 0 (length (longest_suffix (segment path) rs)))) [
    | inl is ↦
        let s = longest_suffix (segment path) rs in
        let some : 0 < length s = ltb-true 0 (length s) is in
        inl (s, rw is refl, some, suffix_short (segment path) s (cut_from (segment path) s some (longest_cuts (segment path) [] rs)))
    | inr not ↦ elim (cases_Bool (has_slash path)) [
      | inl slash ↦ inr (inl (rw (not, slash) refl))
      | inr none ↦ inr (inr (rw (not, none) refl, none))
    ]
  ]

  pub skip_is : (n : ℕ) (rs : RowsOf K) (path : List ℕ) → seek n rs path ≡ seek 0 rs (drop n path)
  unfolding seek
  skip_is zero rs path = refl
  skip_is (suc n) rs [] = refl
  skip_is (suc n) rs (b ∷ path) = skip_is n rs path

  -- what a parameter's step leaves to go on with
  record Takes (rs : RowsOf K) (path : List ℕ) (n : ℕ) (t : List ℕ) (k : K) : Type 0 where
    has : Has rs t k
    some : 0 < n
    within : n ≤ length path
    clean : has_slash (take n path) ≡ false

  takes : (rs : RowsOf K) (path t : List ℕ) (k : K) → 0 < length path → Has (param_step rs path).1 t k → Takes rs path (param_step rs path).0 t k
  takes rs path t k long h = elim (param_cases rs path) [
    | inl by ↦
        let s = by.0 in
        let n : ℕ = length (segment path) - length s in
        let kept : Has (with_suffix s rs) t k = subst (λ (r : ℕ × RowsOf K). Has r.1 t k) by.1 h in
        let short = segment_length path in
        let made : Takes rs path n t k = record {
          has = suffix_has s rs t k kept;
          some = omega (arith, by.3);
          within = omega (arith, short);
          clean = front_no_slash path n (omega (arith, by.2, by.3));
        } in
        subst (λ (r : ℕ × RowsOf K). Takes rs path r.0 t k) (sym by.1) made
    | inr other ↦ elim other [
      | inl none ↦ let gone : Has {K = K} [] t k = subst (λ (r : ℕ × RowsOf K). Has r.1 t k) none h in absurd gone
      | inr whole ↦
          let made : Takes rs path (length path) t k = record {
            has = subst (λ (r : ℕ × RowsOf K). Has r.1 t k) whole.0 h;
            some = long;
            within = omega arith;
            clean = rw (take-length path) whole.1;
          } in
          subst (λ (r : ℕ × RowsOf K). Takes rs path r.0 t k) (sym whole.0) made
    ]
  ]

  -- A route that the search finds is one of the rows, and the path fits it.
  sound_within : (fuel : ℕ) (rs : RowsOf K) (path : List ℕ) (k : K) → length path ≤ fuel → seek 0 rs path ≡ Some k
      → (t : List ℕ) × Has rs t k × Fits t path
  unfolding seek
  sound_within fuel rs [] k le e = ([], own_has rs k e, refl)
  sound_within zero rs (b ∷ path) k le e = absurd (omega arith)
  sound_within (suc fuel) rs (b ∷ path) k le e =
      let less : length path ≤ fuel = omega arith in
      let params = step param_token rs in
      let r = param_step params (b ∷ path) in
      let byte = seek 0 (step b rs) path in
      let param = seek (r.0 - 1) r.1 path in
      let all = own (step catch_all_token rs) in
      either_way byte (or_else param all) k e
      (λ found. let deep = sound_within fuel (step b rs) path k less found in (b ∷ deep.0, step_has b rs deep.0 k deep.1, inl (path, refl, deep.2)))
      (λ other. either_way param all k other
      (λ found.
      let rest = drop (r.0 - 1) path in
      let dropped = length-drop (r.0 - 1) path in
      let fewer : length rest ≤ fuel = omega (arith, dropped, less) in
      let deep = sound_within fuel r.1 rest k fewer (sym (skip_is (r.0 - 1) r.1 path) ∙ found) in
      let took = takes params (b ∷ path) deep.0 k (omega arith) deep.1 in
      let part = take r.0 (b ∷ path) in
      let left = drop r.0 (b ∷ path) in
      let fits : Fits deep.0 left = subst (λ (xs : List ℕ). Fits deep.0 xs) (sym (behind b path r.0 took.some)) deep.2 in
      let size : 0 < length part = rw (length-take-le r.0 (b ∷ path) took.within) took.some in
      (param_token ∷ deep.0, step_has param_token rs deep.0 k took.has, inr (inl (refl, (part, left, sym (take-append-drop r.0 (b ∷ path)), (size, took.clean), fits)))))
      (λ found. (catch_all_token ∷ [], step_has catch_all_token rs [] k (own_has (step catch_all_token rs) k found), inr (inr (refl, refl, omega arith)))))

  pub sound : (rs : RowsOf K) (path : List ℕ) (k : K) → first rs path ≡ Some k → (t : List ℕ) × Has rs t k × Fits t path
  sound rs path k e = sound_within (length path) rs path k (omega arith) e
