-- A path that fits a route is found, where each parameter is a whole part.
use Rattle.std.proofs.Common.{◌≡◌, ◌⊎◌, ℕ, zero, suc, ◌+◌, ◌-◌, ◌<◌, ◌≤◌, true, false, List, [], ◌∷◌, ◌++◌, length, drop, Option, Some, None, refl, sym, ap, ◌∙◌, subst, inl, inr, arith, length-append, append-nil}
use Rattle.std.specs.Prelude.{slice_index, ◌==◌, ltb, nat_eq}
use Rattle.std.specs.List.{ends_with}
use Rattle.std.proofs.lemmas.Bool.{cases_Bool, false≢true, and_from, and_right, lt-ltb}
use Rattle.std.proofs.lemmas.Bool.Decides.{nat_tests}
use Rattle.std.proofs.Math.Seq.{drop-length, drop-append_seam}
use Rattle.matchit.specs.Rows.{RowsOf, param_token, catch_all_token}
use Rattle.matchit.specs.Seek.{own, step, or_else, segment, has_slash, cuts, longest_from, with_suffix, same_text, param_step, seek, first}
use Rattle.lrs_routes.specs.Paths.{Fits, IsPart}
use Rattle.lrs_routes.proofs.Neat.{Has, Neat}
use Rattle.lrs_routes.proofs.Sound.{skip_is, step_has, suffix_has, behind}

-- ---- slashes

pub slash_parts : (b : ℕ) (xs : List ℕ) → has_slash (b ∷ xs) ≡ false → ((b == 47) ≡ false) × (has_slash xs ≡ false)
slash_parts b xs e = elim (cases_Bool (b == 47)) [
  | inl is ↦ let bad : true ≡ false = rw is at e in absurd (false≢true (sym bad))
  | inr not ↦ (not, rw not at e)
]

segment_whole : (path : List ℕ) → has_slash path ≡ false → segment path ≡ path
segment_whole [] e = refl
segment_whole (b ∷ rest) e =
    let parts = slash_parts b rest e in
    let more = segment_whole rest parts.1 in
    rw (parts.0, more) refl

segment_part : (part rest : List ℕ) → has_slash part ≡ false → segment (part ++ 47 ∷ rest) ≡ part ++ 47 ∷ []
segment_part [] rest e = refl
segment_part (b ∷ part) rest e =
    let parts = slash_parts b part e in
    let more = segment_part part rest parts.1 in
    rw (parts.0, more) refl

ends_in_slash : (part : List ℕ) → ends_with nat_eq (part ++ 47 ∷ []) (47 ∷ []) ≡ true
ends_in_slash part =
    let size = length-append part (47 ∷ []) in
    let n : length (part ++ 47 ∷ []) - 1 ≡ length part = omega (arith, size) in
    rw (n, drop-append_seam part (47 ∷ [])) refl

no_end : (path : List ℕ) → has_slash path ≡ false → ends_with nat_eq path (47 ∷ []) ≡ false
no_end [] e = refl
no_end (b ∷ []) e =
    let not : (b == 47) ≡ false = (slash_parts b [] e).0 in
    let test : nat_eq 47 b ≡ false = grind (arith, nat_tests) in
    rw test refl
no_end (b ∷ c ∷ rest) e =
    let more = no_end (c ∷ rest) (slash_parts b (c ∷ rest) e).1 in
    let n : length (b ∷ c ∷ rest) - 1 ≡ suc (length (c ∷ rest) - 1) = omega arith in
    rw n more

-- what fits a pattern that goes on with a slash
slash_first : (t path : List ℕ) → Fits (47 ∷ t) path → (r : List ℕ) × (path ≡ 47 ∷ r)
slash_first t path f = elim f [
  | inl byte ↦ (byte.0, byte.1)
  | inr other ↦ elim other [
    | inl param ↦ let bad = param.0 in absurd (omega (arith, bad))
    | inr all ↦ let bad = all.0 in absurd (omega (arith, bad))
  ]
]

never_empty : (x : ℕ) (t : List ℕ) → Fits (x ∷ t) [] → ⊥
never_empty x t f = elim f [
  | inl byte ↦ let bad : 0 ≡ suc (length byte.0) = ap (λ (xs : List ℕ). length xs) byte.1 in omega arith
  | inr other ↦ elim other [
    | inl param ↦
        let bad : 0 ≡ length param.1.0 + length param.1.1 = ap (λ (xs : List ℕ). length xs) param.1.2 ∙ length-append param.1.0 param.1.1 in
        let some = param.1.3.0 in
        omega (arith, bad, some)
    | inr all ↦ let bad = all.2 in omega (arith, bad)
  ]
]

module _ {K : Type 0} where
  -- each row goes on with nothing or with a slash
  abbrev pub Small : RowsOf K → Type 0
  Small rs = (t : List ℕ) (k : K) → Has rs t k → (t ≡ []) ⊎ ((r : List ℕ) × (t ≡ 47 ∷ r))

  rest_small : (x : List ℕ × K) (rs : RowsOf K) → Small (x ∷ rs) → Small rs
  rest_small x rs s t k h = s t k (inr h)

  none_longest : (seg : List ℕ) (rs : RowsOf K) → Small rs → cuts seg (47 ∷ []) ≡ false → longest_from seg [] rs ≡ []
  none_longest seg [] s c = refl
  none_longest seg ((t, key) ∷ rest) s c = elim (s t key (inl (refl, refl))) [
    | inl e ↦
        let more = none_longest seg rest (rest_small (t, key) rest s) c in
        rw e more
    | inr e ↦
        let more = none_longest seg rest (rest_small (t, key) rest s) c in
        rw (e.1, c) more
  ]

  slash_stays : (seg : List ℕ) (rs : RowsOf K) → Small rs → longest_from seg (47 ∷ []) rs ≡ 47 ∷ []
  slash_stays seg [] s = refl
  slash_stays seg ((t, key) ∷ rest) s = elim (s t key (inl (refl, refl))) [
    | inl e ↦ let more = slash_stays seg rest (rest_small (t, key) rest s) in rw e more
    | inr e ↦ let more = slash_stays seg rest (rest_small (t, key) rest s) in rw e.1 more
  ]

  slash_longest : (seg : List ℕ) (rs : RowsOf K) (r : List ℕ) (k : K) → Small rs → cuts seg (47 ∷ []) ≡ true → Has rs (47 ∷ r) k
      → longest_from seg [] rs ≡ 47 ∷ []
  slash_longest seg [] r k s c h = absurd h
  slash_longest seg ((t, key) ∷ rest) r k s c h = elim (s t key (inl (refl, refl))) [
    | inl e ↦ elim h [
      | inl here ↦ let bad : length (47 ∷ r) ≡ 0 = ap (λ (xs : List ℕ). length xs) (sym here.0 ∙ e) in absurd (omega arith)
      | inr later ↦ let more = slash_longest seg rest r k (rest_small (t, key) rest s) c later in rw e more
    ]
    | inr e ↦ let more = slash_stays seg rest (rest_small (t, key) rest s) in rw (e.1, c) more
  ]

  has_suffix : (s : List ℕ) (rs : RowsOf K) (t : List ℕ) (k : K) → Has rs t k → same_text (segment t) s ≡ true → Has (with_suffix s rs) t k
  has_suffix s [] t k h e = h
  has_suffix s ((u, key) ∷ rest) t k h e = elim (cases_Bool (same_text (segment u) s)) [
    | inl is ↦ elim h [
      | inl here ↦ rw is (inl here)
      | inr later ↦ rw is (inr (has_suffix s rest t k later e))
    ]
    | inr not ↦ elim h [
      | inl here ↦ let bad : same_text (segment u) s ≡ true = rw here.0 e in absurd (false≢true (sym not ∙ bad))
      | inr later ↦ rw not (has_suffix s rest t k later e)
    ]
  ]

  own_found : (rs : RowsOf K) (k : K) → Has rs [] k → (k2 : K) × (own rs ≡ Some k2)
  own_found [] k h = absurd h
  own_found (([], key) ∷ rest) k h = (key, refl)
  own_found ((x ∷ u, key) ∷ rest) k h = elim h [
    | inl here ↦ let bad : length (x ∷ u) ≡ 0 = ap (λ (xs : List ℕ). length xs) here.0 in absurd (omega arith)
    | inr later ↦ own_found rest k later
  ]

  has_step : (b : ℕ) (rs : RowsOf K) (t : List ℕ) (k : K) → Has rs (b ∷ t) k → Has (step b rs) t k
  has_step b [] t k h = h
  has_step b (([], key) ∷ rest) t k h = elim h [
    | inl here ↦ let bad : length (b ∷ t) ≡ 0 = ap (λ (xs : List ℕ). length xs) (sym here.0) in absurd (omega arith)
    | inr later ↦ has_step b rest t k later
  ]
  has_step b ((x ∷ u, key) ∷ rest) t k h = elim (cases_Bool (x == b)) [
    | inl is ↦ elim h [
      | inl here ↦ let tails : u ≡ t = ap (λ (xs : List ℕ). drop 1 xs) here.0 in rw is (inl (tails, here.1))
      | inr later ↦ rw is (inr (has_step b rest t k later))
    ]
    | inr not ↦ elim h [
      | inl here ↦
          let heads : x ≡ b = ap (λ (xs : List ℕ). slice_index xs 0) here.0 in
          let bad : (x == b) ≡ true = grind (arith, nat_tests, heads) in
          absurd (false≢true (sym not ∙ bad))
      | inr later ↦ rw not (has_step b rest t k later)
    ]
  ]

  abbrev pub AllNeat : RowsOf K → Type 0
  AllNeat rs = (t : List ℕ) (k : K) → Has rs t k → Neat t

  abbrev pub Found : RowsOf K → List ℕ → Type 0
  Found rs path = (k : K) × (first rs path ≡ Some k)

  whole_step : (rs : RowsOf K) (path : List ℕ) → Small rs → has_slash path ≡ false → param_step rs path ≡ (length path, rs)
  unfolding param_step
  whole_step rs path small clean =
      let same = segment_whole path clean in
      let ends : ends_with nat_eq (segment path) (47 ∷ []) ≡ false = rw same (no_end path clean) in
      let cut : cuts (segment path) (47 ∷ []) ≡ false = and_right (ltb 1 (length (segment path))) (ends_with nat_eq (segment path) (47 ∷ [])) ends in
      let none : longest_from (segment path) [] rs ≡ [] = none_longest (segment path) rs small cut in
      rw (none, clean) refl

  slash_step : (rs : RowsOf K) (path part t : List ℕ) (k : K) → Small rs → segment path ≡ part ++ 47 ∷ [] → 0 < length part → Has rs (47 ∷ t) k
      → param_step rs path ≡ (length part, with_suffix (47 ∷ []) rs)
  unfolding param_step
  slash_step rs path part t k small seg some h =
      let size : length (segment path) ≡ length part + 1 = ap (λ (xs : List ℕ). length xs) seg ∙ length-append part (47 ∷ []) in
      let ends : ends_with nat_eq (segment path) (47 ∷ []) ≡ true = rw seg (ends_in_slash part) in
      let long : ltb 1 (length (segment path)) ≡ true = lt-ltb 1 (length (segment path)) (omega (arith, size, some)) in
      let cut : cuts (segment path) (47 ∷ []) ≡ true = and_from (ltb 1 (length (segment path))) (ends_with nat_eq (segment path) (47 ∷ [])) long ends in
      let is : longest_from (segment path) [] rs ≡ 47 ∷ [] = slash_longest (segment path) rs t k small cut h in
      let less : length (segment path) - 1 ≡ length part = omega (arith, size) in
      rw (is, less) refl

  or_some : (a b c : Option K) (k : K) → b ≡ Some k → (k2 : K) × (or_else a (or_else b c) ≡ Some k2)
  or_some None b c k e = (k, rw e refl)
  or_some (Some x) b c k e = (x, refl)

  abbrev Deeper : ℕ → List ℕ → K → Type 0
  Deeper fuel t k = (rows : RowsOf K) (left : List ℕ) → length left ≤ fuel → AllNeat rows → Has rows t k → Fits t left → Found rows left

  abbrev ParamFound : RowsOf K → ℕ → List ℕ → Type 0
  ParamFound params b path = (k2 : K) × (seek ((param_step params (b ∷ path)).0 - 1) (param_step params (b ∷ path)).1 path ≡ Some k2)

  -- a parameter that is the last of its route
  last_found : (params : RowsOf K) (b : ℕ) (path : List ℕ) (k : K) → Small params → Has params [] k → has_slash (b ∷ path) ≡ false → ParamFound params b path
  unfolding seek
  last_found params b path k small h clean =
      let own_is = own_found params k h in
      let step_is = whole_step params (b ∷ path) small clean in
      let less : length (b ∷ path) - 1 ≡ length path = omega arith in
      let at_end : seek (length path) params path ≡ Some own_is.0 =
      skip_is (length path) params path ∙ (ap (λ (xs : List ℕ). seek 0 params xs) (drop-length path) ∙ own_is.1) in
      (own_is.0, rw (step_is, less) at_end)

  -- a parameter with a slash after it
  inner_found : (fuel : ℕ) (params : RowsOf K) (b : ℕ) (path t part rest : List ℕ) (k : K) → length path ≤ fuel → Small params → AllNeat params
      → Has params (47 ∷ t) k → b ∷ path ≡ part ++ 47 ∷ rest → IsPart part → Fits (47 ∷ t) (47 ∷ rest) → Deeper fuel (47 ∷ t) k → ParamFound params b path
  inner_found fuel params b path t part rest k le small neat h e p fit deeper =
      let rows = with_suffix (47 ∷ []) params in
      let seg : segment (b ∷ path) ≡ part ++ 47 ∷ [] = ap segment e ∙ segment_part part rest p.1 in
      let step_is = slash_step params (b ∷ path) part t k small seg p.0 h in
      let size : suc (length path) ≡ length part + suc (length rest) = ap (λ (xs : List ℕ). length xs) e ∙ length-append part (47 ∷ rest) in
      let left : drop (length part - 1) path ≡ 47 ∷ rest =
      sym (behind b path (length part) p.0) ∙ (ap (λ (xs : List ℕ). drop (length part) xs) e ∙ drop-append_seam part (47 ∷ rest)) in
      let fewer : length (47 ∷ rest) ≤ fuel = omega (arith, size, p.0, le) in
      let kept : Has rows (47 ∷ t) k = has_suffix (47 ∷ []) params (47 ∷ t) k h refl in
      let rows_neat : AllNeat rows = λ u j g. neat u j (suffix_has (47 ∷ []) params u j g) in
      let deep = deeper rows (47 ∷ rest) fewer rows_neat kept fit in
      let found : seek (length part - 1) rows path ≡ Some deep.0 =
      skip_is (length part - 1) rows path ∙ (ap (λ (xs : List ℕ). seek 0 rows xs) left ∙ deep.1) in
      (deep.0, rw step_is found)

  param_found : (fuel : ℕ) (params : RowsOf K) (b : ℕ) (path t part rest : List ℕ) (k : K) → length path ≤ fuel → Small params → AllNeat params
      → Has params t k → b ∷ path ≡ part ++ rest → IsPart part → Fits t rest → Deeper fuel t k → ParamFound params b path
  param_found fuel params b path t part rest k le small neat h e p fit deeper = elim (small t k h) [
    | inl is ↦
        let none : Fits [] rest = subst (λ (u : List ℕ). Fits u rest) is fit in
        let whole : b ∷ path ≡ part = e ∙ (ap (λ (r : List ℕ). part ++ r) none ∙ append-nil part) in
        last_found params b path k small (subst (λ (u : List ℕ). Has params u k) is h) (ap has_slash whole ∙ p.1)
    | inr is ↦
        let after : Fits (47 ∷ is.0) rest = subst (λ (u : List ℕ). Fits u rest) is.1 fit in
        let slash = slash_first is.0 rest after in
        inner_found fuel params b path is.0 part slash.0 k le small neat
        (subst (λ (u : List ℕ). Has params u k) is.1 h) (e ∙ ap (λ (r : List ℕ). part ++ r) slash.1) p
        (subst (λ (r : List ℕ). Fits (47 ∷ is.0) r) slash.1 after) (subst (λ (u : List ℕ). Deeper fuel u k) is.1 deeper)
  ]

  complete_within : (fuel : ℕ) (rs : RowsOf K) (path t : List ℕ) (k : K) → length path ≤ fuel → AllNeat rs → Has rs t k → Fits t path → Found rs path
  unfolding seek
  complete_within fuel rs [] [] k le neat h f = own_found rs k h
  complete_within fuel rs [] (x ∷ t) k le neat h f = absurd (never_empty x t f)
  complete_within zero rs (b ∷ path) t k le neat h f = absurd (omega arith)
  complete_within (suc fuel) rs (b ∷ path) [] k le neat h f =
      let bad : length (b ∷ path) ≡ 0 = ap (λ (xs : List ℕ). length xs) f in absurd (omega arith)
  complete_within (suc fuel) rs (b ∷ path) (x ∷ t) k le neat h f =
      let less : length path ≤ fuel = omega arith in
      elim f [
        | inl byte ↦
            let heads : x ≡ b = ap (λ (xs : List ℕ). slice_index xs 0) (sym byte.1) in
            let tails : byte.0 ≡ path = ap (λ (xs : List ℕ). drop 1 xs) (sym byte.1) in
            let here : Has rs (b ∷ t) k = subst (λ (y : ℕ). Has rs (y ∷ t) k) heads h in
            let kept : AllNeat (step b rs) = λ u j g. (neat (b ∷ u) j (step_has b rs u j g)).2 in
            let deep = complete_within fuel (step b rs) path t k less kept (has_step b rs t k here) (subst (λ (xs : List ℕ). Fits t xs) tails byte.2) in
            (deep.0, rw deep.1 refl)
        | inr other ↦ elim other [
          | inl param ↦
              let here : Has rs (param_token ∷ t) k = subst (λ (y : ℕ). Has rs (y ∷ t) k) param.0 h in
              let params = step param_token rs in
              let kept : AllNeat params = λ u j g. (neat (param_token ∷ u) j (step_has param_token rs u j g)).2 in
              let small : Small params = λ u j g. (neat (param_token ∷ u) j (step_has param_token rs u j g)).0 refl in
              let deep = param_found fuel params b path t param.1.0 param.1.1 k less small kept (has_step param_token rs t k here) param.1.2 param.1.3 param.1.4
              (λ rows left few clean has fit. complete_within fuel rows left t k few clean has fit) in
              or_some (seek 0 (step b rs) path) _ (own (step catch_all_token rs)) deep.0 deep.1
          | inr all ↦ absurd ((neat (x ∷ t) k h).1 all.0)
        ]
      ]

  pub complete : (rs : RowsOf K) (path t : List ℕ) (k : K) → AllNeat rs → Has rs t k → Fits t path → Found rs path
  complete rs path t k neat h f = complete_within (length path) rs path t k (omega arith) neat h f
