-- A walk along a chain of references, and what it marks.
use Rattle.std.proofs.Common.{◌≡◌, ◌<◌, ◌≤◌, ◌+◌, ◌||◌, ◌==◌, ℕ, zero, suc, List, [], ◌∷◌, ◌++◌, length, get_or, refl, sym, ◌∙◌, ap, subst, arith, Option, Some, None, Bool, true, false, cond, drop, if◌then◌else◌, inl, inr, Less, Equal, Greater, is_eq, nat_cmp, unwrap_or}
use Rattle.std.specs.Prelude.{◌⊎◌}
use Rattle.std.specs.BTreeMap.{is_at}
use Rattle.std.specs.Map.{lookup}
use Rattle.std.proofs.lemmas.Bool.{cases_order, eqb-true, eq-eqb, le-ltb, lt-ltb, ne_eqb}
use Rattle.std.proofs.lemmas.List.{drop_more}
use Rattle.std.proofs.lemmas.List.Folds.{list_any-append}
use Rattle.xapi_pages.specs.declared.chains.Mark.{Mark}
use Rattle.xapi_pages.specs.declared.chains.Mark.TheVariants.{Unknown, Passes, Fails}
use Rattle.xapi_pages.specs.Chains.{AreTrue, IsMarked, if_unknown, is_among, known_by, mark_at, unknown_below}
use Rattle.xapi_pages.proofs.References.{TellsPassing}

-- ---- positions

among_more : {P : Type 0} (path : List ℕ) (x w : ℕ) → is_among (path ++ x ∷ []) w ≡ true → (is_among path w ≡ true → P) → (w ≡ x → P) → P
among_more {P} path x w is left right = by_tests (is_among path w) (w == x) refl refl (sym (list_any-append (λ k. w == k) path (x ∷ [])) ∙ is)
  where
    by_tests : (a b : Bool) → is_among path w ≡ a → (w == x) ≡ b → a || (b || false) ≡ true → P
    by_tests true b at same both = left at
    by_tests false true at same both = right (eqb-true w x same)
    by_tests false false at same both = cc both

among_still : (path : List ℕ) (x w : ℕ) → is_among path w ≡ true → is_among (path ++ x ∷ []) w ≡ true
among_still path x w is = list_any-append (λ k. w == k) path (x ∷ []) ∙ ap (λ b. b || ((w == x) || false)) is

among_last : (path : List ℕ) (x w : ℕ) → w ≡ x → is_among (path ++ x ∷ []) w ≡ true
among_last path x w is = list_any-append (λ k. w == k) path (x ∷ []) ∙ (ap (λ b. is_among path w || (b || false)) (eq-eqb w x is) ∙ either (is_among path w))
  where
    either : (b : Bool) → b || true ≡ true
    either true = refl
    either false = refl

not_among : (path : List ℕ) (x w : ℕ) → is_among (path ++ x ∷ []) w ≡ false → is_among path w ≡ false
not_among path x w is = by_test (is_among path w) refl
  where
    by_test : (b : Bool) → is_among path w ≡ b → b ≡ false
    by_test true at = let more = among_still path x w at in cc (more, is)
    by_test false at = refl

-- ---- marks

-- a position is the one that a map compares with
same_position : (a b : ℕ) → is_at (nat_cmp a) b ≡ (b == a)
same_position a b = by_order (cases_order a b)
  where
    by_order : (a ≡ b) ⊎ ((a < b) ⊎ (b < a)) → is_eq (nat_cmp a b) ≡ (b == a)
    by_order (inl same) =
        ap (λ t. is_eq (cond t Less (cond (a == b) Equal Greater))) (le-ltb a b (omega arith))
        ∙ (ap (λ t. is_eq (cond t Equal Greater)) (eq-eqb a b same) ∙ sym (eq-eqb b a (sym same)))
    by_order (inr (inl less)) =
        ap (λ t. is_eq (cond t Less (cond (a == b) Equal Greater))) (lt-ltb a b less) ∙ sym (ne_eqb b a (λ e. omega arith))
    by_order (inr (inr more)) =
        ap (λ t. is_eq (cond t Less (cond (a == b) Equal Greater))) (le-ltb a b (omega arith))
        ∙ (ap (λ t. is_eq (cond t Equal Greater)) (ne_eqb a b (λ e. omega arith)) ∙ sym (ne_eqb b a (λ e. omega arith)))

-- one position is marked anew in a map
pub marked_anew : (old new : List (ℕ × Mark)) (position : ℕ) (mark : Mark) → ((q : ℕ) → lookup (is_at (nat_cmp q)) new ≡ cond (is_at (nat_cmp position) q) (Some mark) (lookup (is_at (nat_cmp q)) old)) → IsMarked old position mark new
marked_anew old new position mark updates = λ k.
    ap (λ o. unwrap_or o Unknown) (updates k)
    ∙ (here_or_there k (is_at (nat_cmp position) k) ∙ ap (λ b. if b then mark else mark_at old k) (same_position position k))
  where
    here_or_there : (k : ℕ) (b : Bool) → unwrap_or (cond b (Some mark) (lookup (is_at (nat_cmp k)) old)) Unknown ≡ (if b then mark else mark_at old k)
    here_or_there k true = refl
    here_or_there k false = refl

-- what is marked at a position, once one position is marked anew
same_or_other : {P : Type 0} (old new : List (ℕ × Mark)) (position k : ℕ) (mark : Mark) → IsMarked old position mark new → (k ≡ position → mark_at new k ≡ mark → P) → (mark_at new k ≡ mark_at old k → P) → P
same_or_other {P} old new position k mark is same other = by_test (k == position) refl
  where
    by_test : (b : Bool) → (k == position) ≡ b → P
    by_test true at = same (eqb-true k position at) (is k ∙ ap (λ b. if b then mark else mark_at old k) at)
    by_test false at = other (is k ∙ ap (λ b. if b then mark else mark_at old k) at)

-- a position is marked as failing, and is doubtful
pub doubt : (v : ℕ → Bool) (old new : List (ℕ × Mark)) (path : List ℕ) (position : ℕ) → IsMarked old position Fails new → AreTrue v old path → AreTrue v new (path ++ position ∷ [])
doubt v old new path position is are = record {
  passing = λ k at. same_or_other old new position k Fails is (λ e now. cc (now, at)) (λ now. are.passing k (sym now ∙ at));
  failing = λ k at out. same_or_other old new position k Fails is
      (λ e now. let last = among_last path position k e in cc (last, out))
      (λ now. are.failing k (sym now ∙ at) (not_among path position k out));
}

-- ---- the walk

-- On the way from a position to another one: no position between passes, each leads to one of them or to the other, and all are alike.
pub record IsOnWay (p : ℕ → Bool) (next : ℕ → Option ℕ) (n : ℕ) (v : ℕ → Bool) (marks : List (ℕ × Mark)) (path : List ℕ) (start position : ℕ) : Type 0 where
  pub marked : AreTrue v marks path
  pub fails : (w : ℕ) → is_among path w ≡ true → p w ≡ false
  pub alike : (w : ℕ) → is_among path w ≡ true → v w ≡ v position
  pub closed : (w j : ℕ) → is_among path w ≡ true → next w ≡ Some j → is_among (path ++ position ∷ []) j ≡ true
  pub begun : v start ≡ v position
  pub there : position < n

pub way_begun : (p : ℕ → Bool) (next : ℕ → Option ℕ) (n : ℕ) (v : ℕ → Bool) (marks : List (ℕ × Mark)) (path : List ℕ) (start : ℕ) → path ≡ [] → start < n → AreTrue v marks [] → IsOnWay p next n v marks path start start
way_begun p next n v marks path start empty lt are = record {
  marked = subst (λ ws. AreTrue v marks ws) (sym empty) are;
  fails = λ w is. none w is;
  alike = λ w is. none w is;
  closed = λ w j is at. none w is;
  begun = refl;
  there = lt;
}
  where
    none : {P : Type 0} (w : ℕ) → is_among path w ≡ true → P
    none w is = let out : is_among path w ≡ false = ap (λ ws. is_among ws w) empty in cc (out, is)

-- nothing is known at a position
pub unknown : (mark : Mark) (direct : Bool) → known_by mark direct ≡ None → (mark ≡ Unknown) × (direct ≡ false)
unknown Unknown true is = cc is
unknown Unknown false is = (refl, refl)
unknown Passes direct is = cc is
unknown Fails direct is = cc is

-- what is known at a position while no mark is doubtful
pub known_now : (p : ℕ → Bool) (next : ℕ → Option ℕ) (n : ℕ) (v : ℕ → Bool) (marks : List (ℕ × Mark)) (position : ℕ) → TellsPassing p next n v → AreTrue v marks []
    → (b : Bool) → known_by (mark_at marks position) (p position) ≡ Some b → v position ≡ b
known_now p next n v marks position is are b known = by_mark (mark_at marks position) (p position) refl refl known
  where
    by_mark : (mark : Mark) (direct : Bool) → mark_at marks position ≡ mark → p position ≡ direct → known_by mark direct ≡ Some b → v position ≡ b
    by_mark Unknown true at here e = is.here position here ∙ cc e
    by_mark Unknown false at here e = cc e
    by_mark Passes direct at here e = are.passing position at ∙ cc e
    by_mark Fails direct at here e = are.failing position at refl ∙ cc e

module _ (p : ℕ → Bool) (next : ℕ → Option ℕ) (n : ℕ) (v : ℕ → Bool) (marks : List (ℕ × Mark)) (path : List ℕ) (start position : ℕ) (is : TellsPassing p next n v) (way : IsOnWay p next n v marks path start position) where
  -- one step further
  pub way_on : (j : ℕ) (new : List (ℕ × Mark)) → known_by (mark_at marks position) (p position) ≡ None → IsMarked marks position Fails new → next position ≡ Some j → IsOnWay p next n v new (path ++ position ∷ []) start j
  way_on j new none now at =
      let fails = (unknown (mark_at marks position) (p position) none).1 in
      let step : v position ≡ v j = is.on position j way.there fails at in
      record {
        marked = doubt v marks new path position now way.marked;
        fails = λ w among. among_more path position w among (λ old. way.fails w old) (λ e. ap p e ∙ fails);
        alike = λ w among. among_more path position w among (λ old. way.alike w old ∙ step) (λ e. ap v e ∙ step);
        closed = λ w i among to. among_more path position w among
            (λ old. among_still (path ++ position ∷ []) j i (way.closed w i old to))
            (λ e. let same : i ≡ j = some_same i j (sym to ∙ (ap next e ∙ at)) in among_last (path ++ position ∷ []) j i same);
        begun = way.begun ∙ step;
        there = is.within position j at;
      }
    where
      some_same : (a b : ℕ) → Some a ≡ Some b → a ≡ b
      some_same a b e = cc e

  -- what is known at the position
  pub way_known : (b : Bool) → known_by (mark_at marks position) (p position) ≡ Some b → v position ≡ b
  way_known b known = by_mark (mark_at marks position) (p position) refl refl known
    where
      on_path : is_among path position ≡ true → v position ≡ false
      on_path old = is.round path way.fails (λ w j among at. among_more path position j (way.closed w j among at) (λ is. is) (λ e. subst (λ k. is_among path k ≡ true) (sym e) old)) position old

      by_path : (a : Bool) → is_among path position ≡ a → mark_at marks position ≡ Fails → v position ≡ false
      by_path true among at = on_path among
      by_path false among at = way.marked.failing position at among

      by_mark : (mark : Mark) (direct : Bool) → mark_at marks position ≡ mark → p position ≡ direct → known_by mark direct ≡ Some b → v position ≡ b
      by_mark Unknown true at here e = is.here position here ∙ cc e
      by_mark Unknown false at here e = cc e
      by_mark Passes direct at here e = way.marked.passing position at ∙ cc e
      by_mark Fails direct at here e = by_path (is_among path position) refl at ∙ cc e

  -- no step further
  pub way_ends : known_by (mark_at marks position) (p position) ≡ None → next position ≡ None → v position ≡ false
  way_ends none at = is.ends position way.there (unknown (mark_at marks position) (p position) none).1 at

  -- the positions of the way, and the last one
  pub alike_more : (w : ℕ) → is_among (path ++ position ∷ []) w ≡ true → v w ≡ v position
  alike_more w among = among_more path position w among (λ old. way.alike w old) (λ e. ap v e)

-- ---- its end

-- no more are unknown than there are
pub unknown_most : (marks : List (ℕ × Mark)) (n : ℕ) → unknown_below n marks ≤ n
unknown_most marks zero = omega arith
unknown_most marks (suc n) = one_more (mark_at marks n) (unknown_below n marks) (unknown_most marks n)
  where
    one_more : (mark : Mark) (below : ℕ) → below ≤ n → if_unknown mark + below ≤ suc n
    one_more Unknown below le = let is : if_unknown Unknown ≡ 1 = refl in omega arith
    one_more Passes below le = let is : if_unknown Passes ≡ 0 = refl in omega arith
    one_more Fails below le = let is : if_unknown Fails ≡ 0 = refl in omega arith

-- none is unknown that was known
no_more : (old new : List (ℕ × Mark)) (position n : ℕ) → IsMarked old position Fails new → unknown_below n new ≤ unknown_below n old
no_more old new position zero is = omega arith
no_more old new position (suc n) is = same_or_other old new position n Fails is
    (λ e now. sum_less (if_unknown (mark_at new n)) (if_unknown (mark_at old n)) (unknown_below n new) (unknown_below n old) (ap if_unknown now) (no_more old new position n is))
    (λ now. sum_same (if_unknown (mark_at new n)) (if_unknown (mark_at old n)) (unknown_below n new) (unknown_below n old) (ap if_unknown now) (no_more old new position n is))
  where
    sum_less : (a b c d : ℕ) → a ≡ 0 → c ≤ d → a + c ≤ b + d
    sum_less a b c d none le = omega arith

    sum_same : (a b c d : ℕ) → a ≡ b → c ≤ d → a + c ≤ b + d
    sum_same a b c d same le = omega arith

-- another one that isn't above the last is below it
apart : (a b : ℕ) → (a == b) ≡ false → b < suc a → b < a
apart a b differ less = by_order (cases_order b a)
  where
    by_order : (b ≡ a) ⊎ ((b < a) ⊎ (a < b)) → b < a
    by_order (inl same) = let yes = eq-eqb a b (sym same) in cc (differ, yes)
    by_order (inr (inl below)) = below
    by_order (inr (inr above)) = absurd (omega arith)

-- each step leaves one unknown position fewer
pub fewer : (n : ℕ) (old new : List (ℕ × Mark)) (position : ℕ) (direct : Bool) → known_by (mark_at old position) direct ≡ None → position < n → IsMarked old position Fails new
    → unknown_below n new < unknown_below n old
fewer zero old new position direct none lt is = absurd (omega arith)
fewer (suc n) old new position direct none lt is = by_test (n == position) refl (λ less. fewer n old new position direct none less is)
  where
    now : (b : Bool) → (n == position) ≡ b → mark_at new n ≡ (if b then Fails else mark_at old n)
    now b at = is n ∙ ap (λ t. if t then Fails else mark_at old n) at

    one_less : (a b c d : ℕ) → a ≡ 0 → b ≡ 1 → c ≤ d → a + c < b + d
    one_less a b c d none one le = omega arith

    sum_less : (a b c d : ℕ) → a ≡ b → c < d → a + c < b + d
    sum_less a b c d same less = omega arith

    by_test : (b : Bool) → (n == position) ≡ b → (position < n → unknown_below n new < unknown_below n old) → unknown_below (suc n) new < unknown_below (suc n) old
    by_test true at further =
        let was : mark_at old n ≡ Unknown = ap (λ k. mark_at old k) (eqb-true n position at) ∙ (unknown (mark_at old position) direct none).0 in
        one_less (if_unknown (mark_at new n)) (if_unknown (mark_at old n)) (unknown_below n new) (unknown_below n old) (ap if_unknown (now true at)) (ap if_unknown was) (no_more old new position n is)
    by_test false at further =
        sum_less (if_unknown (mark_at new n)) (if_unknown (mark_at old n)) (unknown_below n new) (unknown_below n old) (ap if_unknown (now false at)) (further (apart n position at lt))

-- no more are unknown once those of a way are marked as passing
pub passed_fewer : (old new : List (ℕ × Mark)) (path : List ℕ) (n : ℕ) → ((k : ℕ) → mark_at new k ≡ (if is_among path k then Passes else mark_at old k)) → unknown_below n new ≤ unknown_below n old
passed_fewer old new path zero at = omega arith
passed_fewer old new path (suc n) at = by_test (is_among path n) refl (passed_fewer old new path n at)
  where
    now : (b : Bool) → is_among path n ≡ b → mark_at new n ≡ (if b then Passes else mark_at old n)
    now b is = at n ∙ ap (λ t. if t then Passes else mark_at old n) is

    sum_less : (a b c d : ℕ) → a ≡ 0 → c ≤ d → a + c ≤ b + d
    sum_less a b c d none le = omega arith

    sum_same : (a b c d : ℕ) → a ≡ b → c ≤ d → a + c ≤ b + d
    sum_same a b c d same le = omega arith

    by_test : (b : Bool) → is_among path n ≡ b → unknown_below n new ≤ unknown_below n old → unknown_below (suc n) new ≤ unknown_below (suc n) old
    by_test true is le = sum_less (if_unknown (mark_at new n)) (if_unknown (mark_at old n)) (unknown_below n new) (unknown_below n old) (ap if_unknown (now true is)) le
    by_test false is le = sum_same (if_unknown (mark_at new n)) (if_unknown (mark_at old n)) (unknown_below n new) (unknown_below n old) (ap if_unknown (now false is)) le

-- a step more is counted, and one position fewer is unknown
pub step_counted : (n : ℕ) (old new : List (ℕ × Mark)) (position walked taken : ℕ) (direct : Bool) → known_by (mark_at old position) direct ≡ None → position < n → IsMarked old position Fails new
    → taken ≤ walked + 1 → walked + unknown_below n old ≤ n → taken + unknown_below n new ≤ n
step_counted n old new position walked taken direct none lt is more counted =
    let less = fewer n old new position direct none lt is in
    omega (arith, less, more, counted)

-- ---- what passes

-- what the positions that are left make of the marks
abbrev pub made_of : List ℕ → List (ℕ × Mark) → ℕ → Mark
made_of path marks k = if is_among path k then Passes else mark_at marks k

mark_next : (old new : List (ℕ × Mark)) (x : ℕ) (rest : List ℕ) (k : ℕ) → IsMarked old x Passes new → made_of rest new k ≡ made_of (x ∷ rest) old k
mark_next old new x rest k is = by_test (k == x) refl
  where
    either : (b : Bool) → (if b then Passes else Passes) ≡ Passes
    either true = refl
    either false = refl

    now : (b : Bool) → (k == x) ≡ b → made_of rest new k ≡ (if is_among rest k then Passes else (if b then Passes else mark_at old k))
    now b at = ap (λ m. if is_among rest k then Passes else m) (is k ∙ ap (λ t. if t then Passes else mark_at old k) at)

    made : (b : Bool) → (k == x) ≡ b → made_of (x ∷ rest) old k ≡ (if b || is_among rest k then Passes else mark_at old k)
    made b at = ap (λ t. if t || is_among rest k then Passes else mark_at old k) at

    by_test : (b : Bool) → (k == x) ≡ b → made_of rest new k ≡ made_of (x ∷ rest) old k
    by_test true at = now true at ∙ (either (is_among rest k) ∙ sym (made true at))
    by_test false at = now false at ∙ sym (made false at)

-- the next of the positions, and those after it
pub made_next : (old new : List (ℕ × Mark)) (path : List ℕ) (i k : ℕ) → i < length path → IsMarked old (get_or path i 0) Passes new → made_of (drop (i + 1) path) new k ≡ made_of (drop i path) old k
made_next old new path i k lt is = mark_next old new (get_or path i 0) (drop (i + 1) path) k is ∙ ap (λ ws. made_of ws old k) (sym (drop_more path i 0 lt))

-- marks are true once the positions of the way are marked as what they are
pub settled : (v : ℕ → Bool) (marks new : List (ℕ × Mark)) (path : List ℕ) → AreTrue v marks path → ((k : ℕ) → is_among path k ≡ true → v k ≡ true) → ((k : ℕ) → mark_at new k ≡ (if is_among path k then Passes else mark_at marks k)) → AreTrue v new []
settled v marks new path are pass at = record {
  passing = λ k is. by_passing k (is_among path k) refl (sym (at k) ∙ is);
  failing = λ k is out. by_failing k (is_among path k) refl (sym (at k) ∙ is);
}
  where
    by_passing : (k : ℕ) (b : Bool) → is_among path k ≡ b → (if b then Passes else mark_at marks k) ≡ Passes → v k ≡ true
    by_passing k true among is = pass k among
    by_passing k false among is = are.passing k is

    by_failing : (k : ℕ) (b : Bool) → is_among path k ≡ b → (if b then Passes else mark_at marks k) ≡ Fails → v k ≡ false
    by_failing k true among is = cc is
    by_failing k false among is = are.failing k is among

pub settled_failing : (v : ℕ → Bool) (marks : List (ℕ × Mark)) (path : List ℕ) → AreTrue v marks path → ((k : ℕ) → is_among path k ≡ true → v k ≡ false) → AreTrue v marks []
settled_failing v marks path are fails = record {
  passing = are.passing;
  failing = λ k is out. by_test k (is_among path k) refl is;
}
  where
    by_test : (k : ℕ) (b : Bool) → is_among path k ≡ b → mark_at marks k ≡ Fails → v k ≡ false
    by_test k true among is = fails k among
    by_test k false among is = are.failing k is among

pub none_marked : (v : ℕ → Bool) (marks : List (ℕ × Mark)) → marks ≡ [] → AreTrue v marks []
none_marked v marks empty = record {
  passing = λ k is. let at = ap (λ ms. mark_at ms k) empty in cc (at, is);
  failing = λ k is out. let at = ap (λ ms. mark_at ms k) empty in cc (at, is);
}
