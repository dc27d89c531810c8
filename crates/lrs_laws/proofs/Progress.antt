-- No verdict of a registration gets better but by a statement that tells of progress in it.
use Rattle.std.proofs.Common.{◌≡◌, ℕ, ◌<◌, List, [], ◌∷◌, ◌++◌, length, Bool, true, false, not, ◌&&◌, ◌||◌, Option, Some, None, refl, sym, ap, subst, ◌∙◌, append_assoc, append-nil, true≢false}
use Rattle.std.specs.Prelude.{if◌then◌else◌}
use Rattle.std.specs.List.{AllByRecursion, list_all, list_any}
use Rattle.std.specs.Option.{option_map_or}
use Rattle.std.specs.Str.{bytes_eq}
use Rattle.std.specs.Cmp.Lexicographic.{same_text}
use Rattle.std.specs.Cmp.{first_so, second_so}
use Rattle.std.proofs.lemmas.Bool.{and_from, false_from_ne_true, not-true, or_right}
use Rattle.std.proofs.lemmas.List.Folds.{list_any-append}
use Rattle.cmi5_course.specs.Units.{AssignableUnit}
use Rattle.cmi5_course.specs.declared.unit.MoveOn.{MoveOn}
use Rattle.cmi5_course.specs.declared.unit.MoveOn.TheVariants.{NotApplicable, Passed, Completed, CompletedAndPassed, CompletedOrPassed}
use Rattle.cmi5_launch.specs.Names.{completed, passed, satisfied, waived}
use Rattle.cmi5_session.specs.Counting.{counts}
use Rattle.cmi5_session.specs.Own.{is_cmi5_defined, says}
use Rattle.cmi5_verdict.specs.Nodes.{SeenEnrolment, activity_of_node, is_met_at, is_owed, is_satisfied, is_unit_in, under, unit_in}
use Rattle.cmi5_verdict.specs.Units.{counts_among, is_met, moves_on, stands, was_said}
use Rattle.lrs_json.specs.Json.{Json}
use Rattle.lrs_json.specs.View.{view}
use Rattle.lrs_laws.proofs.DeskStatements.{IsOfDesk, other_verb}
use Rattle.lrs_laws.proofs.Keepers.{or_false}
use Rattle.lrs_laws.proofs.Lists.{each_weaker}
use Rattle.lrs_laws.proofs.Walking.{NonePass}
use Rattle.lrs_names.specs.Members.{is_one_of}
use Rattle.xapi_rules.specs.Rules.{is_voiding}
use Rattle.xapi_statement.specs.Statements.{add, add_each, is_held, is_target, is_that_id, is_voided, voids}
use Rattle.xapi_statement.specs.Statement.{activity_of, registration_of, verb_of}
use Rattle.xapi_statement.specs.Stored.{StoredStatement}

-- ---- what tells of progress

-- that a unit was waived, completed or passed
abbrev pub says_progress : Json → Bool
says_progress j = says waived j || (says completed j || says passed j)

-- in that registration
abbrev pub tells_progress : List ℕ → Json → Bool
tells_progress registration j = says_progress j && is_that_id registration (registration_of j)

-- where none is told, nothing of these verbs counts
uncounted : (verb registration activity : List ℕ) (j : Json) → (says verb j ≡ true → says_progress j ≡ true) → tells_progress registration j ≡ false → counts registration activity verb j ≡ false
uncounted verb registration activity j progress none =
    false_from_ne_true (counts registration activity verb j)
    (λ is. let here : Bool = is_that_id registration (registration_of j) in
    let both : says verb j && here ≡ true = first_so (says verb j && here) (is_that_id activity (activity_of j)) is in
    true≢false (sym (and_from (says_progress j) here (progress (first_so (says verb j) here both)) (second_so (says verb j) here both)) ∙ none))

three_false : (a b c d t : Bool) → a ≡ false → b ≡ false → c ≡ false → ((a && d) || ((b && d) || (c && d))) && t ≡ false
three_false false false false d t p q r = refl
three_false true b c d t p q r = cc p
three_false false true c d t p q r = cc q
three_false false false true d t p q r = cc r

undefined_false : (a b c t : Bool) → ((a && false) || ((b && false) || (c && false))) && t ≡ false
undefined_false true true true t = refl
undefined_false true true false t = refl
undefined_false true false true t = refl
undefined_false true false false t = refl
undefined_false false true true t = refl
undefined_false false true false t = refl
undefined_false false false true t = refl
undefined_false false false false t = refl

-- what cmi5 doesn't define tells of none
pub none_undefined : (registration : List ℕ) (j : Json) → is_cmi5_defined j ≡ false → tells_progress registration j ≡ false
none_undefined registration j is =
    let a : Bool = bytes_eq (verb_of j) waived in
    let b : Bool = bytes_eq (verb_of j) completed in
    let c : Bool = bytes_eq (verb_of j) passed in
    let t : Bool = is_that_id registration (registration_of j) in
    ap (λ d. ((a && d) || ((b && d) || (c && d))) && t) is ∙ undefined_false a b c t

and_false : (b : Bool) → b && false ≡ false
and_false true = refl
and_false false = refl

-- nor does what is said in another registration
pub none_elsewhere : (registration : List ℕ) (j : Json) → is_that_id registration (registration_of j) ≡ false → tells_progress registration j ≡ false
none_elsewhere registration j is = ap (λ t. says_progress j && t) is ∙ and_false (says_progress j)

pub another : (own registration : List ℕ) (o : Option (List ℕ)) → is_that_id own o ≡ true → bytes_eq own registration ≡ false → is_that_id registration o ≡ false
another own registration None is other = refl
another own registration (Some id) is other = ap (λ i. bytes_eq i registration) (same_text id own (sym is)) ∙ other

-- nor what the store says of its own by other verbs
pub none_by_verb : (verbs : List (List ℕ)) → is_one_of verbs waived ≡ false → is_one_of verbs completed ≡ false → is_one_of verbs passed ≡ false → (registration : List ℕ) (ss : List StoredStatement)
    → AllByRecursion (IsOfDesk verbs) ss → NonePass (tells_progress registration) ss
none_by_verb verbs no_waived no_completed no_passed registration ss each =
    each_weaker (IsOfDesk verbs) (λ (s : StoredStatement). tells_progress registration (view s.received) ≡ false)
    (λ s of. let j : Json = view s.received in
    three_false (bytes_eq (verb_of j) waived) (bytes_eq (verb_of j) completed) (bytes_eq (verb_of j) passed) (is_cmi5_defined j) (is_that_id registration (registration_of j))
    (other_verb verbs s waived of no_waived) (other_verb verbs s completed of no_completed) (other_verb verbs s passed of no_passed)) ss each

-- ---- one statement more

pub any_weaker : {A : Type 0} (p q : A → Bool) → ((x : A) → p x ≡ true → q x ≡ true) → (xs : List A) → list_any p xs ≡ true → list_any q xs ≡ true
any_weaker p q so [] is = cc is
any_weaker p q so (x ∷ xs) is = by_first (p x) refl is (any_weaker p q so xs)
  where
    by_first : (b : Bool) → p x ≡ b → b || list_any p xs ≡ true → (list_any p xs ≡ true → list_any q xs ≡ true) → q x || list_any q xs ≡ true
    by_first true here either rest = ap (λ c. c || list_any q xs) (so x here)
    by_first false here either rest = or_right (q x) (list_any q xs) (rest either)

all_weaker : {A : Type 0} (p q : A → Bool) → ((x : A) → p x ≡ true → q x ≡ true) → (xs : List A) → list_all p xs ≡ true → list_all q xs ≡ true
all_weaker p q so [] is = refl
all_weaker p q so (x ∷ xs) is = and_from (q x) (list_all q xs) (so x (first_so (p x) (list_all p xs) is)) (all_weaker p q so xs (second_so (p x) (list_all p xs) is))

unvoided : (v old more : Bool) → not (not v && (old || more)) ≡ true → not (not v && old) ≡ true
unvoided true old more is = refl
unvoided false true more is = is
unvoided false false more is = refl

or_more : (a b c d : Bool) → (a ≡ true → c ≡ true) → (b ≡ true → d ≡ true) → a || b ≡ true → c || d ≡ true
or_more true b c d first next is = ap (λ x. x || d) (first refl)
or_more false b c d first next is = or_right c d (next is)

moves_before : (asked : MoveOn) (c p old_c old_p : Bool) → (c ≡ true → old_c ≡ true) → (p ≡ true → old_p ≡ true) → moves_on asked c p ≡ true → moves_on asked old_c old_p ≡ true
moves_before NotApplicable c p old_c old_p by_c by_p is = is
moves_before Passed c p old_c old_p by_c by_p is = by_p is
moves_before Completed c p old_c old_p by_c by_p is = by_c is
moves_before CompletedAndPassed c p old_c old_p by_c by_p is = and_from old_c old_p (by_c (first_so c p is)) (by_p (second_so c p is))
moves_before CompletedOrPassed c p old_c old_p by_c by_p is = or_more c p old_c old_p by_c by_p is

module _ (held : List StoredStatement) (x : StoredStatement) where
  -- what stands stood before one that doesn't count
  stood : (registration activity verb : List ℕ) → counts registration activity verb (view x.received) ≡ false → stands (held ++ x ∷ []) registration activity verb ≡ true → stands held registration activity verb ≡ true
  stood registration activity verb none is =
      any_weaker now (counts_among false held registration activity verb)
      (λ s passes. and_from (counts registration activity verb (view s.received)) (not (is_voided held s))
      (first_so (counts registration activity verb (view s.received)) (not (is_voided (held ++ x ∷ []) s)) passes)
      (unvoided (is_voiding (view s.received)) (is_target s.id held) (is_target s.id (x ∷ []))
      (ap (λ b. not (not (is_voiding (view s.received)) && b)) (sym (list_any-append (voids s.id) held (x ∷ []))) ∙ second_so (counts registration activity verb (view s.received)) (not (is_voided (held ++ x ∷ []) s)) passes)))
      held before
    where
      now : StoredStatement → Bool
      now = counts_among false (held ++ x ∷ []) registration activity verb

      before : list_any now held ≡ true
      before =
          sym (or_false (list_any now held))
          ∙ (sym (ap (λ b. list_any now held || ((b && not (is_voided (held ++ x ∷ []) x)) || false)) none) ∙ (sym (list_any-append now held (x ∷ [])) ∙ is))

  met_before : (registration activity : List ℕ) (asked : MoveOn) → tells_progress registration (view x.received) ≡ false → is_met (held ++ x ∷ []) registration activity asked ≡ true
      → is_met held registration activity asked ≡ true
  met_before registration activity asked none is =
      let j : Json = view x.received in
      or_more (stands (held ++ x ∷ []) registration activity waived)
      (moves_on asked (stands (held ++ x ∷ []) registration activity completed) (stands (held ++ x ∷ []) registration activity passed))
      (stands held registration activity waived) (moves_on asked (stands held registration activity completed) (stands held registration activity passed))
      (stood registration activity waived (uncounted waived registration activity j (λ said. ap (λ b. b || (says completed j || says passed j)) said) none))
      (moves_before asked (stands (held ++ x ∷ []) registration activity completed) (stands (held ++ x ∷ []) registration activity passed) (stands held registration activity completed) (stands held registration activity passed)
      (stood registration activity completed
      (uncounted completed registration activity j (λ said. or_right (says waived j) (says completed j || says passed j) (ap (λ b. b || says passed j) said)) none))
      (stood registration activity passed
      (uncounted passed registration activity j (λ said. or_right (says waived j) (says completed j || says passed j) (or_right (says completed j) (says passed j) said)) none))) is

  satisfied_before : (e : SeenEnrolment) (index : ℕ) → tells_progress e.registration (view x.received) ≡ false → is_satisfied e (held ++ x ∷ []) index ≡ true → is_satisfied e held index ≡ true
  satisfied_before e index none is = all_weaker (is_met_at e (held ++ x ∷ [])) (is_met_at e held) (λ p. by_unit p (unit_in e.nodes p)) (under e.nodes index) is
    where
      by_unit : (p : ℕ) (o : Option AssignableUnit) → option_map_or (λ (u : AssignableUnit). is_met (held ++ x ∷ []) e.registration (activity_of_node e p) u.move_on) o true ≡ true
          → option_map_or (λ (u : AssignableUnit). is_met held e.registration (activity_of_node e p) u.move_on) o true ≡ true
      by_unit p None met = refl
      by_unit p (Some u) met = met_before e.registration (activity_of_node e p) u.move_on none met

  -- and what is owed was so
  owed_once_more : (e : SeenEnrolment) (index : ℕ) → tells_progress e.registration (view x.received) ≡ false → is_owed e (held ++ x ∷ []) index ≡ true → is_owed e held index ≡ true
  owed_once_more e index none is =
      let holder : Bool = not (is_unit_in e.nodes index) in
      let told : List StoredStatement → Bool = λ l. was_said l e.registration (activity_of_node e index) satisfied in
      let both : holder && is_satisfied e (held ++ x ∷ []) index ≡ true = first_so (holder && is_satisfied e (held ++ x ∷ []) index) (not (told (held ++ x ∷ []))) is in
      let unsaid : told (held ++ x ∷ []) ≡ false = not-true (told (held ++ x ∷ [])) (second_so (holder && is_satisfied e (held ++ x ∷ []) index) (not (told (held ++ x ∷ []))) is) in
      let never : told held ≡ false = false_from_ne_true (told held) (λ said. true≢false (sym (list_any-append (counts_among true held e.registration (activity_of_node e index) satisfied) held (x ∷ [])
      ∙ ap (λ b. b || list_any (counts_among true held e.registration (activity_of_node e index) satisfied) (x ∷ [])) said) ∙ unsaid)) in
      and_from (holder && is_satisfied e held index) (not (told held))
      (and_from holder (is_satisfied e held index) (first_so holder (is_satisfied e (held ++ x ∷ []) index) both)
      (satisfied_before e index none (second_so holder (is_satisfied e (held ++ x ∷ []) index) both))) (ap (λ b. not b) never)

-- ---- more statements

pub owed_before : (e : SeenEnrolment) (index : ℕ) (held xs : List StoredStatement) → NonePass (tells_progress e.registration) xs → is_owed e (held ++ xs) index ≡ true → is_owed e held index ≡ true
owed_before e index held [] none is = subst (λ l. is_owed e l index ≡ true) (append-nil held) is
owed_before e index held (x ∷ xs) none is =
    owed_once_more held x e index none.0 (owed_before e index (held ++ x ∷ []) xs none.1 (subst (λ l. is_owed e l index ≡ true) (sym (append_assoc held (x ∷ []) xs)) is))

-- of each node that is no unit and is satisfied this was said
abbrev pub IsSettled : SeenEnrolment → List StoredStatement → Type 0
IsSettled e statements = (index : ℕ) → index < length e.nodes → is_owed e statements index ≡ false

-- a registration in which none tells of progress stays settled
pub settled_each : (e : SeenEnrolment) (held xs : List StoredStatement) → NonePass (tells_progress e.registration) xs → IsSettled e held → IsSettled e (add_each held xs)
settled_each e held [] none settled = settled
settled_each e held (x ∷ xs) none settled = settled_each e (add held x) xs none.1 (by_held (is_held x.id held))
  where
    by_held : (b : Bool) → IsSettled e (if b then held else held ++ x ∷ [])
    by_held true index less = settled index less
    by_held false index less =
        false_from_ne_true (is_owed e (held ++ x ∷ []) index) (λ is. true≢false (sym (owed_once_more held x e index none.0 is) ∙ settled index less))
