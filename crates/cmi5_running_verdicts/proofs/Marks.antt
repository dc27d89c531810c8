-- What marked statements say of a node: by one statement more, and by one that is voided.
use Rattle.std.proofs.Common.{◌≡◌, ◌∙◌, ◌&&◌, ◌||◌, ◌+◌, ◌-◌, ◌^◌, ◌<◌, ℕ, Bool, true, false, not, List, [], ◌∷◌, ◌++◌, length, refl, sym, ap}
use Rattle.std.proofs.Math.Bool.{and-false, or-false}
use Rattle.std.specs.Prelude.{if◌then◌else◌, nat_lt}
use Rattle.std.specs.List.{list_any}
use Rattle.std.specs.Option.{option_map_or}
use Rattle.std.specs.Str.{bytes_eq}
use Rattle.std.proofs.lemmas.List.Folds.{list_any-append}
use Rattle.cmi5_verdict.specs.Cmi5LaunchNames.{completed, passed, satisfied, waived}
use Rattle.cmi5_running_verdicts.specs.Changes.{added, is_about, is_met_with, removed}
use Rattle.cmi5_running_verdicts.specs.Tallies.{IsTally, how_many_say, is_met_by_all, said_by_all, said_in_tally, says_of_node, says_still}
use Rattle.cmi5_running_verdicts.specs.declared.tally.Tally.{Tally}
use Rattle.cmi5_verdict.specs.Cmi5SessionCounting.{one_less, one_more}
use Rattle.cmi5_verdict.specs.Cmi5SessionCountsProofs.{count_less, count_none, count_one, count_same}
use Rattle.cmi5_verdict.specs.Cmi5SessionMarked.{MarkedStatement, mark}
use Rattle.cmi5_verdict.specs.Cmi5SessionOwn.{is_cmi5_defined}
use Rattle.cmi5_verdict.specs.Nodes.{SeenEnrolment, activity_of_node, unit_in}
use Rattle.cmi5_verdict.specs.Said.{meets, said_with}
use Rattle.cmi5_verdict.specs.declared.said.Said.{Said}
use Rattle.cmi5_verdict.proofs.Spoken.{flag, same_said}
use Rattle.lrs_json.specs.View.{view}
use Rattle.cmi5_verdict.specs.XapiStatementStatements.{is_that_id}
use Rattle.cmi5_verdict.specs.XapiStatementStatement.{activity_of, registration_of, verb_of}
use Rattle.cmi5_verdict.specs.XapiStatementStored.{StoredStatement}

-- ---- what is said, as a tally counts it

-- what is counted of what is said of the node
pub record IsSaid (e : SeenEnrolment) (those : List MarkedStatement) (index : ℕ) (t : Tally) : Type 0 where
  pub waived : t.waived ≡ how_many_say e those waived index
  pub completed : t.completed ≡ how_many_say e those completed index
  pub passed : t.passed ≡ how_many_say e those passed index
  pub satisfied : t.satisfied ≡ list_any (says_of_node e satisfied index) those

pub said_part : (e : SeenEnrolment) (those : List MarkedStatement) (index : ℕ) (t : Tally) → IsTally e those index t → IsSaid e those index t
said_part e those index t is = record { waived = is.waived; completed = is.completed; passed = is.passed; satisfied = is.satisfied }

said_alike : (e : SeenEnrolment) (those : List MarkedStatement) (index : ℕ) (t : Tally) → IsSaid e those index t → said_in_tally t ≡ said_by_all e those index
said_alike e those index t is = same_said _ _ _ _ _ _ _ _ (ap (λ n. nat_lt 0 n) is.waived) (ap (λ n. nat_lt 0 n) is.completed) (ap (λ n. nat_lt 0 n) is.passed) is.satisfied

pub met_alike : (e : SeenEnrolment) (those : List MarkedStatement) (index : ℕ) (t : Tally) → IsSaid e those index t → is_met_with e.nodes index t ≡ is_met_by_all e those index
met_alike e those index t is = ap (λ (s : Said). option_map_or (λ unit. meets unit.move_on s) (unit_in e.nodes index) true) (said_alike e those index t is)

-- ---- what one statement says

module _ (e : SeenEnrolment) (index : ℕ) (m : MarkedStatement) (verb : List ℕ) where
  says_if : says_of_node e verb index m ≡ (if is_about e index (view m.statement.received) then bytes_eq (verb_of (view m.statement.received)) verb else false)
  says_if =
      flag (bytes_eq (verb_of (view m.statement.received)) verb) (is_that_id e.registration (registration_of (view m.statement.received))) (is_cmi5_defined (view m.statement.received))
      (is_that_id (activity_of_node e index) (activity_of (view m.statement.received)))

  says_none : is_about e index (view m.statement.received) ≡ false → says_of_node e verb index m ≡ false
  says_none elsewhere = says_if ∙ ap (λ b. if b then bytes_eq (verb_of (view m.statement.received)) verb else false) elsewhere

  says_here : is_about e index (view m.statement.received) ≡ true → says_of_node e verb index m ≡ bytes_eq (verb_of (view m.statement.received)) verb
  says_here here = says_if ∙ ap (λ b. if b then bytes_eq (verb_of (view m.statement.received)) verb else false) here

-- ---- one statement more

any_push : {A : Type 0} (test : A → Bool) (xs : List A) (x : A) → list_any test (xs ++ x ∷ []) ≡ list_any test xs || test x
any_push test xs x = list_any-append test xs (x ∷ []) ∙ ap (λ b. list_any test xs || b) (or-false (test x))

module _ (e : SeenEnrolment) (those : List MarkedStatement) (m : MarkedStatement) (index : ℕ) where
  many_same : (verb : List ℕ) → is_about e index (view m.statement.received) ≡ false → how_many_say e (those ++ m ∷ []) verb index ≡ how_many_say e those verb index
  many_same verb elsewhere = count_none (says_still e verb index) those m (ap (λ b. b && not m.voided) (says_none e index m verb elsewhere))

  any_same : is_about e index (view m.statement.received) ≡ false → list_any (says_of_node e satisfied index) (those ++ m ∷ []) ≡ list_any (says_of_node e satisfied index) those
  any_same elsewhere =
      any_push (says_of_node e satisfied index) those m
      ∙ (ap (λ b. list_any (says_of_node e satisfied index) those || b) (says_none e index m satisfied elsewhere) ∙ or-false (list_any (says_of_node e satisfied index) those))

  -- of another node nothing more is counted
  pub counted_elsewhere : (t : Tally) → is_about e index (view m.statement.received) ≡ false → IsSaid e those index t → IsSaid e (those ++ m ∷ []) index t
  counted_elsewhere t elsewhere is = record {
    waived = is.waived ∙ sym (many_same waived elsewhere);
    completed = is.completed ∙ sym (many_same completed elsewhere);
    passed = is.passed ∙ sym (many_same passed elsewhere);
    satisfied = is.satisfied ∙ sym (any_same elsewhere);
  }

  many_more : (verb : List ℕ) (number : ℕ) → length those + 1 < 2 ^ 64 → is_about e index (view m.statement.received) ≡ true → number ≡ how_many_say e those verb index
      → one_more number (bytes_eq (verb_of (view m.statement.received)) verb && not m.voided) ≡ how_many_say e (those ++ m ∷ []) verb index
  many_more verb number few here is =
      let counts : Bool = bytes_eq (verb_of (view m.statement.received)) verb && not m.voided in
      ap (λ n. one_more n counts) is ∙ count_one (says_still e verb index) those m counts (ap (λ b. b && not m.voided) (says_here e index m verb here)) few

  any_more : (said : Bool) → is_about e index (view m.statement.received) ≡ true → said ≡ list_any (says_of_node e satisfied index) those
      → said || bytes_eq (verb_of (view m.statement.received)) satisfied ≡ list_any (says_of_node e satisfied index) (those ++ m ∷ [])
  any_more said here is =
      ap (λ b. b || bytes_eq (verb_of (view m.statement.received)) satisfied) is
      ∙ sym (any_push (says_of_node e satisfied index) those m ∙ ap (λ b. list_any (says_of_node e satisfied index) those || b) (says_here e index m satisfied here))

  -- of its own what it says
  pub counted_here : (t : Tally) → length those + 1 < 2 ^ 64 → is_about e index (view m.statement.received) ≡ true → IsSaid e those index t
      → IsSaid e (those ++ m ∷ []) index (added (said_with (verb_of (view m.statement.received)) m.voided) t)
  unfolding added said_with
  counted_here t few here is = record {
    waived = many_more waived t.waived few here is.waived;
    completed = many_more completed t.completed few here is.completed;
    passed = many_more passed t.passed few here is.passed;
    satisfied = any_more t.satisfied here is.satisfied;
  }

pub added_unmet : (told : Said) (t : Tally) → (added told t).unmet ≡ t.unmet
unfolding added
added_unmet told t = refl

-- ---- one statement that is voided

module _ (e : SeenEnrolment) (before behind : List MarkedStatement) (s : StoredStatement) (index : ℕ) where
  abbrev marked_with : Bool → List MarkedStatement
  marked_with voided = before ++ mark s voided ∷ behind

  many_kept : (verb : List ℕ) → is_about e index (view s.received) ≡ false → how_many_say e (marked_with false) verb index ≡ how_many_say e (marked_with true) verb index
  many_kept verb elsewhere =
      count_same (says_still e verb index) before behind (mark s false) (mark s true) (ap (λ b. b && not false) (says_none e index (mark s false) verb elsewhere))
      (and-false (says_of_node e verb index (mark s true)))

  any_kept : list_any (says_of_node e satisfied index) (marked_with false) ≡ list_any (says_of_node e satisfied index) (marked_with true)
  any_kept =
      list_any-append (says_of_node e satisfied index) before (mark s false ∷ behind) ∙ sym (list_any-append (says_of_node e satisfied index) before (mark s true ∷ behind))

  pub voided_elsewhere : (t : Tally) → is_about e index (view s.received) ≡ false → IsSaid e (before ++ mark s false ∷ behind) index t → IsSaid e (before ++ mark s true ∷ behind) index t
  voided_elsewhere t elsewhere is = record {
    waived = is.waived ∙ many_kept waived elsewhere;
    completed = is.completed ∙ many_kept completed elsewhere;
    passed = is.passed ∙ many_kept passed elsewhere;
    satisfied = is.satisfied ∙ any_kept;
  }

  many_less : (verb : List ℕ) (number : ℕ) → is_about e index (view s.received) ≡ true → number ≡ how_many_say e (marked_with false) verb index
      → one_less number (bytes_eq (verb_of (view s.received)) verb && not false) ≡ how_many_say e (marked_with true) verb index
  many_less verb number here is =
      let counted : Bool = bytes_eq (verb_of (view s.received)) verb && not false in
      ap (λ n. one_less n counted) is
      ∙ count_less (says_still e verb index) before behind (mark s false) (mark s true) counted (ap (λ b. b && not false) (says_here e index (mark s false) verb here))
      (and-false (says_of_node e verb index (mark s true)))

  pub voided_here : (t : Tally) → is_about e index (view s.received) ≡ true → IsSaid e (before ++ mark s false ∷ behind) index t
      → IsSaid e (before ++ mark s true ∷ behind) index (removed (said_with (verb_of (view s.received)) false) t)
  unfolding removed said_with
  voided_here t here is = record {
    waived = many_less waived t.waived here is.waived;
    completed = many_less completed t.completed here is.completed;
    passed = many_less passed t.passed here is.passed;
    satisfied = is.satisfied ∙ any_kept;
  }

pub removed_unmet : (told : Said) (t : Tally) → (removed told t).unmet ≡ t.unmet
unfolding removed
removed_unmet told t = refl
