-- Tallies stand for more statements, once that of one node is settled and those that hold it have followed.
use Rattle.std.proofs.Common.{◌≡◌, ◌∙◌, ◌&&◌, ◌==◌, ◌+◌, ◌-◌, ◌^◌, ◌<◌, ◌≤◌, ℕ, Bool, true, false, not, List, [], ◌∷◌, ◌++◌, length, min, refl, sym, ap, subst, arith}
use Rattle.std.specs.Prelude.{if◌then◌else◌}
use Rattle.std.proofs.lemmas.Bool.{eq-eqb, eqb-true}
use Rattle.std.proofs.lemmas.Option.{get_or_from_slice_get, slice_get-get_or, slice_get_within}
use Rattle.cmi5_running_verdicts.specs.Changes.{added, differ, is_about, is_met_with, moved_if, removed, settled, tally_of, untold}
use Rattle.cmi5_running_verdicts.specs.Tallies.{AreTallies, IsTally, is_met_by_all, unmet_under}
use Rattle.cmi5_running_verdicts.specs.declared.tally.Tally.{Tally}
use Rattle.cmi5_running_verdicts.proofs.Counts.{count_alike, count_moved, few_pass}
use Rattle.cmi5_running_verdicts.proofs.Marks.{IsSaid, added_unmet, counted_elsewhere, counted_here, met_alike, removed_unmet, said_part, voided_elsewhere, voided_here}
use Rattle.cmi5_verdict.specs.Cmi5SessionCountsProofs.{one_if}
use Rattle.cmi5_verdict.specs.Cmi5SessionMarked.{MarkedStatement, mark}
use Rattle.cmi5_verdict.specs.Nodes.{SeenEnrolment, is_under}
use Rattle.cmi5_verdict.specs.Said.{said_with}
use Rattle.cmi5_verdict.specs.declared.said.Said.{Said}
use Rattle.lrs_json.specs.View.{view}
use Rattle.cmi5_verdict.specs.XapiStatementStatement.{verb_of}
use Rattle.cmi5_verdict.specs.XapiStatementStored.{StoredStatement}

-- ---- tallies by the numbers of their nodes

pub tally_at : (e : SeenEnrolment) (those : List MarkedStatement) (tallies : List Tally) → AreTallies e those tallies → (index : ℕ) → index < length e.nodes → IsTally e those index (tally_of tallies index)
tally_at e those tallies are index lt = are.each index (tally_of tallies index) (slice_get-get_or tallies index untold (subst (λ n. index < n) (sym are.long) lt))

pub tallies_from : (e : SeenEnrolment) (those : List MarkedStatement) (tallies : List Tally) → length tallies ≡ length e.nodes → ((index : ℕ) → index < length e.nodes → IsTally e those index (tally_of tallies index)) → AreTallies e those tallies
tallies_from e those tallies long is = record {
  long = long;
  each = λ index t at.
      subst (λ (s : Tally). IsTally e those index s) (get_or_from_slice_get tallies index t untold at)
      (is index (subst (λ n. index < n) long (slice_get_within tallies index t at)));
}

with_said : (e : SeenEnrolment) (those : List MarkedStatement) (index : ℕ) (t : Tally) → IsSaid e those index t → t.unmet ≡ unmet_under e those index → IsTally e those index t
with_said e those index t said unmet = record { waived = said.waived; completed = said.completed; passed = said.passed; satisfied = said.satisfied; unmet = unmet }

-- ---- where nothing is said of any node

pub same_tallies : (e : SeenEnrolment) (from to : List MarkedStatement) (tallies : List Tally) → ((index : ℕ) → index < length e.nodes → (t : Tally) → IsSaid e from index t → IsSaid e to index t)
    → AreTallies e from tallies → AreTallies e to tallies
same_tallies e from to tallies said are = tallies_from e to tallies are.long each
  where
    said_to : (index : ℕ) → index < length e.nodes → IsSaid e to index (tally_of tallies index)
    said_to index lt = said index lt (tally_of tallies index) (said_part e from index (tally_of tallies index) (tally_at e from tallies are index lt))

    met_same : (index : ℕ) → index < length e.nodes → is_met_by_all e from index ≡ is_met_by_all e to index
    met_same index lt =
        sym (met_alike e from index (tally_of tallies index) (said_part e from index (tally_of tallies index) (tally_at e from tallies are index lt)))
        ∙ met_alike e to index (tally_of tallies index) (said_to index lt)

    unmet_same : (holder : ℕ) → unmet_under e from holder ≡ unmet_under e to holder
    unmet_same holder =
        count_alike (λ p. is_under e.nodes holder p && not (is_met_by_all e from p)) (λ p. is_under e.nodes holder p && not (is_met_by_all e to p)) 0 (length e.nodes)
        (λ p low lt. ap (λ b. is_under e.nodes holder p && not b) (met_same p (omega arith)))

    each : (index : ℕ) → index < length e.nodes → IsTally e to index (tally_of tallies index)
    each index lt = with_said e to index (tally_of tallies index) (said_to index lt) ((tally_at e from tallies are index lt).unmet ∙ unmet_same index)

-- ---- one that is moved, or not

moved_said : (e : SeenEnrolment) (those : List MarkedStatement) (index : ℕ) (holds is_met : Bool) (t : Tally) → IsSaid e those index t → IsSaid e those index (moved_if holds is_met t)
moved_said e those index true is_met t is = record { waived = is.waived; completed = is.completed; passed = is.passed; satisfied = is.satisfied }
moved_said e those index false is_met t is = is

stays : (before after : ℕ) → after + 0 ≡ before + 0 → before ≡ after
stays before after is = omega arith

stays_unmet : (before after : ℕ) → after + 1 ≡ before + 1 → before ≡ after
stays_unmet before after is = omega arith

rises : (before after : ℕ) → after < 2 ^ 64 → after + 0 ≡ before + 1 → min (before + 1) (2 ^ 64 - 1) ≡ after
rises before after few is = omega arith

falls : (before after : ℕ) → after + 1 ≡ before + 0 → before - 1 ≡ after
falls before after is = omega arith

-- by whether it holds the node, which was met and is met now
moved_unmet : (under was now : Bool) (t : Tally) (after : ℕ) → after < 2 ^ 64 → after + one_if (under && not was) ≡ t.unmet + one_if (under && not now) → (moved_if (differ was now && under) now t).unmet ≡ after
moved_unmet true true true t after few is = stays t.unmet after is
moved_unmet true true false t after few is = rises t.unmet after few is
moved_unmet true false true t after few is = falls t.unmet after is
moved_unmet true false false t after few is = stays_unmet t.unmet after is
moved_unmet false true true t after few is = stays t.unmet after is
moved_unmet false true false t after few is = stays t.unmet after is
moved_unmet false false true t after few is = stays t.unmet after is
moved_unmet false false false t after few is = stays t.unmet after is

below : (a b : ℕ) → a ≤ b → b < 2 ^ 64 → a < 2 ^ 64
below a b le lt = omega arith

-- ---- where one node is settled

module _ (e : SeenEnrolment) (from to : List MarkedStatement) (old new : List Tally) (index : ℕ) (t : Tally) (few : length e.nodes < 2 ^ 64) (within : index < length e.nodes) (elsewhere : (p : ℕ) → p < length e.nodes → (index == p) ≡ false → (s : Tally) → IsSaid e from p s → IsSaid e to p s) (here : IsSaid e to index t) (kept : t.unmet ≡ (tally_of old index).unmet) (are : AreTallies e from old) where
  old_at : (p : ℕ) → p < length e.nodes → IsTally e from p (tally_of old p)
  old_at p lt = tally_at e from old are p lt

  old_said : (p : ℕ) → p < length e.nodes → IsSaid e from p (tally_of old p)
  old_said p lt = said_part e from p (tally_of old p) (old_at p lt)

  abbrev was_met : Bool
  was_met = is_met_with e.nodes index (tally_of old index)

  abbrev met_now : Bool
  met_now = is_met_with e.nodes index t

  -- each other node is met as before
  met_elsewhere : (p : ℕ) → p < length e.nodes → (index == p) ≡ false → is_met_by_all e to p ≡ is_met_by_all e from p
  met_elsewhere p lt other =
      sym (met_alike e to p (tally_of old p) (elsewhere p lt other (tally_of old p) (old_said p lt))) ∙ met_alike e from p (tally_of old p) (old_said p lt)

  unmet_moved : (holder : ℕ) → unmet_under e to holder + one_if (is_under e.nodes holder index && not (is_met_by_all e from index))
      ≡ unmet_under e from holder + one_if (is_under e.nodes holder index && not (is_met_by_all e to index))
  unmet_moved holder =
      count_moved (λ p. is_under e.nodes holder p && not (is_met_by_all e from p)) (λ p. is_under e.nodes holder p && not (is_met_by_all e to p)) index 0 (length e.nodes)
      (λ p other lt. ap (λ b. is_under e.nodes holder p && not b) (met_elsewhere p (omega arith) other)) (omega arith) (omega arith)

  abbrev between : ℕ → Tally
  between holder = if index == holder then t else tally_of old holder

  said_between : (holder : ℕ) → holder < length e.nodes → IsSaid e to holder (between holder)
  said_between holder lt = by_holder (index == holder) refl
    where
      by_holder : (b : Bool) → (index == holder) ≡ b → IsSaid e to holder (if b then t else tally_of old holder)
      by_holder true is = subst (λ k. IsSaid e to k t) (eqb-true index holder is) here
      by_holder false is = elsewhere holder lt is (tally_of old holder) (old_said holder lt)

  unmet_between : (holder : ℕ) → (between holder).unmet ≡ (tally_of old holder).unmet
  unmet_between holder = by_holder (index == holder) refl
    where
      by_holder : (b : Bool) → (index == holder) ≡ b → (if b then t else tally_of old holder).unmet ≡ (tally_of old holder).unmet
      by_holder true is = kept ∙ ap (λ k. (tally_of old k).unmet) (eqb-true index holder is)
      by_holder false is = refl

  unmet_now : (holder : ℕ) → holder < length e.nodes → (settled e.nodes index t old holder).unmet ≡ unmet_under e to holder
  unmet_now holder lt =
      let under : Bool = is_under e.nodes holder index in
      moved_unmet under was_met met_now (between holder) (unmet_under e to holder)
      (below (unmet_under e to holder) (length e.nodes) (few_pass (λ p. is_under e.nodes holder p && not (is_met_by_all e to p)) (length e.nodes)) few)
      (ap (λ b. unmet_under e to holder + one_if (under && not b)) (met_alike e from index (tally_of old index) (old_said index within))
      ∙ (unmet_moved holder
      ∙ (ap (λ b. unmet_under e from holder + one_if (under && not b)) (sym (met_alike e to index t here))
      ∙ ap (λ n. n + one_if (under && not met_now)) (sym (unmet_between holder ∙ (old_at holder lt).unmet)))))

  settled_at : (holder : ℕ) → holder < length e.nodes → IsTally e to holder (settled e.nodes index t old holder)
  settled_at holder lt =
      with_said e to holder (settled e.nodes index t old holder)
      (moved_said e to holder (differ was_met met_now && is_under e.nodes holder index) met_now (between holder) (said_between holder lt)) (unmet_now holder lt)

  pub settled_stand : length new ≡ length old → ((holder : ℕ) → holder < length old → tally_of new holder ≡ settled e.nodes index t old holder) → AreTallies e to new
  settled_stand long settles =
      tallies_from e to new (long ∙ are.long)
      (λ p lt. subst (λ (s : Tally). IsTally e to p s) (sym (settles p (subst (λ n. p < n) (sym are.long) lt))) (settled_at p lt))

-- ---- one statement that is counted

pub counted_at : (e : SeenEnrolment) (those : List MarkedStatement) (m : MarkedStatement) (old new : List Tally) (index : ℕ) → length e.nodes < 2 ^ 64 → length those + 1 < 2 ^ 64 → index < length e.nodes
    → ((p : ℕ) → p < length e.nodes → (index == p) ≡ is_about e p (view m.statement.received)) → length new ≡ length old
    → ((holder : ℕ) → holder < length old → tally_of new holder ≡ settled e.nodes index (added (said_with (verb_of (view m.statement.received)) m.voided) (tally_of old index)) old holder)
    → AreTallies e those old → AreTallies e (those ++ m ∷ []) new
counted_at e those m old new index few fewer within meant long settles are =
    let told : Said = said_with (verb_of (view m.statement.received)) m.voided in
    let before : Tally = tally_of old index in
    settled_stand e those (those ++ m ∷ []) old new index (added told before) few within (λ p lt other s is. counted_elsewhere e those m p s (sym (meant p lt) ∙ other) is)
    (counted_here e those m index before fewer (sym (meant index within) ∙ eq-eqb index index refl) (said_part e those index before (tally_at e those old are index within)))
    (added_unmet told before) are long settles

pub none_counted : (e : SeenEnrolment) (those : List MarkedStatement) (m : MarkedStatement) (tallies : List Tally) → ((p : ℕ) → p < length e.nodes → is_about e p (view m.statement.received) ≡ false)
    → AreTallies e those tallies → AreTallies e (those ++ m ∷ []) tallies
none_counted e those m tallies never are = same_tallies e those (those ++ m ∷ []) tallies (λ p lt s is. counted_elsewhere e those m p s (never p lt) is) are

-- ---- one statement that is voided

pub voided_at : (e : SeenEnrolment) (before behind : List MarkedStatement) (s : StoredStatement) (old new : List Tally) (index : ℕ) → length e.nodes < 2 ^ 64 → index < length e.nodes
    → ((p : ℕ) → p < length e.nodes → (index == p) ≡ is_about e p (view s.received)) → length new ≡ length old
    → ((holder : ℕ) → holder < length old → tally_of new holder ≡ settled e.nodes index (removed (said_with (verb_of (view s.received)) false) (tally_of old index)) old holder)
    → AreTallies e (before ++ mark s false ∷ behind) old → AreTallies e (before ++ mark s true ∷ behind) new
voided_at e before behind s old new index few within meant long settles are =
    let told : Said = said_with (verb_of (view s.received)) false in
    let tally : Tally = tally_of old index in
    settled_stand e (before ++ mark s false ∷ behind) (before ++ mark s true ∷ behind) old new index (removed told tally) few within
    (λ p lt other t is. voided_elsewhere e before behind s p t (sym (meant p lt) ∙ other) is)
    (voided_here e before behind s index tally (sym (meant index within) ∙ eq-eqb index index refl)
    (said_part e (before ++ mark s false ∷ behind) index tally (tally_at e (before ++ mark s false ∷ behind) old are index within)))
    (removed_unmet told tally) are long settles

pub none_voided : (e : SeenEnrolment) (before behind : List MarkedStatement) (s : StoredStatement) (tallies : List Tally) → ((p : ℕ) → p < length e.nodes → is_about e p (view s.received) ≡ false)
    → AreTallies e (before ++ mark s false ∷ behind) tallies → AreTallies e (before ++ mark s true ∷ behind) tallies
none_voided e before behind s tallies never are =
    same_tallies e (before ++ mark s false ∷ behind) (before ++ mark s true ∷ behind) tallies (λ p lt t is. voided_elsewhere e before behind s p t (never p lt) is) are
