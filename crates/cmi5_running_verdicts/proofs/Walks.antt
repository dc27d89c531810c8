-- A walk outward that meets no node twice, and moves the tally of each that it meets.
use Rattle.std.proofs.Common.{◌≡◌, ◌∙◌, ◌&&◌, ◌||◌, ◌==◌, ◌+◌, ◌-◌, ◌<◌, ℕ, zero, suc, Bool, true, false, List, [], ◌∷◌, length, Option, Some, None, refl, sym, ap, arith, ⊎_elim}
use Rattle.std.specs.Prelude.{if◌then◌else◌, slice_set}
use Rattle.std.proofs.lemmas.Bool.{cases_eq, eq-eqb, eqb-true, ne_eqb}
use Rattle.std.proofs.lemmas.List.{get_or-set_other, get_or-set_same}
use Rattle.cmi5_course.specs.declared.course.Node.{Node}
use Rattle.cmi5_running_verdicts.specs.Changes.{differ, is_met_with, moved, moved_if, settled, tally_of, untold}
use Rattle.cmi5_running_verdicts.specs.Holding.{StandBehindHolders}
use Rattle.cmi5_running_verdicts.specs.declared.tally.Tally.{Tally}
use Rattle.cmi5_verdict.specs.Nodes.{is_under, outward, parent_of}
use Rattle.cmi5_verdict.proofs.Holders.{is_among, outward_none}

-- ---- none is met twice

-- a walk meets none that stands behind its first
none_behind : (nodes : List Node) → StandBehindHolders nodes → (steps index holder : ℕ) → index < holder → is_among holder (outward nodes steps (Some index)) ≡ false
none_behind nodes behind zero index holder lt = refl
none_behind nodes behind (suc steps) index holder lt =
    ap (λ b. b || is_among holder (outward nodes steps (parent_of nodes index))) (ne_eqb index holder (λ e. omega arith))
    ∙ by_parent (parent_of nodes index) refl (λ parent less. none_behind nodes behind steps parent holder less)
  where
    by_parent : (o : Option ℕ) → parent_of nodes index ≡ o → ((parent : ℕ) → parent < holder → is_among holder (outward nodes steps (Some parent)) ≡ false) → is_among holder (outward nodes steps o) ≡ false
    by_parent None is rest = ap (is_among holder) (outward_none nodes steps)
    by_parent (Some parent) is rest =
        let less : parent < index = behind index parent is in
        rest parent (omega arith)

-- so the rest of a walk doesn't meet its first again
not_again : (nodes : List Node) → StandBehindHolders nodes → (steps here holder : ℕ) (next : Option ℕ) → parent_of nodes here ≡ next → (here == holder) ≡ true → is_among holder (outward nodes steps next) ≡ false
not_again nodes behind steps here holder None holds same = ap (is_among holder) (outward_none nodes steps)
not_again nodes behind steps here holder (Some parent) holds same =
    let is : here ≡ holder = eqb-true here holder same in
    let less : parent < here = behind here parent holds in
    none_behind nodes behind steps parent holder (omega arith)

-- ---- one tally that is set

pub set_at : (tallies : List Tally) (index holder : ℕ) (t : Tally) → holder < length tallies → tally_of (slice_set tallies index t) holder ≡ (if index == holder then t else tally_of tallies holder)
set_at tallies index holder t lt = ⊎_elim there elsewhere (cases_eq index holder)
  where
    there : index ≡ holder → tally_of (slice_set tallies index t) holder ≡ (if index == holder then t else tally_of tallies holder)
    there e =
        ap (λ k. tally_of (slice_set tallies k t) holder) e
        ∙ (get_or-set_same tallies holder t untold lt ∙ sym (ap (λ b. if b then t else tally_of tallies holder) (eq-eqb index holder e)))

    elsewhere : (index ≡ holder → ⊥) → tally_of (slice_set tallies index t) holder ≡ (if index == holder then t else tally_of tallies holder)
    elsewhere never =
        get_or-set_other tallies index holder t untold (λ e. never (sym e))
        ∙ sym (ap (λ b. if b then t else tally_of tallies holder) (ne_eqb index holder never))

pub moved_at : (tallies : List Tally) (here holder : ℕ) (is_met : Bool) → holder < length tallies
    → tally_of (slice_set tallies here (moved is_met (tally_of tallies here))) holder ≡ moved_if (here == holder) is_met (tally_of tallies holder)
moved_at tallies here holder is_met lt = ⊎_elim there elsewhere (cases_eq here holder)
  where
    there : here ≡ holder → tally_of (slice_set tallies here (moved is_met (tally_of tallies here))) holder ≡ moved_if (here == holder) is_met (tally_of tallies holder)
    there e =
        ap (λ k. tally_of (slice_set tallies k (moved is_met (tally_of tallies k))) holder) e
        ∙ (get_or-set_same tallies holder (moved is_met (tally_of tallies holder)) untold lt
        ∙ sym (ap (λ b. moved_if b is_met (tally_of tallies holder)) (eq-eqb here holder e)))

    elsewhere : (here ≡ holder → ⊥) → tally_of (slice_set tallies here (moved is_met (tally_of tallies here))) holder ≡ moved_if (here == holder) is_met (tally_of tallies holder)
    elsewhere never =
        get_or-set_other tallies here holder (moved is_met (tally_of tallies here)) untold (λ e. never (sym e))
        ∙ sym (ap (λ b. moved_if b is_met (tally_of tallies holder)) (ne_eqb here holder never))

-- ---- what is moved so far, and what the rest of the walk moves

twice : (first rest is_met : Bool) (t : Tally) → (first ≡ true → rest ≡ false) → moved_if rest is_met (moved_if first is_met t) ≡ moved_if (first || rest) is_met t
twice true rest is_met t never = ap (λ b. moved_if b is_met (moved is_met t)) (never refl)
twice false rest is_met t never = refl

module _ (nodes : List Node) (behind : StandBehindHolders nodes) (n i here : ℕ) (next : Option ℕ) (lt : i < n) (holds : parent_of nodes here ≡ next) where
  outward_on : outward nodes (n - i) (Some here) ≡ here ∷ outward nodes (n - (i + 1)) next
  outward_on =
      let steps : n - i ≡ suc (n - (i + 1)) = omega arith in
      ap (λ k. outward nodes k (Some here)) steps ∙ ap (λ o. here ∷ outward nodes (n - (i + 1)) o) holds

  pub moved_next : (holder : ℕ) (is_met : Bool) (before now all : Tally) → now ≡ moved_if (here == holder) is_met before
      → moved_if (is_among holder (outward nodes (n - i) (Some here))) is_met before ≡ all → moved_if (is_among holder (outward nodes (n - (i + 1)) next)) is_met now ≡ all
  moved_next holder is_met before now all is so_far =
      let rest : Bool = is_among holder (outward nodes (n - (i + 1)) next) in
      ap (λ (t : Tally). moved_if rest is_met t) is
      ∙ (twice (here == holder) rest is_met before (λ same. not_again nodes behind (n - (i + 1)) here holder next holds same)
      ∙ (ap (λ ps. moved_if (is_among holder ps) is_met before) (sym outward_on) ∙ so_far))

  pub moved_ended : (holder : ℕ) (is_met : Bool) (before now all : Tally) → next ≡ None → now ≡ moved_if (here == holder) is_met before
      → moved_if (is_among holder (outward nodes (n - i) (Some here))) is_met before ≡ all → now ≡ all
  moved_ended holder is_met before now all none is so_far =
      sym (ap (λ o. moved_if (is_among holder (outward nodes (n - (i + 1)) o)) is_met now) none
      ∙ ap (λ ps. moved_if (is_among holder ps) is_met now) (outward_none nodes (n - (i + 1))))
      ∙ moved_next holder is_met before now all is so_far

pub moved_over : (holder : ℕ) (is_met : Bool) (ps : List ℕ) (now all : Tally) → ps ≡ [] → moved_if (is_among holder ps) is_met now ≡ all → now ≡ all
moved_over holder is_met ps now all none so_far = sym (ap (λ qs. moved_if (is_among holder qs) is_met now) none) ∙ so_far

-- ---- one tally that is set, and what follows

pub settled_by : (nodes : List Node) (index holder : ℕ) (t : Tally) (old set : List Tally) (was now : Bool) → was ≡ is_met_with nodes index (tally_of old index) → now ≡ is_met_with nodes index t
    → set ≡ slice_set old index t → holder < length old → moved_if (differ was now && is_under nodes holder index) now (tally_of set holder) ≡ settled nodes index t old holder
settled_by nodes index holder t old set was now before after is lt =
    let met : Bool = is_met_with nodes index (tally_of old index) in
    let is_met : Bool = is_met_with nodes index t in
    ap (λ b. moved_if (differ b now && is_under nodes holder index) now (tally_of set holder)) before
    ∙ (ap (λ b. moved_if (differ met b && is_under nodes holder index) b (tally_of set holder)) after
    ∙ ap (λ (s : Tally). moved_if (differ met is_met && is_under nodes holder index) is_met s) (ap (λ (ts : List Tally). tally_of ts holder) is ∙ set_at old index holder t lt))
