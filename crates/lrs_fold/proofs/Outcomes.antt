-- What becomes of an entry, by why it is refused and by what it changes.
use Rattle.std.proofs.Common.{◌≡◌, List, Bool, true, false, Option, Some, None, refl, sym, ap, subst, ◌∙◌}
use Rattle.std.specs.Prelude.{if◌then◌else◌, option_map}
use Rattle.std.specs.Option.{option_or}
use Rattle.lrs_fold.specs.Outcomes.{IsOutcome, made_of}
use Rattle.lrs_json.specs.declared.tree.Tree.{Tree}
use Rattle.xapi_index.specs.Ahead.{AreTextsOf}
use Rattle.lrs_fold.specs.declared.outcome.Accepted.{Accepted as Made}
use Rattle.lrs_fold.specs.declared.outcome.Outcome.TheVariants as made
use Rattle.lrs_reads.specs.LrsHistoryAnswers.{write_said}
use Rattle.lrs_reads.specs.LrsHistoryEffects.{effect}
use Rattle.lrs_reads.specs.LrsHistoryHistory.{Outcome, refused, outcome_by, write_outcome}
use Rattle.lrs_reads.specs.LrsHistoryRefusals.{refusal}
use Rattle.lrs_learning.specs.LrsStateState.{State, changes_nothing}
use Rattle.lrs_learning.specs.LrsStateEffectEffect.{Effect}
use Rattle.lrs_record.specs.Entries.{IsLawful, written_entry}
use Rattle.lrs_record.specs.declared.entry.Entry.{Entry}
use Rattle.lrs_replies.specs.declared.answered.Answered.{Answered}
use Rattle.lrs_replies.specs.declared.answered.Refusal.{Refusal}
use Rattle.lrs_ids.specs.Choices.{when}

-- by its refusal and by whether it changes nothing
abbrev by_both : State → Entry → Option Refusal → Bool → Outcome
by_both st e r b = outcome_by (option_or (option_map refused r) (when b (write_said (effect st e)))) e (write_said (effect st e))

both_are : (st : State) (e : Entry) (r : Option Refusal) (b : Bool) → refusal st e ≡ r → changes_nothing (effect st e) ≡ b → write_outcome st e ≡ by_both st e r b
both_are st e r b is same = ap (λ o. by_both st e o (changes_nothing (effect st e))) is ∙ ap (λ t. by_both st e r t) same

said_is : (st : State) (e : Entry) (x : Effect) (s : Answered) → x ≡ effect st e → s ≡ write_said x → s ≡ write_said (effect st e)
said_is st e x s of is = is ∙ ap (λ y. write_said y) of

pub refused_now : (st : State) (e : Entry) (r : Refusal) → refusal st e ≡ Some r → IsOutcome st (write_outcome st e) (made.Said (refused r))
refused_now st e r is = subst (λ v. IsOutcome st v (made.Said (refused r))) (sym (both_are st e (Some r) (changes_nothing (effect st e)) is refl)) refl

told_now : (st : State) (e : Entry) (x : Effect) (s : Answered) → refusal st e ≡ None → x ≡ effect st e → changes_nothing x ≡ true → s ≡ write_said x
    → IsOutcome st (write_outcome st e) (made.Said s)
told_now st e x s is of same told =
    subst (λ v. IsOutcome st v (made.Said s)) (sym (both_are st e None true is (ap (λ y. changes_nothing y) (sym of) ∙ same))) (said_is st e x s of told)

kept_then : (st : State) (e : Entry) (x : Effect) (a : Made) (texts : List Tree) → refusal st e ≡ None → x ≡ effect st e → changes_nothing x ≡ false → IsLawful e → a.entry.value ≡ e
    → a.text ≡ written_entry e → a.effect ≡ x → a.said ≡ write_said x → AreTextsOf texts a.effect.statements
    → IsOutcome st (write_outcome st e) (made.Accepted a texts)
kept_then st e x a texts is of other lawful entry text same told are =
    subst (λ v. IsOutcome st v (made.Accepted a texts)) (sym (both_are st e None false is (ap (λ y. changes_nothing y) (sym of) ∙ other)))
    (record { entry = entry; lawful = lawful; text = text; effect = same ∙ of; said = said_is st e x a.said of told }, are)

pub outcome_now : (st : State) (e : Entry) (a : Made) (texts : List Tree) → refusal st e ≡ None → a.effect ≡ effect st e → IsLawful e → a.entry.value ≡ e → a.text ≡ written_entry e → a.said ≡ write_said a.effect
    → AreTextsOf texts a.effect.statements → IsOutcome st (write_outcome st e) (made_of a texts)
outcome_now st e a texts is of lawful entry text told are = by_change (changes_nothing a.effect) refl
  where
    by_change : (b : Bool) → changes_nothing a.effect ≡ b → IsOutcome st (write_outcome st e) (if b then made.Said a.said else made.Accepted a texts)
    by_change true same = told_now st e a.effect a.said is of same told
    by_change false other = kept_then st e a.effect a texts is of other lawful entry text refl told are
