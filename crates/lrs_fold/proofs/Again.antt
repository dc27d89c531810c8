-- An accepted entry comes next, and what is told of it is no refusal.
use Rattle.std.proofs.Common.{◌≡◌, ◌<◌, ◌≤◌, ℕ, List, [], ◌∷◌, length, sym, ◌∙◌, ap, subst, arith, Some, Bool, true, false, Ok}
use Rattle.std.specs.Prelude.{if◌then◌else◌}
use Rattle.lrs_command.specs.declared.command.Command.{Command}
use Rattle.lrs_command.specs.declared.command.Command.TheVariants as command
use Rattle.lrs_reads.specs.LrsHistoryAnswers.{acceptance_said, write_said}
use Rattle.lrs_reads.specs.LrsHistoryEffects.{effect}
use Rattle.lrs_reads.specs.LrsHistoryHistory.{Accepted, answer, answer_of, end_offset, need, state, outcome, ComesNext, IsLegal}
use Rattle.lrs_reads.specs.LrsHistoryRoomProofs.{room_is}
use Rattle.lrs_reads.specs.LrsHistoryOutcomesProofs.{accepts, again}
use Rattle.lrs_names.specs.declared.draw.Draw.{Draw}
use Rattle.lrs_learning.specs.LrsStateState.{State, changes_nothing}
use Rattle.lrs_learning.specs.LrsStateAcceptanceAcceptance.{Acceptance}
use Rattle.lrs_learning.specs.LrsStateAcceptanceAcceptanceTheVariants.{Plain}
use Rattle.lrs_learning.specs.LrsStateEffectEffect.{Effect}
use Rattle.lrs_time.specs.declared.moments.TheConstants.{LATEST}
use Rattle.lrs_record.specs.declared.entry.Caller.{Caller}
use Rattle.lrs_record.specs.declared.entry.Entry.{Entry}
use Rattle.lrs_replies.specs.Replies.{IsRefusal}
use Rattle.lrs_replies.specs.declared.answered.Answered.{Answered}
use Rattle.lrs_replies.specs.declared.answered.Answered.TheVariants as said

-- a legal history isn't empty, so the next entry is the answer's
pub next_of : (limit : ℕ) (h : List Entry) (e : Entry) → IsLegal limit h → (answer limit h e.caller (command.Write e.write) e.moment e.draw).entry ≡ Some e → ComesNext limit h e
next_of limit [] e legal is = absurd (no legal.0)
  where
    no : length {A = Entry} [] < 0 → ⊥
    no h = omega (arith, h)
next_of limit (x ∷ h) e legal is = is

-- asked again at its own moment, a kept entry is kept
pub kept_again : (limit : ℕ) (h : List Entry) (caller : Caller) (c : Command) (clock : ℕ) (draw : Draw) (e : Entry) (said : Answered) → IsLegal limit h → outcome (state h) caller c clock draw ≡ Accepted e said
    → need (end_offset limit h) e ≤ limit → e.moment ≤ LATEST → ComesNext limit h e
kept_again limit h caller c clock draw e said legal is fits early =
    next_of limit h e legal
    (ap (λ v. (answer_of limit (end_offset limit h) v).entry) (again (state h) caller c clock draw e said is early) ∙ ap (λ a. a.entry) (room_is limit (end_offset limit h) said e fits))

-- what is said of a write by its effect is no refusal
no_refusal : (x : Effect) → IsRefusal (Ok (write_said x)) → ⊥
no_refusal x k = by_acceptance x.acceptance (changes_nothing x) k
  where
    by_acceptance : (a : Acceptance) (b : Bool) → IsRefusal (Ok (acceptance_said a (if b then said.Same else said.Kept))) → ⊥
    by_acceptance Plain true k = k
    by_acceptance Plain false k = k
    by_acceptance other b k = k

pub acceptance_no_refusal : (st : State) (caller : Caller) (c : Command) (clock : ℕ) (draw : Draw) (e : Entry) (t : Answered) → outcome st caller c clock draw ≡ Accepted e t → IsRefusal (Ok t) → ⊥
acceptance_no_refusal st caller c clock draw e t at refuses =
    let shown = accepts st caller c clock draw e t at in no_refusal (effect st e) (subst (λ u. IsRefusal (Ok u)) (sym shown.said) refuses)
