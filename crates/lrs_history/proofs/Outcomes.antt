-- What an accepted command shows, and that its entry is accepted again at its own moment.
use Rattle.std.proofs.Common.{◌≡◌, ◌≤◌, ℕ, min, max, Option, Some, None, refl, ◌∙◌, ap, subst, arith}
use Rattle.lrs_command.specs.declared.command.Command.{Command}
use Rattle.lrs_command.specs.declared.command.Command.TheVariants as command
use Rattle.lrs_history.specs.Answers.{write_said}
use Rattle.lrs_history.specs.Effects.{effect}
use Rattle.lrs_history.specs.History.{Accepted, entry_at, next_entry, said_at_once, outcome, outcome_by}
use Rattle.lrs_names.specs.declared.draw.Draw.{Draw}
use Rattle.lrs_state.specs.State.{State}
use Rattle.lrs_time.specs.Moments.{clamped}
use Rattle.lrs_time.specs.declared.moments.TheConstants.{LATEST}
use Rattle.lrs_record.specs.declared.entry.Caller.{Caller}
use Rattle.lrs_record.specs.declared.entry.Entry.{Entry}
use Rattle.lrs_replies.specs.declared.answered.Answered.{Answered}

-- Nothing is said to the entry at once, and what is told of it is read off its effect.
pub record Accepts (st : State) (caller : Caller) (clock : ℕ) (draw : Draw) (e : Entry) (told : Answered) : Type 0 where
  pub at_once : said_at_once st e ≡ None
  pub said : write_said (effect st e) ≡ told
  pub entry : e ≡ next_entry st caller e.write clock draw

pub accepts : (st : State) (caller : Caller) (c : Command) (clock : ℕ) (draw : Draw) (e : Entry) (said : Answered) → outcome st caller c clock draw ≡ Accepted e said → Accepts st caller clock draw e said
accepts st caller (command.Write w) clock draw e said is = by_said (said_at_once st x) refl is
  where
    x : Entry
    x = next_entry st caller w clock draw

    by_said : (o : Option Answered) → said_at_once st x ≡ o → outcome_by o x (write_said (effect st x)) ≡ Accepted e said → Accepts st caller clock draw e said
    by_said (Some t) at is = cc is
    by_said None at is =
        let same : x ≡ e = cc is in
        let told : write_said (effect st x) ≡ said = cc is in
        subst (λ y. Accepts st caller clock draw y said) same (record { at_once = at; said = told; entry = refl })
accepts st caller (command.Read r) clock draw e said is = cc is
accepts st caller (command.Refused area status rule) clock draw e said is = cc is

-- where the entry would be itself at its own moment, it is accepted again
pub accepted_again : (st : State) (e : Entry) (said : Answered) → max (clamped e.moment) st.last ≡ e.moment → said_at_once st e ≡ None → write_said (effect st e) ≡ said
    → outcome st e.caller (command.Write e.write) e.moment e.draw ≡ Accepted e said
accepted_again st e said same at told =
    ap (λ m. let y = entry_at e.caller e.write m e.draw in outcome_by (said_at_once st y) y (write_said (effect st y))) same
    ∙ (ap (λ o. outcome_by o e (write_said (effect st e))) at ∙ ap (λ s. Accepted e s) told)

moment_again : (c n m : ℕ) → m ≡ max (min c LATEST) n → m ≤ LATEST → max (min m LATEST) n ≡ m
moment_again c n m is le = omega (arith, is, le)

pub again : (st : State) (caller : Caller) (c : Command) (clock : ℕ) (draw : Draw) (e : Entry) (said : Answered) → outcome st caller c clock draw ≡ Accepted e said → e.moment ≤ LATEST
    → outcome st e.caller (command.Write e.write) e.moment e.draw ≡ Accepted e said
again st caller c clock draw e said is early =
    let shown = accepts st caller c clock draw e said is in
    accepted_again st e said (moment_again clock st.last e.moment (ap (λ (y : Entry). y.moment) shown.entry) early) shown.at_once shown.said
