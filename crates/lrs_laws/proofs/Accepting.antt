-- What an accepted entry shows.
use Rattle.std.proofs.Common.{◌≡◌, ℕ, List, Bool, true, false, Option, Some, None, refl, ap, subst, ◌∙◌, nat_lt}
use Rattle.std.specs.Prelude.{if◌then◌else◌, option_map}
use Rattle.std.specs.Option.{option_or}
use Rattle.lrs_command.specs.declared.command.Command.TheVariants.{Write}
use Rattle.lrs_history.proofs.Room.{kept_answer, no_room}
use Rattle.lrs_history.specs.Answers.{write_said}
use Rattle.lrs_history.specs.Effects.{effect}
use Rattle.lrs_history.specs.History.{answer, answer_of, end_offset, need, next_entry, only, outcome_by, refused, refused_or, said_at_once, state}
use Rattle.lrs_history.specs.Refusals.{refusal}
use Rattle.lrs_ids.specs.Choices.{when}
use Rattle.lrs_laws.specs.Laws.{IsAccepted}
use Rattle.lrs_state.specs.State.{changes_nothing}
use Rattle.lrs_record.specs.declared.entry.Entry.{Entry}
use Rattle.lrs_replies.specs.declared.answered.Answered.{Answered}
use Rattle.lrs_replies.specs.declared.answered.Refusal.{Refusal}

-- what made an entry was told nothing at once, the entry is its own, and it is told what it was to be told
pub accepted_at : (limit index : ℕ) (x e : Entry) (t : Answered) (o : Option Answered) → (answer_of limit index (outcome_by o x t)).entry ≡ Some e
    → (o ≡ None) × (x ≡ e) × ((answer_of limit index (outcome_by o x t)).said ≡ t)
accepted_at limit index x e t (Some said) is = cc is
accepted_at limit index x e t None is = let both = by_room (nat_lt limit (need index x)) is in (refl, both.0, both.1)
  where
    by_room : (c : Bool) → (if c then no_room limit index x else kept_answer t x).entry ≡ Some e → (x ≡ e) × ((if c then no_room limit index x else kept_answer t x).said ≡ t)
    by_room true is = cc is
    by_room false is = (cc is, refl)

pub not_refused : (o : Option Refusal) (p : Option Answered) → option_or (option_map refused o) p ≡ None → o ≡ None
not_refused None p is = refl
not_refused (Some r) p is = cc is

-- a write that isn't refused has no reason to be
pub unrefused : (limit index : ℕ) (x : Entry) (t : Answered) (o : Option Refusal) (p : Option Answered) → IsAccepted (answer_of limit index (outcome_by (option_or (option_map refused o) p) x t)) → o ≡ None
unrefused limit index x t None p is = refl
unrefused limit index x t (Some r) p is = absurd (is r refl)

-- nor has a question
pub unrefused_read : (o : Option Refusal) (t : Answered) → IsAccepted (only (refused_or o t)) → o ≡ None
unrefused_read None t is = refl
unrefused_read (Some r) t is = absurd (is r refl)

some_change : (o : Option Answered) (b : Bool) (said : Answered) → option_or o (when b said) ≡ None → b ≡ false
some_change None true said is = cc is
some_change None false said is = refl
some_change (Some t) b said is = cc is

-- It isn't refused, it changes something, and its caller is told what its change says.
pub record Accepted (limit : ℕ) (h : List Entry) (e : Entry) : Type 0 where
  pub free : refusal (state h) e ≡ None
  pub changed : changes_nothing (effect (state h) e) ≡ false
  pub said : (answer limit h e.caller (Write e.write) e.moment e.draw).said ≡ write_said (effect (state h) e)

pub accepted : (limit : ℕ) (h : List Entry) (e : Entry) → (answer limit h e.caller (Write e.write) e.moment e.draw).entry ≡ Some e → Accepted limit h e
accepted limit h e is =
    let st = state h in
    let x : Entry = next_entry st e.caller e.write e.moment e.draw in
    let shown = accepted_at limit (end_offset limit h) x e (write_said (effect st x)) (said_at_once st x) is in
    let at_once : said_at_once st e ≡ None = subst (λ (y : Entry). said_at_once st y ≡ None) shown.1 shown.0 in
    record {
      free = not_refused (refusal st e) (when (changes_nothing (effect st e)) (write_said (effect st e))) at_once;
      changed = some_change (option_map refused (refusal st e)) (changes_nothing (effect st e)) (write_said (effect st e)) at_once;
      said = shown.2 ∙ ap (λ (y : Entry). write_said (effect st y)) shown.1;
    }
