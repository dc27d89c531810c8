-- What is refused makes no entry, and an answer's status tells whether it is refused.
use Rattle.std.proofs.Common.{◌≡◌, ◌≢◌, ℕ, inl, inr, Bool, true, false, None, refl, ◌∙◌, subst, nat_lt, arith}
use Rattle.std.specs.Prelude.{if◌then◌else◌}
use Rattle.lrs_history.proofs.Outcomes.{accepts}
use Rattle.lrs_history.proofs.Room.{kept_answer, no_room}
use Rattle.lrs_history.specs.Answers.{write_said}
use Rattle.lrs_history.specs.Effects.{effect}
use Rattle.lrs_history.specs.History.{Accepted, Outcome, Said, answer_of, end_offset, need, outcome, refused, state}
use Rattle.lrs_laws.specs.Refusals.{IsSuccess, RefusedMakesNoEntry, StatusesTellRefusals}
use Rattle.lrs_record.specs.declared.entry.Entry.{Entry}
use Rattle.lrs_replies.specs.Replies.{refusal_status, status_of}
use Rattle.lrs_replies.specs.declared.answered.Answered.{Answered}
use Rattle.lrs_replies.specs.declared.answered.Answered.TheVariants.{Document, Kept, Refused, Same, Shown}
use Rattle.lrs_replies.specs.declared.answered.Refusal.{Refusal}
use Rattle.lrs_replies.specs.declared.answered.Refusal.TheVariants.{Conflict}
use Rattle.lrs_state.specs.declared.effect.Effect.{Effect}

-- ---- entries

-- what is said of an effect is no refusal
said_of_effect : (x : Effect) (r : Refusal) → write_said x ≢ refused r
said_of_effect x r is = grind arith

-- where no entry is told a refusal, what is told one has no entry
no_entry : (limit offset : ℕ) (v : Outcome) (r : Refusal) → ((e : Entry) (t : Answered) → v ≡ Accepted e t → t ≢ refused r)
    → (answer_of limit offset v).said ≡ refused r → (answer_of limit offset v).entry ≡ None
no_entry limit offset (Said t) r free is = refl
no_entry limit offset (Accepted e t) r free is = by_room (nat_lt limit (need offset e)) is
  where
    by_room : (c : Bool) → (if c then no_room limit offset e else kept_answer t e).said ≡ refused r → (if c then no_room limit offset e else kept_answer t e).entry ≡ None
    by_room true told = refl
    by_room false told = absurd (free e t refl told)

pub refused_makes_no_entry : RefusedMakesNoEntry
refused_makes_no_entry limit h caller c clock draw r is =
    let st = state h in
    no_entry limit (end_offset limit h) (outcome st caller c clock draw) r
    (λ e t at told. said_of_effect (effect st e) r ((accepts st caller c clock draw e t at).said ∙ told)) is

-- ---- statuses

status_of_success : (s : Answered) → ((r : Refusal) → s ≢ refused r) → IsSuccess (status_of s)
status_of_success Kept free = inr refl
status_of_success Same free = inr refl
status_of_success (Shown text through) free = inl refl
status_of_success (Document media bytes) free = inl refl
status_of_success (Refused r) free = absurd (free r refl)

status_of_refusal : (r : Refusal) → IsSuccess (refusal_status r) → ⊥
status_of_refusal (Conflict id) (inl is) = omega (arith, is)
status_of_refusal (Conflict id) (inr is) = omega (arith, is)
status_of_refusal other (inl is) = omega (arith, is)
status_of_refusal other (inr is) = omega (arith, is)

pub statuses_tell_refusals : StatusesTellRefusals
statuses_tell_refusals a = (
  λ free. status_of_success a.said free,
  λ success r is. status_of_refusal r (subst (λ (s : Answered). IsSuccess (status_of s)) is success),
)
