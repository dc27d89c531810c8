-- A refusal leaves nothing, and trouble at most the act's one entry, in doubt.
use Rattle.std.proofs.Common.{◌≡◌, ◌≢◌, ◌⊎◌, ◌+◌, ℕ, List, [], ◌∷◌, ◌++◌, length, take, Bool, true, false, Option, Some, None, Result, Ok, Err, refl, sym, ap, ◌∙◌, inl, inr, append-nil, length-append, nat_lt, arith}
use Rattle.std.specs.Prelude.{◌||◌, is_some, if◌then◌else◌, IsSome}
use Rattle.lrs_command.specs.declared.command.Command.{Command}
use Rattle.lrs_disk.specs.Faults.{Rises}
use Rattle.lrs_command.specs.declared.command.Command.TheVariants as command
use Rattle.lrs_machine.proofs.Lines.{entries_append, entries_one}
use Rattle.lrs_machine.specs.Acts.{HasDiskCause, Receipt, TellsEntry, changed, index_where, line_behind, made_by, record_of}
use Rattle.lrs_machine.specs.Line.{Record, entries, in_doubt}
use Rattle.lrs_machine.specs.LrsHistoryAnswers.{write_said}
use Rattle.lrs_machine.specs.LrsHistoryEffects.{effect}
use Rattle.lrs_machine.specs.LrsHistoryHistory.{Answer, answer, answer_of, end_offset, need, next_entry, outcome_by, refused, said_at_once, state}
use Rattle.lrs_machine.specs.LrsHistoryRoomProofs.{kept_answer, no_room}
use Rattle.lrs_machine.specs.Steps.{one_of}
use Rattle.lrs_names.specs.declared.draw.Draw.{Draw}
use Rattle.lrs_record.specs.declared.entry.Caller.{Caller}
use Rattle.lrs_record.specs.declared.entry.Entry.{Entry}
use Rattle.lrs_replies.specs.Replies.{Says, status_of}
use Rattle.lrs_replies.specs.declared.answered.Answered.{Answered}
use Rattle.lrs_replies.specs.declared.answered.Answered.TheVariants.{Document, Kept, Refused, Same, Shown}
use Rattle.lrs_replies.specs.declared.answered.Refusal.{Refusal}
use Rattle.lrs_replies.specs.declared.answered.Refusal.TheVariants.{Conflict}
use Rattle.lrs_replies.specs.declared.reply.Reply.{Reply}
use Rattle.lrs_replies.specs.declared.reply.Trouble.{Trouble}
use Rattle.lrs_replies.specs.declared.reply.Trouble.TheVariants.{Disk, Memory}
use Rattle.lrs_hall.proofs.Lines.{entries_take, one_length}
use Rattle.lrs_hall.specs.Acts.{ActsIn, Reach}
use Rattle.lrs_hall.specs.Laws.{entries_in}
use Rattle.lrs_hall.specs.Refusals.{LeavesDoubt, LeavesNothing, RefusalsLeaveNothing, TroubleLeavesAtMostDoubt}

-- ---- the answer

-- what is said of an effect is no refusal
said_of_effect : (x : _) (r : Refusal) → write_said x ≢ refused r
said_of_effect x r is = grind arith

-- where what is to be said is no refusal, what is refused has no entry
none_by : (limit offset : ℕ) (o : Option Answered) (e : Entry) (t : Answered) (r : Refusal) → t ≢ refused r → (answer_of limit offset (outcome_by o e t)).said ≡ refused r
    → (answer_of limit offset (outcome_by o e t)).entry ≡ None
none_by limit offset (Some s) e t r free is = refl
none_by limit offset None e t r free is = by_room (nat_lt limit (need offset e)) is
  where
    by_room : (b : Bool) → (if b then no_room limit offset e else kept_answer t e).said ≡ refused r → (if b then no_room limit offset e else kept_answer t e).entry ≡ None
    by_room true told = refl
    by_room false told = absurd (free told)

refused_makes_none : (limit : ℕ) (h : List Entry) (caller : Caller) (c : Command) (clock : ℕ) (draw : Draw) (r : Refusal) → (answer limit h caller c clock draw).said ≡ refused r
    → (answer limit h caller c clock draw).entry ≡ None
refused_makes_none limit h caller (command.Write w) clock draw r is =
    let st = state h in
    let e = next_entry st caller w clock draw in
    none_by limit (end_offset limit h) (said_at_once st e) e (write_said (effect st e)) r (λ told. said_of_effect (effect st e) r told) is
refused_makes_none limit h caller other clock draw r is = refl

-- ---- its status

refusal_of : (s : Answered) → status_of s ≢ 200 → status_of s ≢ 204 → (r : Refusal) × (s ≡ refused r)
refusal_of Kept shown kept = absurd (kept refl)
refusal_of Same shown kept = absurd (kept refl)
refusal_of (Shown text through) shown kept = absurd (shown refl)
refusal_of (Document media bytes) shown kept = absurd (shown refl)
refusal_of (Refused r) shown kept = (r, refl)

no_trouble : (s : Answered) → status_of s ≢ 503
no_trouble (Refused (Conflict id)) is = omega (arith, is)
no_trouble other is = omega (arith, is)

-- ---- the line

without_own : (line : List Record) (a : Answer) (receipt : Receipt) → receipt.entry ≡ None → entries (line_behind line a receipt) ≡ entries line
without_own line a receipt none = by_change (changed receipt)
  where
    r : Record
    r = record_of (made_by a receipt) receipt

    by_change : (b : Bool) → entries (if b then line ++ r ∷ [] else line) ≡ entries line
    by_change true =
        entries_append line (r ∷ []) ∙ ap (λ (l : List Entry). entries line ++ l) (entries_one r) ∙ ap (λ (o : Option ℕ). entries line ++ one_of (if is_some o then a.entry else None)) none
        ∙ append-nil (entries line)
    by_change false = refl

with_own : (line : List Record) (a : Answer) (receipt : Receipt) (n : ℕ) → receipt.entry ≡ Some n → entries (line_behind line a receipt) ≡ entries line ++ one_of a.entry
with_own line a receipt n own =
    let r = record_of (made_by a receipt) receipt in
    ap (λ (b : Bool). entries (if b then line ++ r ∷ [] else line)) (ap (λ (o : Option ℕ). is_some o || is_some receipt.landed) own)
    ∙ entries_append line (r ∷ []) ∙ ap (λ (l : List Entry). entries line ++ l) (entries_one r) ∙ ap (λ (o : Option ℕ). entries line ++ one_of (if is_some o then a.entry else None)) own

-- ---- acts

module _ (limit : ℕ) (line : List Record) (caller : Caller) (c : Command) (draw : Draw) (reply : Reply) (receipt : Receipt) (old new : Reach) (act : ActsIn limit line caller c draw reply receipt old new) where
  abbrev a : Answer
  a = answer limit (take receipt.point (entries line)) caller c receipt.clock draw

  abbrev Tells : Result Answered Trouble → Type 0
  Tells said = TellsEntry a receipt.point (in_doubt (take act.at line)) (in_doubt (take new.records line)) receipt.entry said

  leaves_nothing : receipt.entry ≡ None → LeavesNothing line receipt new
  leaves_nothing none = record {
    entry = none;
    history = ap entries act.acts.line ∙ without_own (take act.at line) a receipt none ∙ entries_take line act.at ∙ ap (λ (n : ℕ). take n (entries line)) (sym act.acts.point);
  }

  leaves_doubt : IsSome a.entry → receipt.entry ≡ Some receipt.point → in_doubt (take new.records line) ≡ true → LeavesDoubt line receipt new
  leaves_doubt some own doubt =
      let before = entries (take act.at line) in
      let count : entries_in new.records line ≡ length before + length (one_of a.entry) =
      ap (λ (l : List Record). length (entries l)) act.acts.line ∙ ap length (with_own (take act.at line) a receipt receipt.point own) ∙ length-append before (one_of a.entry) in
      let one : length (one_of a.entry) ≡ 1 = one_length a.entry some in
      let point : receipt.point ≡ length before = act.acts.point in
      let next : entries_in new.records line ≡ receipt.point + 1 = omega (arith, count, one, point) in
      record { entry = own; history = entries_take line new.records ∙ ap (λ (n : ℕ). take n (entries line)) next; doubt = doubt }

  refusal_leaves : (said : Result Answered Trouble) → Says said reply → Tells said → reply.status ≢ 200 → reply.status ≢ 204 → reply.status ≢ 503 → LeavesNothing line receipt new
  refusal_leaves (Ok s) says tells shown kept calm =
      let r = refusal_of s (λ is. shown (says.0 ∙ is)) (λ is. kept (says.0 ∙ is)) in
      let none : a.entry ≡ None = refused_makes_none limit (take receipt.point (entries line)) caller c receipt.clock draw r.0 (sym tells.0 ∙ r.1) in
      leaves_nothing (tells.1 ∙ ap (λ (o : Option Entry). index_where (is_some o) receipt.point) none)
  refusal_leaves (Err Memory) says tells shown kept calm = absurd (calm says.0)
  refusal_leaves (Err Disk) says tells shown kept calm = absurd (calm says.0)

  trouble_leaves : (said : Result Answered Trouble) → Says said reply → Tells said → HasDiskCause receipt.was receipt.is said → reply.status ≡ 503
      → LeavesNothing line receipt new ⊎ (Rises receipt.was receipt.is × LeavesDoubt line receipt new)
  trouble_leaves (Ok s) says tells cause trouble = absurd (no_trouble s (sym says.0 ∙ trouble))
  trouble_leaves (Err Memory) says tells cause trouble = inl (leaves_nothing tells.0)
  trouble_leaves (Err Disk) says (inl none) cause trouble = inl (leaves_nothing none.0)
  trouble_leaves (Err Disk) says (inr own) cause trouble = inr (cause.1, leaves_doubt own.0 own.1 own.2)

pub refusals_leave_nothing : RefusalsLeaveNothing
refusals_leave_nothing limit line caller c draw reply receipt old new act shown kept calm =
    refusal_leaves limit line caller c draw reply receipt old new act act.said act.says act.acts.tells (λ is. shown (act.status ∙ is)) (λ is. kept (act.status ∙ is)) (λ is. calm (act.status ∙ is))

pub trouble_leaves_at_most_doubt : TroubleLeavesAtMostDoubt
trouble_leaves_at_most_doubt limit line caller c draw reply receipt old new act trouble =
    trouble_leaves limit line caller c draw reply receipt old new act act.said act.says act.acts.tells act.acts.cause (sym act.status ∙ trouble)
