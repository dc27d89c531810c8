-- From what acts left in a worker's pass to what they tell of the one line.
use Rattle.std.proofs.Common.{◌≡◌, ◌+◌, ℕ, List, [], ◌∷◌, ◌++◌, length, take, Bool, true, false, Result, Ok, Err, inl, inr, ◌⊎◌, refl, sym, ap, ◌∙◌, subst, append-nil, length-append}
use Rattle.std.specs.Prelude.{if◌then◌else◌}
use Rattle.lrs_disk.specs.Faults.{Rises}
use Rattle.lrs_machine.specs.Line.{BeginsWith, Record, entries}
use Rattle.lrs_machine.specs.Acts.{Acts, Receipt, changed, line_behind, made_by, record_of}
use Rattle.lrs_machine.specs.Desk.{Tide}
use Rattle.lrs_machine.specs.LrsHistoryHistory.{Answer, answer}
use Rattle.lrs_names.specs.declared.draw.Draw.{Draw}
use Rattle.lrs_record.specs.declared.entry.Caller.{Caller}
use Rattle.lrs_record.specs.declared.entry.Entry.{Entry}
use Rattle.lrs_command.specs.declared.command.Command.{Command}
use Rattle.lrs_replies.specs.Replies.{Says}
use Rattle.lrs_replies.specs.declared.answered.Answered.{Answered}
use Rattle.lrs_replies.specs.declared.reply.Reply.{Reply}
use Rattle.lrs_replies.specs.declared.reply.Trouble.{Trouble}
use Rattle.lrs_replies.specs.declared.reply.Trouble.TheVariants as trouble
use Rattle.lrs_hall.specs.Acts.{ActsAt, ActsIn, ActsOn, Reach, Seen, SeenAndClock, own_behind, tide_behind}
use Rattle.lrs_hall.proofs.Lines.{begins_length, begins_more, begins_take, entries_take}

-- how far a worker has come in a line that begins with all that it has seen
abbrev pub reach_of : SeenAndClock → Reach
reach_of x = record { records = length x.seen.front; own = x.seen.own; tide = x.seen.tide }

-- the line begins with what was seen
abbrev pub IsBegun : List Record → SeenAndClock → Type 0
IsBegun line x = BeginsWith x.seen.front line

behind_begins : (line : List Record) (a : Answer) (receipt : Receipt) → BeginsWith line (line_behind line a receipt)
behind_begins line a receipt = by_change (changed receipt)
  where
    by_change : (b : Bool) → BeginsWith line (if b then line ++ record_of (made_by a receipt) receipt ∷ [] else line)
    by_change true = (record_of (made_by a receipt) receipt ∷ [], refl)
    by_change false = ([], append-nil line)

behind_length : (line next : List Record) (a : Answer) (receipt : Receipt) → next ≡ line_behind line a receipt → length next ≡ (if changed receipt then length line + 1 else length line)
behind_length line next a receipt is = by_change (changed receipt) is
  where
    by_change : (b : Bool) → next ≡ (if b then line ++ record_of (made_by a receipt) receipt ∷ [] else line) → length next ≡ (if b then length line + 1 else length line)
    by_change true is = ap length is ∙ length-append line (record_of (made_by a receipt) receipt ∷ [])
    by_change false is = ap length is

same_reach : (n m : ℕ) (own other : List ℕ) (tide left : Tide) → n ≡ m → own ≡ other → tide ≡ left
    → (let r : Reach = record { records = n; own = own; tide = tide } in r ≡ record { records = m; own = other; tide = left })
same_reach n m own other tide left is same at =
    ap (λ (k : ℕ). let r : Reach = record { records = k; own = own; tide = tide } in r) is
    ∙ ap (λ (l : List ℕ). let r : Reach = record { records = m; own = l; tide = tide } in r) same
    ∙ ap (λ (x : Tide). let r : Reach = record { records = m; own = other; tide = x } in r) at

-- trouble with the disk has its cause, so without that the reply says the answer or that memory ran out
due_of : (a : Answer) (said : Result Answered Trouble) (receipt : Receipt) (old new : List Record) (reply : Reply) → Acts a said receipt old new → Says said reply
    → (Rises receipt.was receipt.is → ⊥) → Says (Ok a.said) reply ⊎ Says (Err trouble.Memory) reply
due_of a (Ok s) receipt old new reply acts says still = inl (subst (λ (x : Answered). Says (Ok x) reply) acts.tells.0 says)
due_of a (Err trouble.Memory) receipt old new reply acts says still = inr says
due_of a (Err trouble.Disk) receipt old new reply acts says still = absurd (still acts.cause.1)

module _ (limit : ℕ) (caller : Caller) (command : Command) (draw : Draw) (reply : Reply) (receipt : Receipt) where
  -- what was seen after an act begins with the line that the desk had
  front_taken : (line : List Record) (old new : Seen) → ActsAt line limit caller command draw reply receipt old new → BeginsWith line new.front
  front_taken line old new on =
      subst (λ (l : List Record). BeginsWith line l) (sym on.acts.line) (behind_begins line (answer limit (entries line) caller command receipt.clock draw) receipt)

  pub front_later : (old new : SeenAndClock) → ActsOn limit caller command draw reply receipt old new → BeginsWith old.seen.front new.seen.front
  front_later old new on = begins_more old.seen.front on.line new.seen.front on.acts.goes_on (front_taken on.line old.seen new.seen on.acts)

  -- an act of a pass is one over each line that begins with what the pass has seen after it
  at_in : (line whole : List Record) (old new : Seen) → ActsAt line limit caller command draw reply receipt old new → BeginsWith new.front whole
      → ActsIn limit whole caller command draw reply receipt (record { records = length old.front; own = old.own; tide = old.tide })
      (record { records = length new.front; own = new.own; tide = new.tide })
  at_in line whole old new on begun =
      let front : take (length line) whole ≡ line = begins_take line whole (begins_more line new.front whole (front_taken line old new on) begun) in
      let seen : take (length new.front) whole ≡ new.front = begins_take new.front whole begun in
      let over : entries line ≡ take receipt.point (entries whole) =
      ap entries (sym front) ∙ entries_take whole (length line) ∙ ap (λ (n : ℕ). take n (entries whole)) (ap (λ (l : List Record). length (entries l)) front ∙ sym on.acts.point) in
      let a : Answer = answer limit (take receipt.point (entries whole)) caller command receipt.clock draw in
      let acts : Acts a on.said receipt line new.front = subst (λ (h : List Entry). Acts (answer limit h caller command receipt.clock draw) on.said receipt line new.front) over on.acts in
      record {
        at = length line;
        later = begins_length old.front line on.goes_on;
        since = on.since;
        status = on.status;
        said = on.said;
        says = on.says;
        acts = subst (λ (l : List Record). Acts a on.said receipt l (take (length new.front) whole)) (sym front)
            (subst (λ (l : List Record). Acts a on.said receipt line l) (sym seen) acts);
        due = due_of a on.said receipt line new.front reply acts on.says;
        within = begins_length new.front whole begun;
        reach = same_reach (length new.front) (if changed receipt then length line + 1 else length line) new.own (own_behind (length line) receipt old.own) new.tide (tide_behind receipt)
            (behind_length line new.front (answer limit (entries line) caller command receipt.clock draw) receipt on.acts.line) on.own on.tide;
      }

  pub acts_in : (whole : List Record) (old new : SeenAndClock) → ActsOn limit caller command draw reply receipt old new → IsBegun whole new
      → ActsIn limit whole caller command draw reply receipt (reach_of old) (reach_of new)
  acts_in whole old new on begun = at_in on.line whole old.seen new.seen on.acts begun

  pub begun_before : (whole : List Record) (old new : SeenAndClock) → ActsOn limit caller command draw reply receipt old new → IsBegun whole new → IsBegun whole old
  begun_before whole old new on begun = begins_more old.seen.front new.seen.front whole (front_later old new on) begun
