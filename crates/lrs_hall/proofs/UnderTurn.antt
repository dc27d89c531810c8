-- What an act under the turn is to its worker.
use base.Stored.{Coded}
use Rattle.std.proofs.Common.{arith, ◌≡◌, ◌≤◌, ℕ, List, [], ◌∷◌, ◌++◌, length, Bool, true, false, Option, Result, refl, subst, sym, ap, ◌∙◌}
use Rattle.std.specs.Prelude.{if◌then◌else◌}
use Rattle.lrs_disk.specs.Readings.{AddsReading}
use Rattle.lrs_machine.specs.Line.{BeginsWith, Record, entries}
use Rattle.lrs_machine.specs.Acts.{Acts, LineGoesOn, Receipt, changed}
use Rattle.lrs_machine.specs.Desk.{Desk, Tide, history, marks_of, receipt_of, tide_of}
use Rattle.lrs_machine.specs.LrsHistoryHistory.{answer}
use Rattle.lrs_names.specs.declared.draw.Draw.{Draw}
use Rattle.lrs_record.specs.declared.entry.Caller.{Caller}
use Rattle.lrs_command.specs.declared.command.Command.{Command}
use Rattle.lrs_replies.specs.Replies.{Says}
use Rattle.lrs_replies.specs.declared.answered.Answered.{Answered}
use Rattle.lrs_replies.specs.declared.reply.Reply.{Reply}
use Rattle.lrs_replies.specs.declared.reply.Trouble.{Trouble}
use Rattle.lrs_turn.specs.Lists.{NoneFalls}
use Rattle.lrs_turn.specs.Passes.{HasTurn, IsIdle, Pass, Turns, committed, given, pointed, rested, taken}
use Rattle.lrs_turn.proofs.Steps.{none_falls_same, none_falls_then}
use Rattle.lrs_hall.specs.Acts.{ActsAt, ActsOn, IsSince, limit_in, own_behind, seen_of, tide_in}
use Rattle.lrs_hall.specs.Serving.{KeepsPass}
use Rattle.lrs_hall.specs.Steps.{IsInTurn, pass_behind, seen_with}

-- what the desk says of the act: what was said over which answer
abbrev pub SaysActs : {D : Type 0} → Desk D → Desk D → Caller → Command → ℕ → Draw → Reply → Receipt → Type 0
SaysActs old new caller command clock draw reply receipt =
    (said : Result Answered Trouble) × Says said reply × Acts (answer old.limit (history old) caller command clock draw) said receipt old.line new.line

-- ---- what is known of the disk

pub tide_below : (xs : List ℕ) (faults moment : ℕ) → NoneFalls xs (faults ∷ moment ∷ []) → ((tide_in xs).faults ≤ faults) × ((tide_in xs).moment ≤ moment)
tide_below [] faults moment low = absurd low
tide_below (a ∷ []) faults moment low = absurd low.1
tide_below (a ∷ b ∷ []) faults moment low = (low.0, low.1.0)
tide_below (a ∷ b ∷ c ∷ xs) faults moment low = absurd low.1.1

same_tide : (a b c d : ℕ) → a ≡ b → c ≡ d → (let m : Tide = record { faults = a; moment = c } in m ≡ record { faults = b; moment = d })
same_tide a b c d e f =
    ap (λ (n : ℕ). let m : Tide = record { faults = n; moment = c } in m) e
    ∙ ap (λ (n : ℕ). let m : Tide = record { faults = b; moment = n } in m) f

-- ---- the pass after an act

module _ (line : List Record) (receipt : Receipt) (pass : Pass Record) where
  marks_behind : (pass_behind line receipt pass).marks ≡ pass.marks
  marks_behind = by_change (changed receipt)
    where
      by_change : (b : Bool) → (let p : Pass Record = (if b then committed line pass else pointed pass) in p.marks ≡ pass.marks)
      by_change true = refl
      by_change false = refl

  opening_behind : (pass_behind line receipt pass).opening ≡ pass.opening
  opening_behind = by_change (changed receipt)
    where
      by_change : (b : Bool) → (let p : Pass Record = (if b then committed line pass else pointed pass) in p.opening ≡ pass.opening)
      by_change true = refl
      by_change false = refl

  level_behind : (pass_behind line receipt pass).level ≡ pass.level
  level_behind = by_change (changed receipt)
    where
      by_change : (b : Bool) → (let p : Pass Record = (if b then committed line pass else pointed pass) in p.level ≡ pass.level)
      by_change true = refl
      by_change false = refl

  own_is : (pass_behind line receipt pass).own ≡ own_behind (length pass.line) receipt pass.own
  own_is = by_change (changed receipt)
    where
      by_change : (b : Bool) → (let p : Pass Record = (if b then committed line pass else pointed pass) in p.own ≡ (if b then pass.own ++ length pass.line ∷ [] else pass.own))
      by_change true = refl
      by_change false = refl

  -- it has seen the desk's line
  front_is : LineGoesOn receipt pass.line line → (pass_behind line receipt pass).front ≡ line
  front_is goes = by_change (changed receipt) goes.1
    where
      by_change : (b : Bool) → (b ≡ false → line ≡ pass.line) → (let p : Pass Record = (if b then committed line pass else pointed pass) in p.front ≡ line)
      by_change true same = refl
      by_change false same = sym (same refl)

  -- which is committed
  line_is : LineGoesOn receipt pass.line line → (pass_behind line receipt pass).line ≡ line
  line_is goes = by_change (changed receipt) goes.1
    where
      by_change : (b : Bool) → (b ≡ false → line ≡ pass.line) → (let p : Pass Record = (if b then committed line pass else pointed pass) in p.line ≡ line)
      by_change true same = refl
      by_change false same = sym (same refl)

-- ---- the desk was taken

pub is_taken : {D : Type 0} (code : Coded D) (faults time : D → ℕ) (turns : Turns) (desk : Desk D) (old new : Pass Record) → HasTurn turns new → new ≡ taken desk.line (tide_of faults time desk) old
    → BeginsWith old.front desk.line → marks_of code desk ≡ old.marks → NoneFalls old.tide (tide_of faults time desk) → IsInTurn code faults time turns desk new
is_taken code faults time turns desk old new turn is goes_on marks tide = record {
  turn = turn;
  line = sym (ap (λ (p : Pass Record). p.line) is);
  marks = marks ∙ sym (ap (λ (p : Pass Record). p.marks) is);
  level = subst (λ (l : List ℕ). NoneFalls l (tide_of faults time desk)) (sym (ap (λ (p : Pass Record). p.level) is)) (none_falls_same (tide_of faults time desk));
  goes_on = subst (λ (l : List Record). BeginsWith l desk.line) (sym (ap (λ (p : Pass Record). p.front) is)) goes_on;
  tide = subst (λ (l : List ℕ). NoneFalls l (tide_of faults time desk)) (sym (ap (λ (p : Pass Record). p.tide) is)) tide;
}

-- what was taken was put back as it was
pub looked : (turns : Turns) (line : List Record) (tide : List ℕ) (old mid new : Pass Record) → mid ≡ taken line tide old → IsIdle turns new → new ≡ rested mid → KeepsPass turns old new × (seen_of new ≡ seen_of old)
looked turns line tide old mid new is idle back =
    let all : new ≡ rested (taken line tide old) = back ∙ ap rested is in (
      record {
        idle = idle;
        marks = ap (λ (p : Pass Record). p.marks) all;
        opening = ap (λ (p : Pass Record). p.opening) all;
        tide = subst (λ (l : List ℕ). NoneFalls old.tide l) (sym (ap (λ (p : Pass Record). p.tide) all)) (none_falls_same old.tide);
      },
      ap seen_of all,
    )

-- and may be put back
pub may_put_back : (line : List Record) (tide : List ℕ) (old mid : Pass Record) → mid ≡ taken line tide old → tide ≡ mid.level
may_put_back line tide old mid is = sym (ap (λ (p : Pass Record). p.level) is)

-- ---- an act on the desk that was taken

module _ {D : Type 0} (code : Coded D) (time faults : D → ℕ) (turns : Turns) (old next : Desk D) (pass after : Pass Record) (taken_as : IsInTurn code faults time turns old pass)
    (caller : Caller) (command : Command) (clock : ℕ) (draw : Draw) (reply : Reply) (receipt : Receipt)
    (acts : SaysActs old next caller command clock draw reply receipt) (receipt_is : receipt ≡ receipt_of time faults old next reply.status clock)
    (goes : LineGoesOn receipt old.line next.line) (later : time old.disk ≤ time next.disk) (is : after ≡ given (tide_of faults time next) (pass_behind next.line receipt pass)) where
  goes_here : LineGoesOn receipt pass.line next.line
  goes_here = subst (λ (l : List Record). LineGoesOn receipt l next.line) taken_as.line goes

  since : IsSince (tide_in pass.tide) receipt
  since =
      let was : receipt.was ≡ faults old.disk = ap (λ (r : Receipt). r.was) receipt_is in
      let ended : receipt.disk ≡ time next.disk = ap (λ (r : Receipt). r.disk) receipt_is in
      let low = tide_below pass.tide (faults old.disk) (time old.disk) taken_as.tide in
      let count = low.0 in
      let moment = low.1 in
      record { was = omega (arith, count, was); ended = omega (arith, moment, later, ended) }

  pub acts_at : ActsAt old.line (limit_in pass.marks) caller command draw reply receipt (seen_of pass) (seen_of after)
  acts_at =
      let e : receipt.clock ≡ clock = ap (λ (r : Receipt). r.clock) receipt_is in
      let front : after.front ≡ next.line = ap (λ (p : Pass Record). p.front) is ∙ front_is next.line receipt pass goes_here in
      let limit : old.limit ≡ limit_in pass.marks = ap limit_in taken_as.marks in
      record {
        goes_on = taken_as.goes_on;
        since = since;
        status = ap (λ (r : Receipt). r.status) receipt_is;
        said = acts.0;
        says = acts.1;
        acts = subst (λ (l : List Record). Acts (answer (limit_in pass.marks) (entries old.line) caller command receipt.clock draw) acts.0 receipt old.line l) (sym front)
            (subst (λ (n : ℕ). Acts (answer n (entries old.line) caller command receipt.clock draw) acts.0 receipt old.line next.line) limit
            (subst (λ (k : ℕ). Acts (answer old.limit (history old) caller command k draw) acts.0 receipt old.line next.line) (sym e) acts.2));
        own = ap (λ (p : Pass Record). p.own) is ∙ own_is next.line receipt pass ∙ ap (λ (l : List Record). own_behind (length l) receipt pass.own) (sym taken_as.line);
        tide = ap (λ (p : Pass Record). tide_in p.tide) is
            ∙ same_tide (faults next.disk) receipt.is (time next.disk) receipt.disk (sym (ap (λ (r : Receipt). r.is) receipt_is)) (sym (ap (λ (r : Receipt). r.disk) receipt_is));
      }

  pub kept_after : IsIdle turns after → faults old.disk ≤ faults next.disk → KeepsPass turns pass after
  kept_after idle rise = record {
    idle = idle;
    marks = ap (λ (p : Pass Record). p.marks) is ∙ marks_behind next.line receipt pass;
    opening = ap (λ (p : Pass Record). p.opening) is ∙ opening_behind next.line receipt pass;
    tide = subst (λ (l : List ℕ). NoneFalls pass.tide l) (sym (ap (λ (p : Pass Record). p.tide) is))
        (none_falls_then pass.tide (tide_of faults time old) (tide_of faults time next) taken_as.tide (rise, (later, tt)));
  }

-- what giving the desk back asks for
pub may_give : {D : Type 0} (code : Coded D) (faults time : D → ℕ) (turns : Turns) (old next : Desk D) (pass mid : Pass Record) (receipt : Receipt) → IsInTurn code faults time turns old pass
    → LineGoesOn receipt old.line next.line → marks_of code next ≡ marks_of code old → faults old.disk ≤ faults next.disk → time old.disk ≤ time next.disk → mid ≡ pass_behind next.line receipt pass
    → (next.line ≡ mid.line) × (marks_of code next ≡ mid.marks) × NoneFalls mid.level (tide_of faults time next)
may_give code faults time turns old next pass mid receipt taken_as goes marks rise later is =
    let here : LineGoesOn receipt pass.line next.line = subst (λ (l : List Record). LineGoesOn receipt l next.line) taken_as.line goes in
    let level : mid.level ≡ pass.level = ap (λ (p : Pass Record). p.level) is ∙ level_behind next.line receipt pass in (
      sym (ap (λ (p : Pass Record). p.line) is ∙ line_is next.line receipt pass here),
      marks ∙ taken_as.marks ∙ sym (ap (λ (p : Pass Record). p.marks) is ∙ marks_behind next.line receipt pass),
      subst (λ (l : List ℕ). NoneFalls l (tide_of faults time next)) (sym level)
          (none_falls_then pass.level (tide_of faults time old) (tide_of faults time next) taken_as.level (rise, (later, tt))),
    )

-- ---- from the pass before the turn

module _ (line : List Record) (level : List ℕ) (old mid : Pass Record) (is : mid ≡ taken line level old) where
  pub kept_taken : (turns : Turns) (new : Pass Record) → KeepsPass turns mid new → KeepsPass turns old new
  kept_taken turns new kept = record {
    idle = kept.idle;
    marks = kept.marks ∙ ap (λ (p : Pass Record). p.marks) is;
    opening = kept.opening ∙ ap (λ (p : Pass Record). p.opening) is;
    tide = subst (λ (l : List ℕ). NoneFalls l new.tide) (ap (λ (p : Pass Record). p.tide) is) kept.tide;
  }

  -- with the reading of the clock that the act was given
  pub acts_on : (at : List Record) (caller : Caller) (command : Command) (drawn draw : Draw) (reply : Reply) (receipt : Receipt) (new : Pass Record) (before now : Option (List ℕ)) (clock : ℕ)
      → drawn ≡ draw → ActsAt at (limit_in mid.marks) caller command drawn reply receipt (seen_of mid) (seen_of new) → receipt.clock ≡ clock → AddsReading before now clock
      → ActsOn (limit_in old.marks) caller command draw reply receipt (seen_with old before) (seen_with new now)
  acts_on at caller command drawn draw reply receipt new before now clock same acts clock_is read = record {
    line = at;
    acts = subst (λ (d : Draw). ActsAt at (limit_in old.marks) caller command d reply receipt (seen_of old) (seen_of new)) same
        (subst (λ (p : Pass Record). ActsAt at (limit_in p.marks) caller command drawn reply receipt (seen_of p) (seen_of new)) is acts);
    read = subst (λ (k : ℕ). AddsReading before now k) (sym clock_is) read;
  }
