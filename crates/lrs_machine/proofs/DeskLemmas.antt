-- What the desk's methods owe, over plain data.
use base.Stored.{Coded}
use Rattle.std.proofs.Common.{◌≡◌, ◌+◌, ◌-◌, ◌<◌, ◌≤◌, ℕ, List, [], ◌∷◌, ◌++◌, length, refl, sym, ◌∙◌, ap, subst, inl, inr, arith, length-append, Option, Some, None, Bool, true, false, not, ◌&&◌, nat_lt, Result, Ok, Err, IfOk}
use Rattle.std.specs.Prelude.{◌||◌, ◌==◌, is_some, is_ok, IsSome, if◌then◌else◌}
use Rattle.std.proofs.lemmas.Grind.{common_steps}
use Rattle.lrs_command.specs.declared.command.Command.{Command}
use Rattle.lrs_fold.specs.Own.{IsOfPut, IsPut, SaysOfPut}
use Rattle.lrs_fold.proofs.Again.{acceptance_no_refusal}
use Rattle.lrs_fold.proofs.Puts.{put_says}
use Rattle.lrs_fold.specs.LrsHistoryHistory.{Outcome, Said, Accepted, Answer, answer, answer_of, need, end_offset, state, outcome}
use Rattle.lrs_fold.specs.LrsHistoryRoomProofs.{no_room, kept_answer}
use Rattle.lrs_machine.specs.Acts.{Acts, HasDiskCause, LineGoesOn, Receipt, TellsEntry, changed, landed_among, line_behind, made_by, index_where, record_of}
use Rattle.lrs_machine.specs.Desk.{Desk, history, landed_index, marks_of, receipt_of}
use Rattle.lrs_machine.specs.Line.{Record, entries, in_doubt}
use Rattle.lrs_machine.specs.Numbers.{numbers_of}
use Rattle.lrs_machine.specs.Steps.{Happens, CarriesOut, line_after, one_of}
use Rattle.lrs_machine.proofs.Lines.{Goes, entries_goes, goes, none_some}
use Rattle.lrs_machine.proofs.Tied.{entry_of_says}
use Rattle.lrs_names.specs.declared.draw.Draw.{Draw}
use Rattle.lrs_parts.specs.State.{State}
use Rattle.lrs_record.specs.declared.entry.Caller.{Caller}
use Rattle.lrs_record.specs.declared.entry.Entry.{Entry}
use Rattle.lrs_replies.specs.Replies.{IsRefusal, IsReplyTo, Says, status_in}
use Rattle.lrs_replies.specs.declared.answered.Answered.{Answered}
use Rattle.lrs_replies.specs.declared.answered.Answered.TheVariants as said
use Rattle.lrs_replies.specs.declared.answered.Refusal.TheVariants as refusal
use Rattle.lrs_replies.specs.declared.reply.Reply.{Reply}
use Rattle.lrs_replies.specs.declared.reply.Trouble.{Trouble}
use Rattle.lrs_replies.specs.declared.reply.Trouble.TheVariants as trouble
use Rattle.lrs_turn.specs.Passes.{IsOneMore}

abbrev said_in : Answer → Answered
said_in a = a.said

abbrev entry_in : Answer → Option Entry
entry_in a = a.entry

-- ---- what a put is answered

put_said : (limit offset : ℕ) (v : Outcome) → SaysOfPut v → IsOfPut (answer_of limit offset v).said
put_said limit offset (Said s) says = says
put_said limit offset (Accepted e t) says = by_room (nat_lt limit (need offset e))
  where
    by_room : (b : Bool) → IsOfPut (said_in (if b then no_room limit offset e else kept_answer t e))
    by_room true = tt
    by_room false = says

-- the operator's put shows no text, and is never answered as of somebody who isn't let in, or as of no command
pub act_put : (limit offset : ℕ) (st : State) (caller : Caller) (c : Command) (clock : ℕ) (draw : Draw) (d₀ d₁ : Bool) (made : Option Entry) (r : Result Answered Trouble)
    → CarriesOut (answer_of limit offset (outcome st caller c clock draw)) d₀ d₁ made r → IsPut caller c → IfOk r IsOfPut
act_put limit offset st caller c clock draw d₀ d₁ made (Ok s) says put = subst IsOfPut (sym says.0) (put_said limit offset (outcome st caller c clock draw) (put_says st caller c clock draw put))
act_put limit offset st caller c clock draw d₀ d₁ made (Err t) says put = tt

-- ---- receipts

is_some_index : (b : Bool) (n : ℕ) → is_some (index_where b n) ≡ b
is_some_index true n = refl
is_some_index false n = refl

added_by : (h g : List Entry) (made : Option Entry) → g ≡ h ++ one_of made → nat_lt (length h) (length g) ≡ is_some made
added_by h g made is = by_made made (ap length is ∙ length-append h (one_of made))
  where
    by_made : (m : Option Entry) → length g ≡ length h + length (one_of m) → nat_lt (length h) (length g) ≡ is_some m
    by_made None n = (let same : length g ≡ length h = omega (arith, n) in grind (arith, common_steps))
    by_made (Some e) n = (let more : length h < length g = omega (arith, n) in grind (arith, common_steps))

-- the entry's index is seen by the numbers of entries
pub added_is : (a : Answer) (said : Result Answered Trouble) (landed : Option ℕ) (moment : ℕ) (old new : List Record) → (h : Happens a said landed moment old new) → nat_lt (length (entries old)) (length (entries new)) ≡ is_some h.made
added_is a said landed moment old new h =
    added_by (entries old) (entries new) h.made (entries_goes old new h.made moment (subst (λ (l : List Record). Goes old h.made moment l) (sym h.line) (goes old h.made (is_ok said) landed moment)))

pub landed_is : {D : Type 0} (a : Answer) (said : Result Answered Trouble) (landed : Option ℕ) (moment : ℕ) (old new : Desk D) → Happens a said landed moment old.line new.line → landed ≡ landed_index old new
landed_is a said landed moment old new h =
    h.lands ∙ ap (λ (b : Bool). landed_among (length (history old)) (in_doubt old.line) (in_doubt new.line) b)
    (sym (is_some_index (nat_lt (length (history old)) (length (history new))) (length (history old)) ∙ added_is a said landed moment old.line new.line h))

pub receipt_made : {D : Type 0} (time faults : D → ℕ) (old new : Desk D) (receipt : Receipt) (status point clock was : ℕ) (landed : Option ℕ)
    → receipt ≡ record { acted = true; status = status; point = point; entry = index_where (nat_lt point (length (history new))) point; landed = landed; clock = clock; disk = time new.disk; was = was; is = faults new.disk }
    → point ≡ length (history old) → was ≡ faults old.disk → landed ≡ landed_index old new → receipt ≡ receipt_of time faults old new status clock
receipt_made time faults old new receipt status point clock was landed is at count lands =
    is ∙ ap (λ (p : ℕ). made p landed was) at ∙ ap (λ (l : Option ℕ). made (length (history old)) l was) lands ∙ ap (λ (w : ℕ). made (length (history old)) (landed_index old new) w) count
  where
    made : ℕ → Option ℕ → ℕ → Receipt
    made p l w = record { acted = true; status = status; point = p; entry = index_where (nat_lt p (length (history new))) p; landed = l; clock = clock; disk = time new.disk; was = w; is = faults new.disk }

-- ---- acts

tells : (a : Answer) (point : ℕ) (d₀ d₁ : Bool) (made : Option Entry) (said : Result Answered Trouble) (own : Option ℕ) → own ≡ index_where (is_some made) point → CarriesOut a d₀ d₁ made said → TellsEntry a point d₀ d₁ own said
tells a point d₀ d₁ made (Ok s) own is says = (says.0, is ∙ ap (λ (o : Option Entry). index_where (is_some o) point) says.1, says.2)
tells a point d₀ d₁ made (Err trouble.Memory) own is says = (is ∙ ap (λ (o : Option Entry). index_where (is_some o) point) says.0, says.1)
tells a point d₀ d₁ made (Err trouble.Disk) own is (inl none) = inl (is ∙ ap (λ (o : Option Entry). index_where (is_some o) point) none.0, none.1)
tells a point d₀ d₁ made (Err trouble.Disk) own is (inr doubtful) =
    inr (doubtful.0, is ∙ ap (λ (o : Option Entry). index_where (is_some o) point) doubtful.1 ∙ some_index a.entry doubtful.0, doubtful.2)
  where
    some_index : (o : Option Entry) → IsSome o → index_where (is_some o) point ≡ Some point
    some_index None some = absurd (cc some)
    some_index (Some e) some = refl

-- a status is 503 only in trouble
ok_status : (said : Result Answered Trouble) → not (status_in said == 503) ≡ is_ok said
ok_status (Ok said.Kept) = refl
ok_status (Ok said.Same) = refl
ok_status (Ok (said.Shown text through)) = refl
ok_status (Ok (said.Document media bytes)) = refl
ok_status (Ok (said.Refused (refusal.Conflict id))) = refl
ok_status (Ok (said.Refused (refusal.Full n l))) = refl
ok_status (Ok (said.Refused (refusal.Broken rule))) = refl
ok_status (Ok (said.Refused refusal.TooLong)) = refl
ok_status (Ok (said.Refused refusal.Unauthorized)) = refl
ok_status (Ok (said.Refused (refusal.Forbidden rule))) = refl
ok_status (Ok (said.Refused refusal.NotFound)) = refl
ok_status (Err t) = refl

made_is : (a : Answer) (d₀ d₁ : Bool) (made : Option Entry) (said : Result Answered Trouble) → CarriesOut a d₀ d₁ made said → (if is_some made then a.entry else None) ≡ made
made_is a d₀ d₁ None said says = refl
made_is a d₀ d₁ (Some e) said says = entry_of_says a d₀ d₁ e said says

pub acts_of : (a : Answer) (said : Result Answered Trouble) (landed : Option ℕ) (old new : List Record) (receipt : Receipt) → Happens a said landed receipt.disk old new → receipt.acted ≡ true → receipt.status ≡ status_in said
    → receipt.point ≡ length (entries old) → receipt.entry ≡ index_where (nat_lt receipt.point (length (entries new))) receipt.point → receipt.landed ≡ landed → HasDiskCause receipt.was receipt.is said → Acts a said receipt old new
acts_of a said landed old new receipt h acted status point entry lands cause = record {
  acted = acted;
  point = point;
  cause = cause;
  tells = tells a receipt.point (in_doubt old) (in_doubt new) h.made said receipt.entry own h.says;
  landed = lands ∙ h.lands ∙ ap (λ (n : ℕ). landed_among n (in_doubt old) (in_doubt new) (is_some h.made)) (sym point) ∙ ap (λ (b : Bool). landed_among receipt.point (in_doubt old) (in_doubt new) b) (sym some);
  line = h.line ∙ sym same;
  moments = h.moments;
}
  where
    own : receipt.entry ≡ index_where (is_some h.made) receipt.point
    own = entry ∙ ap (λ (b : Bool). index_where b receipt.point) (ap (λ (n : ℕ). nat_lt n (length (entries new))) point ∙ added_is a said landed receipt.disk old new h)

    some : is_some receipt.entry ≡ is_some h.made
    some = ap is_some own ∙ is_some_index (is_some h.made) receipt.point

    acknowledged : not (receipt.status == 503) ≡ is_ok said
    acknowledged = ap (λ (n : ℕ). not (n == 503)) status ∙ ok_status said

    made : made_by a receipt ≡ h.made
    made = ap (λ (b : Bool). if b then a.entry else None) some ∙ made_is a (in_doubt old) (in_doubt new) h.made said h.says

    built : Bool → Bool → Option Entry → Option ℕ → List Record
    built b ok m l = if b || is_some l then old ++ record { made = m; acknowledged = b && ok; landed = is_some l; moment = receipt.disk } ∷ [] else old

    same : line_behind old a receipt ≡ line_after old h.made (is_ok said) landed receipt.disk
    same =
        ap (λ (b : Bool). built b (not (receipt.status == 503)) (made_by a receipt) receipt.landed) some ∙ ap (λ (ok : Bool). built (is_some h.made) ok (made_by a receipt) receipt.landed) acknowledged
        ∙ ap (λ (m : Option Entry). built (is_some h.made) (is_ok said) m receipt.landed) made ∙ ap (λ (l : Option ℕ). built (is_some h.made) (is_ok said) h.made l) lands

-- ---- what the turn asks of an act

true_false : true ≡ false → ⊥
true_false e = cc

pub goes_on : (a : Answer) (said : Result Answered Trouble) (receipt : Receipt) (old new : List Record) → Acts a said receipt old new → LineGoesOn receipt old new
goes_on a said receipt old new acts = by_change (changed receipt) acts.line
  where
    more : Record
    more = record_of (made_by a receipt) receipt

    by_change : (b : Bool) → new ≡ (if b then old ++ more ∷ [] else old) → (b ≡ true → IsOneMore new old) × (b ≡ false → new ≡ old)
    by_change true is = ((λ _. (more, is)), (λ wrong. absurd (true_false wrong)))
    by_change false is = ((λ wrong. absurd (true_false (sym wrong))), (λ _. is))

pub marks_stay : {D : Type 0} (code : Coded D) (old new : Desk D) → (new.limit ≡ old.limit) × (new.opened ≡ old.opened) × (new.opened_at ≡ old.opened_at) → new.origin ≡ old.origin → marks_of code new ≡ marks_of code old
marks_stay code old new same origin =
    ap (λ (n : ℕ). n ∷ new.opened_at ∷ new.opened ∷ numbers_of code new.origin) same.0 ∙ ap (λ (n : ℕ). old.limit ∷ n ∷ new.opened ∷ numbers_of code new.origin) same.2
    ∙ ap (λ (n : ℕ). old.limit ∷ old.opened_at ∷ n ∷ numbers_of code new.origin) same.1 ∙ ap (λ d. old.limit ∷ old.opened_at ∷ old.opened ∷ numbers_of code d) origin

-- the count of faults doesn't fall
pub cause_rises : (before now : ℕ) (said : Result Answered Trouble) → HasDiskCause before now said → before ≤ now
cause_rises before now (Ok s) cause = (let e : now ≡ before = cause in omega (arith, e))
cause_rises before now (Err trouble.Memory) cause = (let e : now ≡ before = cause in omega (arith, e))
cause_rises before now (Err trouble.Disk) cause = cause.0

-- ---- replies

unkept_entry : (v : Outcome) (limit offset : ℕ) (s : Answered) → ((e : Entry) (t : Answered) → v ≡ Accepted e t → IsRefusal (Ok t) → ⊥) → s ≡ (answer_of limit offset v).said → IsRefusal (Ok s) → (answer_of limit offset v).entry ≡ None
unkept_entry (Said u) limit offset s keeps is refuses = refl
unkept_entry (Accepted e t) limit offset s keeps is refuses = by_test (nat_lt limit (need offset e)) is
  where
    by_test : (b : Bool) → s ≡ said_in (if b then no_room limit offset e else kept_answer t e) → entry_in (if b then no_room limit offset e else kept_answer t e) ≡ None
    by_test true q = refl
    by_test false q = absurd (keeps e t refl (subst (λ u. IsRefusal (Ok u)) q refuses))

-- where there was no memory for the body of a refusal
wanting : (a : Answer) (s : Answered) (landed : Option ℕ) (moment : ℕ) (old new : List Record) → a.entry ≡ None → Happens a (Ok s) landed moment old new → Happens a (Err trouble.Memory) landed moment old new
wanting a s landed moment old new none h = record {
  made = h.made;
  says = (h.says.1 ∙ none, h.says.2);
  lands = h.lands;
  line = h.line ∙ unmade h.made (h.says.1 ∙ none);
  moments = h.moments;
}
  where
    unmade : (m : Option Entry) → m ≡ None → line_after old m true landed moment ≡ line_after old m false landed moment
    unmade None is = refl
    unmade (Some e) is = absurd (none_some e (sym is))

status_says : (said : Result Answered Trouble) (reply : Reply) → Says said reply → reply.status ≡ status_in said
status_says (Ok s) reply says = says.0
status_says (Err trouble.Memory) reply says = says.0
status_says (Err trouble.Disk) reply says = says.0

pub act_acts : (limit : ℕ) (caller : Caller) (c : Command) (clock : ℕ) (draw : Draw) (said : Result Answered Trouble) (reply : Reply) (landed : Option ℕ) (old new : List Record) (receipt : Receipt)
    → Happens (answer limit (entries old) caller c clock draw) said landed receipt.disk old new → IsReplyTo said reply → receipt.acted ≡ true → receipt.status ≡ reply.status → receipt.point ≡ length (entries old)
    → receipt.entry ≡ index_where (nat_lt receipt.point (length (entries new))) receipt.point → receipt.landed ≡ landed → HasDiskCause receipt.was receipt.is said
    → (told : Result Answered Trouble) × Says told reply × Acts (answer limit (entries old) caller c clock draw) told receipt old new
act_acts limit caller c clock draw said reply landed old new receipt h (inl says) acted status point entry lands cause =
    (said, says, acts_of (answer limit (entries old) caller c clock draw) said landed old new receipt h acted (status ∙ status_says said reply says) point entry lands cause)
act_acts limit caller c clock draw (Ok s) reply landed old new receipt h (inr k) acted status point entry lands cause = (
  Err trouble.Memory,
  k.1,
  acts_of (answer limit (entries old) caller c clock draw) (Err trouble.Memory) landed old new receipt (wanting (answer limit (entries old) caller c clock draw) s landed receipt.disk old new none h) acted (status ∙ k.1.0) point entry lands cause,
)
  where
    none : (answer limit (entries old) caller c clock draw).entry ≡ None
    none = unkept_entry (outcome (state (entries old)) caller c clock draw) limit (end_offset limit (entries old)) s (λ e t at. acceptance_no_refusal (state (entries old)) caller c clock draw e t at) h.says.0 k.0
act_acts limit caller c clock draw (Err t) reply landed old new receipt h (inr k) acted status point entry lands cause = absurd k.0

-- ---- the desk's receipts

module _ {D : Type 0} (time faults : D → ℕ) (old new : Desk D) (caller : Caller) (c : Command) (clock : ℕ) (draw : Draw) (said : Result Answered Trouble) (landed : Option ℕ) where
  abbrev a : Answer
  a = answer old.limit (history old) caller c clock draw

  pub put_told : (receipt : Receipt) → receipt ≡ receipt_of time faults old new (status_in said) clock → Happens a said landed (time new.disk) old.line new.line → HasDiskCause (faults old.disk) (faults new.disk) said
      → Acts a said receipt old.line new.line
  put_told receipt is h cause = subst (λ (r : Receipt). Acts a said r old.line new.line) (sym is)
      (acts_of a said landed old.line new.line (receipt_of time faults old new (status_in said) clock) h refl refl refl refl (sym (landed_is a said landed (time new.disk) old new h)) cause)

  pub act_told : (reply : Reply) (receipt : Receipt) → receipt ≡ receipt_of time faults old new reply.status clock → Happens a said landed (time new.disk) old.line new.line → HasDiskCause (faults old.disk) (faults new.disk) said
      → IsReplyTo said reply → (told : Result Answered Trouble) × Says told reply × Acts a told receipt old.line new.line
  act_told reply receipt is h cause replied = subst (λ (r : Receipt). (told : Result Answered Trouble) × Says told reply × Acts a told r old.line new.line) (sym is)
      (act_acts old.limit caller c clock draw said reply landed old.line new.line (receipt_of time faults old new reply.status clock) h replied refl refl refl refl (sym (landed_is a said landed (time new.disk) old new h)) cause)

  pub act_goes_on : (reply : Reply) (receipt : Receipt) → receipt ≡ receipt_of time faults old new reply.status clock → Happens a said landed (time new.disk) old.line new.line → HasDiskCause (faults old.disk) (faults new.disk) said
      → IsReplyTo said reply → LineGoesOn receipt old.line new.line
  act_goes_on reply receipt is h cause replied = let told = act_told reply receipt is h cause replied in goes_on a told.0 receipt old.line new.line told.2
