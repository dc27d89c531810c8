-- How intake ends on an open desk.
use Rattle.std.proofs.Common.{◌≡◌, ◌⊎◌, ◌≤◌, ◌-◌, ◌&&◌, ◌||◌, ℕ, true, false, Bool, List, [], ◌∷◌, ◌++◌, length, map, Option, Some, None, IsSome, Ok, Err, append-nil, arith, refl, sym, ap, ◌∙◌, subst, inl, inr, ⊎_elim}
use Rattle.std.specs.Prelude.{not, is_some, if◌then◌else◌}
use Rattle.std.specs.Option.{ForSome}
use Rattle.lrs_disk.specs.Disk.{LeavesOnly}
use Rattle.lrs_disk.specs.declared.disk.Disk as disks
use Rattle.lrs_names.specs.declared.draw.Draw.{Draw}
use Rattle.lrs_journal.specs.Store.{Stands}
use Rattle.lrs_json.specs.declared.tree.Tree.{Tree}
use Rattle.lrs_record.specs.Entries.{written_entry}
use Rattle.lrs_record.specs.declared.entry.Entry.{Entry}
use Rattle.lrs_hall.specs.LrsHistoryHistory.{Answer, IsLegal, with_entry}
use Rattle.lrs_hall.specs.LrsMachineActs.{Acts, HasDiskCause, Receipt, line_behind, made_by, index_where, record_of}
use Rattle.lrs_hall.specs.LrsMachineDesk.{Desk, HoldsPrefix, LeavesStore, history}
use Rattle.lrs_hall.specs.LrsMachineLine.{BeginsWith, Record, entries, in_doubt, sure}
use Rattle.lrs_replies.specs.declared.answered.Answered.{Answered}
use Rattle.lrs_replies.specs.declared.answered.Answered.TheVariants as said
use Rattle.lrs_replies.specs.declared.answered.Refusal.{Refusal}
use Rattle.lrs_replies.specs.declared.answered.Refusal.TheVariants as refusal
use Rattle.lrs_replies.specs.declared.reply.Trouble.{Trouble}
use Rattle.lrs_replies.specs.declared.reply.Trouble.TheVariants as trouble
use Rattle.lrs_hall.specs.LrsMachineLinesProofs.{entries_append, entries_one, none_some}
use Rattle.lrs_hall.specs.LrsMachineSteps.{one_of}
use Rattle.lrs_hall.proofs.Lines.{entries_begin}
use Rattle.lrs_console.specs.Reading.{ForInput}
use Rattle.lrs_console.specs.Asking.{with_id, HasInputCause, IsNotTaken, IsTakenFor, EndsSaying, EndsRefused, put_answer}
use Rattle.lrs_app.specs.ClosingSteps.{ClosesTaken, StopsFrom}
use Rattle.lrs_app.specs.Disks.{Holds, HoldsIn, LeavesFinal, taken_now}
use Rattle.lrs_app.specs.Run.{EndsOpened}
use Rattle.lrs_app.specs.Steps.{DoubtsOnly, Continues, IsOpened, Submits, HasPutCause, ending_of_trouble}
use Rattle.lrs_app.proofs.Openings.{stops_from, told_on}
use Rattle.lrs_console.specs.declared.ending.Ending.{Ending}
use Rattle.lrs_console.specs.declared.ending.Ending.TheVariants as ending

-- ---- the line after an act

by_none : (own landed : Option ℕ) (x old : List Record) → own ≡ None → landed ≡ None → (if is_some own || is_some landed then x else old) ≡ old
by_none None None x old own landed = refl
by_none None (Some p) x old own landed = absurd (none_some p (sym landed))
by_none (Some p) landed x old own none = absurd (none_some p (sym own))

by_change : (r : Record) (old new : List Record) (b : Bool) → new ≡ (if b then old ++ r ∷ [] else old) → BeginsWith old new
by_change r old new true is = (r ∷ [], sym is)
by_change r old new false is = ([], append-nil old ∙ sym is)

-- the line goes on
pub acts_begin : (a : Answer) (receipt : Receipt) (old new : List Record) → new ≡ line_behind old a receipt → BeginsWith old new
acts_begin a receipt old new line = by_change (record_of (made_by a receipt) receipt) old new (is_some receipt.entry || is_some receipt.landed) line

module _ (a : Answer) (receipt : Receipt) (old new : List Record) (settled : in_doubt old ≡ false) (line : new ≡ line_behind old a receipt)
    (landed : receipt.landed ≡ index_where (in_doubt old && not (in_doubt new && not (is_some receipt.entry))) (receipt.point - 1)) where
  none_landed : receipt.landed ≡ None
  none_landed = landed ∙ ap (λ (b : Bool). index_where (b && not (in_doubt new && not (is_some receipt.entry))) (receipt.point - 1)) settled

  pub unchanged : receipt.entry ≡ None → entries new ≡ entries old
  unchanged none = ap entries (line ∙ by_none receipt.entry receipt.landed (old ++ record_of (made_by a receipt) receipt ∷ []) old none none_landed)

  added : (index : ℕ) (e : Entry) → receipt.entry ≡ Some index → a.entry ≡ Some e → entries new ≡ entries old ++ e ∷ []
  added index e own is =
      let r = record_of (made_by a receipt) receipt in
      let made : r.made ≡ Some e = ap (λ (o : Option ℕ). if is_some o then a.entry else None) own ∙ is in
      ap entries (line ∙ ap (λ (o : Option ℕ). if is_some o || is_some receipt.landed then old ++ r ∷ [] else old) own) ∙ entries_append old (r ∷ [])
      ∙ ap (λ (l : List Entry). entries old ++ l) (entries_one r ∙ ap one_of made)

  pub kept : receipt.entry ≡ index_where (is_some a.entry) receipt.point → entries new ≡ with_entry (entries old) a.entry
  kept own = by_entry a.entry refl own
    where
      by_entry : (o : Option Entry) → a.entry ≡ o → receipt.entry ≡ index_where (is_some o) receipt.point → entries new ≡ with_entry (entries old) o
      by_entry None is own = unchanged own
      by_entry (Some e) is own = added receipt.point e own is

  pub doubtful_one : (index : ℕ) → receipt.entry ≡ Some index → IsSome a.entry → (e : Entry) × (a.entry ≡ Some e) × (entries new ≡ entries old ++ e ∷ [])
  doubtful_one index own some = by_entry a.entry refl some
    where
      by_entry : (o : Option Entry) → a.entry ≡ o → IsSome o → (e : Entry) × (a.entry ≡ Some e) × (entries new ≡ entries old ++ e ∷ [])
      by_entry None is some = absurd (cc)
      by_entry (Some e) is some = (e, is, added index e own is)

-- ---- what a put is answered

-- no answer of the store ends so
abbrev is_trouble : Ending → Bool
is_trouble ending.Memory = true
is_trouble ending.DiskFault = true
is_trouble ending.InputFault = true
is_trouble other = false

refused_calm : (r : Refusal) (end : Ending) → EndsRefused r end → is_trouble end ≡ false
refused_calm (refusal.Conflict held) end e = ap is_trouble e
refused_calm (refusal.Full need limit) end e = ap is_trouble e
refused_calm (refusal.Broken r) end e = ap is_trouble e
refused_calm refusal.TooLong end e = ap is_trouble e
refused_calm refusal.Unauthorized end e = absurd e
refused_calm (refusal.Forbidden rule) end e = ap is_trouble e.1
refused_calm refusal.NotFound end e = absurd e

saying_calm : (id : List ℕ) (s : Answered) (end : Ending) → EndsSaying id s end → is_trouble end ≡ false
saying_calm id said.Kept end e = ap is_trouble e
saying_calm id said.Same end e = ap is_trouble e
saying_calm id (said.Shown text through) end e = absurd e
saying_calm id (said.Document media bytes) end e = absurd e
saying_calm id (said.Refused r) end e = refused_calm r end e

true_false : true ≡ false → ⊥
true_false e = cc

submits_kept : (id : List ℕ) (a : Answer) (h final : List Entry) (s : Answered) (end : Ending) → EndsSaying id s end → s ≡ a.said → final ≡ with_entry h a.entry → Submits h id a final end
submits_kept id a h final s end says same is = by_end end (subst (λ (x : Answered). EndsSaying id x end) same says) (saying_calm id s end says)
  where
    by_end : (end : Ending) → EndsSaying id a.said end → is_trouble end ≡ false → Submits h id a final end
    by_end ending.Memory says calm = absurd (true_false calm)
    by_end ending.DiskFault says calm = absurd (true_false calm)
    by_end ending.InputFault says calm = absurd (true_false calm)
    by_end ending.Founded says calm = (says, is)
    by_end (ending.Kept k) says calm = (says, is)
    by_end ending.Usage says calm = (says, is)
    by_end (ending.Served responses) says calm = (says, is)
    by_end ending.OldFormat says calm = (says, is)
    by_end (ending.Migrated entries) says calm = (says, is)
    by_end (ending.Loaded statements listed) says calm = (says, is)
    by_end ending.LobbyFault says calm = (says, is)
    by_end ending.NotAStore says calm = (says, is)
    by_end (ending.Damaged k) says calm = (says, is)
    by_end ending.AlreadyStore says calm = (says, is)
    by_end (ending.Refused r) says calm = (says, is)
    by_end ending.NoId says calm = (says, is)
    by_end ending.TooLong says calm = (says, is)
    by_end (ending.Conflict k) says calm = (says, is)
    by_end (ending.Full need most) says calm = (says, is)

-- a put that meets no trouble
pub answered_ends : (id : List ℕ) (a : Answer) (receipt : Receipt) (old new : List Record) (s : Answered) (end : Ending)
    → Acts a (Ok s) receipt old new → in_doubt old ≡ false → EndsSaying id s end → Submits (entries old) id a (entries new) end
answered_ends id a receipt old new s end acts settled says =
    submits_kept id a (entries old) (entries new) s end says acts.tells.0 (kept a receipt old new settled acts.line acts.landed acts.tells.1)

-- a put that meets trouble
pub troubled_ends : (id : List ℕ) (a : Answer) (receipt : Receipt) (old new : List Record) (t : Trouble)
    → Acts a (Err t) receipt old new → in_doubt old ≡ false → Submits (entries old) id a (entries new) (ending_of_trouble t)
troubled_ends id a receipt old new trouble.Memory acts settled = unchanged a receipt old new settled acts.line acts.landed acts.tells.0
troubled_ends id a receipt old new trouble.Disk acts settled =
    ⊎_elim (λ none. inl (unchanged a receipt old new settled acts.line acts.landed none.0))
    (λ some. inr (doubtful_one a receipt old new settled acts.line acts.landed receipt.point some.1 some.0)) acts.tells

pub answered_doubts : {D : Type 0} (a : Answer) (receipt : Receipt) (old new : Desk D) (s : Answered) (end : Ending) → Acts a (Ok s) receipt old.line new.line → DoubtsOnly old new end
answered_doubts a receipt old new s end acts doubt = absurd (true_false (sym doubt ∙ acts.tells.2))

pub troubled_doubts : {D : Type 0} (a : Answer) (receipt : Receipt) (old new : Desk D) (t : Trouble)
    → Acts a (Err t) receipt old.line new.line → in_doubt old.line ≡ false → DoubtsOnly old new (ending_of_trouble t)
troubled_doubts a receipt old new trouble.Memory acts settled doubt = absurd (true_false (sym doubt ∙ acts.tells.1))
troubled_doubts a receipt old new trouble.Disk acts settled doubt =
    ⊎_elim (λ none. absurd (true_false (sym doubt ∙ none.1 settled)))
    (λ some. let one = doubtful_one a receipt old.line new.line settled acts.line acts.landed receipt.point some.1 some.0 in (refl, (one.0, one.2))) acts.tells

-- the counts of a receipt are those of the disk
pub answered_cause : (receipt : Receipt) (s : Answered) (before now : ℕ) (end : Ending) → receipt.was ≡ before → receipt.is ≡ now
    → HasDiskCause receipt.was receipt.is (Ok s) → ((count : ℕ) → HasPutCause count count end) → HasPutCause before now end
answered_cause receipt s before now end was is cause same =
    let kept : before ≡ now = sym was ∙ sym cause ∙ is in
    subst (λ (n : ℕ). HasPutCause before n end) kept (same before)

pub trouble_cause : (receipt : Receipt) (t : Trouble) (before now : ℕ) → receipt.was ≡ before → receipt.is ≡ now
    → HasDiskCause receipt.was receipt.is (Err t) → HasPutCause before now (ending_of_trouble t)
trouble_cause receipt t before now was is cause = by_trouble t
    (subst (λ (n : ℕ). HasDiskCause before n (Err t)) is (subst (λ (b : ℕ). HasDiskCause b receipt.is (Err t)) was cause))
  where
    by_trouble : (t : Trouble) → HasDiskCause before now (Err t) → HasPutCause before now (ending_of_trouble t)
    by_trouble trouble.Memory cause = cause
    by_trouble trouble.Disk cause = cause

-- ---- what is taken in

module _ (limit : ℕ) (h : List Entry) (clock : ℕ) (draw : Draw) where
  taken : (id : List ℕ) (t : Tree) (final : List Entry) (end : Ending) (input : List ℕ) → IsTakenFor input (with_id id t)
      → Submits h id (put_answer limit h clock draw id t) final end → EndsOpened limit h final input clock draw end
  taken id t final ending.Memory input asks s = s
  taken id t final ending.DiskFault input asks s = (with_id id t, asks, s)
  taken id t final ending.InputFault input asks s = absurd (true_false (saying_calm id (put_answer limit h clock draw id t).said ending.InputFault s.0))
  taken id t final ending.Founded input asks s = (with_id id t, asks, s.0, s.1)
  taken id t final (ending.Kept k) input asks s = (with_id id t, asks, s.0, s.1)
  taken id t final ending.Usage input asks s = (with_id id t, asks, s.0, s.1)
  taken id t final (ending.Served responses) input asks s = (with_id id t, asks, s.0, s.1)
  taken id t final ending.OldFormat input asks s = (with_id id t, asks, s.0, s.1)
  taken id t final (ending.Migrated entries) input asks s = (with_id id t, asks, s.0, s.1)
  taken id t final (ending.Loaded statements listed) input asks s = (with_id id t, asks, s.0, s.1)
  taken id t final ending.LobbyFault input asks s = (with_id id t, asks, s.0, s.1)
  taken id t final ending.NotAStore input asks s = (with_id id t, asks, s.0, s.1)
  taken id t final (ending.Damaged k) input asks s = (with_id id t, asks, s.0, s.1)
  taken id t final ending.AlreadyStore input asks s = (with_id id t, asks, s.0, s.1)
  taken id t final (ending.Refused r) input asks s = (with_id id t, asks, s.0, s.1)
  taken id t final ending.NoId input asks s = (with_id id t, asks, s.0, s.1)
  taken id t final ending.TooLong input asks s = (with_id id t, asks, s.0, s.1)
  taken id t final (ending.Conflict k) input asks s = (with_id id t, asks, s.0, s.1)
  taken id t final (ending.Full need most) input asks s = (with_id id t, asks, s.0, s.1)

  pub takes_in : (id : List ℕ) (t : Tree) (final : List Entry) (end : Ending) (left : Option (List ℕ)) → ForInput left (λ input. IsTakenFor input (with_id id t))
      → Submits h id (put_answer limit h clock draw id t) final end → ForInput left (λ input. EndsOpened limit h final input clock draw end)
  takes_in id t final end left read s = (read.0, read.1, taken id t final end read.0 read.2 s)

  -- what is no statement changes nothing
  not_taken : (end : Ending) (input : List ℕ) (before now : ℕ) → IsNotTaken input end → HasInputCause before now end → EndsOpened limit h h input clock draw end
  not_taken ending.Memory input before now why cause = refl
  not_taken ending.InputFault input before now why cause = refl
  not_taken ending.DiskFault input before now why cause = absurd cause
  not_taken ending.Founded input before now (kind, is, over) cause = let o = over limit h clock draw in (kind, is, o.0, ap (with_entry h) (sym o.1))
  not_taken (ending.Kept k) input before now (kind, is, over) cause = let o = over limit h clock draw in (kind, is, o.0, ap (with_entry h) (sym o.1))
  not_taken ending.Usage input before now (kind, is, over) cause = let o = over limit h clock draw in (kind, is, o.0, ap (with_entry h) (sym o.1))
  not_taken (ending.Served responses) input before now (kind, is, over) cause = let o = over limit h clock draw in (kind, is, o.0, ap (with_entry h) (sym o.1))
  not_taken ending.OldFormat input before now (kind, is, over) cause = let o = over limit h clock draw in (kind, is, o.0, ap (with_entry h) (sym o.1))
  not_taken (ending.Migrated entries) input before now (kind, is, over) cause = let o = over limit h clock draw in (kind, is, o.0, ap (with_entry h) (sym o.1))
  not_taken (ending.Loaded statements listed) input before now (kind, is, over) cause = let o = over limit h clock draw in (kind, is, o.0, ap (with_entry h) (sym o.1))
  not_taken ending.LobbyFault input before now (kind, is, over) cause = let o = over limit h clock draw in (kind, is, o.0, ap (with_entry h) (sym o.1))
  not_taken ending.NotAStore input before now (kind, is, over) cause = let o = over limit h clock draw in (kind, is, o.0, ap (with_entry h) (sym o.1))
  not_taken (ending.Damaged k) input before now (kind, is, over) cause = let o = over limit h clock draw in (kind, is, o.0, ap (with_entry h) (sym o.1))
  not_taken ending.AlreadyStore input before now (kind, is, over) cause = let o = over limit h clock draw in (kind, is, o.0, ap (with_entry h) (sym o.1))
  not_taken (ending.Refused r) input before now (kind, is, over) cause = let o = over limit h clock draw in (kind, is, o.0, ap (with_entry h) (sym o.1))
  not_taken ending.NoId input before now (kind, is, over) cause = let o = over limit h clock draw in (kind, is, o.0, ap (with_entry h) (sym o.1))
  not_taken ending.TooLong input before now (kind, is, over) cause = let o = over limit h clock draw in (kind, is, o.0, ap (with_entry h) (sym o.1))
  not_taken (ending.Conflict k) input before now (kind, is, over) cause = let o = over limit h clock draw in (kind, is, o.0, ap (with_entry h) (sym o.1))
  not_taken (ending.Full need most) input before now (kind, is, over) cause = let o = over limit h clock draw in (kind, is, o.0, ap (with_entry h) (sym o.1))

  pub takes_none : (end : Ending) (left : Option (List ℕ)) (before now : ℕ) → ForInput left (λ input. IsNotTaken input end) → HasInputCause before now end
      → ForInput left (λ input. EndsOpened limit h h input clock draw end)
  takes_none end left before now read cause = (read.0, read.1, not_taken end read.0 before now read.2 cause)

-- ---- closing

no_snoc : {X : Type 0} (xs : List X) (x : X) → [] ≡ xs ++ x ∷ [] → ⊥
no_snoc [] x e = cc
no_snoc (y ∷ ys) x e = cc

front_of : {X : Type 0} (xs ys : List X) (x y : X) → xs ++ x ∷ [] ≡ ys ++ y ∷ [] → xs ≡ ys
front_of [] [] x y e = refl
front_of [] (z ∷ zs) x y e = absurd (no_snoc zs y (let tails : [] ≡ zs ++ y ∷ [] = cc in tails))
front_of (z ∷ zs) [] x y e = absurd (no_snoc zs x (let tails : [] ≡ zs ++ x ∷ [] = cc in tails))
front_of (z ∷ zs) (w ∷ ws) x y e =
    let heads : z ≡ w = cc in let tails : zs ++ x ∷ [] ≡ ws ++ y ∷ [] = cc in
    let fronts = front_of zs ws x y tails in cc

map_snoc : (h : List Entry) (e : Entry) → map written_entry (h ++ e ∷ []) ≡ map written_entry h ++ written_entry e ∷ []
map_snoc [] e = refl
map_snoc (k ∷ h) e = ap (λ r. written_entry k ∷ r) (map_snoc h e)

pub doubtful : (told : Option (List ℕ)) (limit : ℕ) (h : List Entry) (e : Entry) → HoldsIn true told limit (h ++ e ∷ [])
    → Holds told limit h ⊎ Holds told limit (h ++ e ∷ [])
doubtful told limit h e (bytes, tells, (before, last, split, stands)) =
    let fronts : map written_entry h ≡ before = front_of (map written_entry h) before (written_entry e) last (sym (map_snoc h e) ∙ split) in
    ⊎_elim (λ s. inl (bytes, tells, subst (λ (p : List (List ℕ)). Stands bytes limit p) (sym fronts) s)) (λ s. inr (bytes, tells, s)) stands

module _ {D : Type 0} (d : disks.Ghosts D) (counts_now : (x : D) (t : ℕ) (c : List ℕ) → t ≤ d.time x → d.image x c → d.image_since x t c)
    (only_now : (x : D) (c : List ℕ) → d.image_since x (d.time x) c → d.image x c) (desk mid : Desk D) (disk : D) (opened : IsOpened d desk) (on : Continues d desk mid)
    (n : ℕ) (count : n ≡ length (history mid)) (passed : d.time mid.disk ≤ d.time disk) (legal : IsLegal mid.limit (history mid))
    (stops : ForSome (d.told mid.disk) (λ _. LeavesOnly d.time d.image_since mid.disk disk (HoldsPrefix mid.limit (sure mid.line) (history mid)))) where
  legal_here : IsLegal desk.limit (history mid)
  legal_here = subst (λ (l : ℕ). IsLegal l (history mid)) on.limit legal

  later_here : d.time desk.disk ≤ d.time disk
  later_here = let acts = on.later in omega (arith, acts, passed)

  stops_here : StopsFrom d desk disk (history mid)
  stops_here = stops_from d counts_now only_now desk mid disk opened on stops

  -- the closing went well
  pub closed_final : (end : Ending) → ForSome (d.told mid.disk) (λ _. LeavesStore d.told disk mid.limit false (history mid))
      → ((c : List ℕ) → d.image disk c → Stands c mid.limit (map written_entry (history mid)))
      → LeavesFinal d (taken_now d desk.disk) disk desk.limit (history desk) (history mid) n end
  closed_final end holds durable = record {
    legal = legal_here;
    counts = count;
    later = later_here;
    holds = λ told is.
        let t = told_on (d.told desk.disk) (d.told mid.disk) told on.tells is in
        inl (subst (λ (l : ℕ). Holds (d.told disk) l (history mid)) on.limit (holds t.0 t.1));
    stops = λ told is. (stops_here told is).each;
    closed = λ well told is image left. (subst (λ (l : ℕ). Stands image l (map written_entry (history mid))) on.limit (durable image left), legal_here);
  }

  -- the disk failed, and the entry of the one act was in doubt
  failed_final : (e : Entry) → history mid ≡ history desk ++ e ∷ [] → ForSome (d.told mid.disk) (λ _. LeavesStore d.told disk mid.limit true (history mid))
      → LeavesFinal d (taken_now d desk.disk) disk desk.limit (history desk) (history mid) n ending.DiskFault
  failed_final e one holds = record {
    legal = legal_here;
    counts = count;
    later = later_here;
    holds = λ told is.
        let t = told_on (d.told desk.disk) (d.told mid.disk) told on.tells is in
        let there : HoldsIn true (d.told disk) desk.limit (history desk ++ e ∷ []) =
        subst (λ (h : List Entry). HoldsIn true (d.told disk) desk.limit h) one (subst (λ (l : ℕ). HoldsIn true (d.told disk) l (history mid)) on.limit (holds t.0 t.1)) in
        ⊎_elim (λ before. inr (refl, before)) (λ after. inl (subst (λ (h : List Entry). Holds (d.told disk) desk.limit h) (sym one) after))
        (doubtful (d.told disk) desk.limit (history desk) e there);
    stops = λ told is. (stops_here told is).each;
    closed = λ well. absurd (well refl);
  }

  pub closes : (left : Option (List ℕ)) (clock : ℕ) (draw : Draw) (end : Ending) → ForInput left (λ input. EndsOpened desk.limit (history desk) (history mid) input clock draw end)
      → ForSome (d.told mid.disk) (λ _. LeavesStore d.told disk mid.limit false (history mid))
      → ((c : List ℕ) → d.image disk c → Stands c mid.limit (map written_entry (history mid)))
      → ClosesTaken d desk disk left clock draw n end
  closes left clock draw end ends holds durable = record {
    final = history mid;
    begins = entries_begin desk.line mid.line on.begins;
    ends = ends;
    leaves = closed_final end holds durable;
    stops = stops_here;
  }

  pub fails : (left : Option (List ℕ)) (clock : ℕ) (draw : Draw) (end : Ending) → ForInput left (λ input. EndsOpened desk.limit (history desk) (history mid) input clock draw end)
      → DoubtsOnly desk mid end → in_doubt mid.line ≡ true → ForSome (d.told mid.disk) (λ _. LeavesStore d.told disk mid.limit true (history mid))
      → ClosesTaken d desk disk left clock draw n ending.DiskFault
  fails left clock draw end ends doubts doubt holds =
      let lost = doubts doubt in
      record {
        final = history mid;
        begins = entries_begin desk.line mid.line on.begins;
        ends = subst (λ (x : Ending). ForInput left (λ input. EndsOpened desk.limit (history desk) (history mid) input clock draw x)) lost.0 ends;
        leaves = failed_final lost.1.0 lost.1.1 holds;
        stops = stops_here;
      }
