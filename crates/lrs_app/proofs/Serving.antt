-- From the conversations of doors to what serve does.
use Rattle.std.proofs.Common.{suc, ◌≡◌, ◌≢◌, ◌<◌, ◌≤◌, ◌+◌, ◌-◌, ◌^◌, min, ◌++◌, ◌∷◌, [], ℕ, List, drop, length, map, Bool, true, false, Option, Some, option_map, take, refl, sym, ap, ◌∙◌, subst, inl, inr, ⊎_elim, arith, All}
use Rattle.std.specs.List.{AllByRecursion}
use Rattle.std.specs.Prelude.{slice_get}
use Rattle.std.proofs.lemmas.List.{drop_all}
use Rattle.std.proofs.Math.Nat.{min-eq_left}
use Rattle.lrs_disk.specs.Disk.{LeavesOnly}
use Rattle.lrs_disk.specs.Door.{DoorState, IsFresh}
use Rattle.lrs_disk.specs.Faults.{Rises}
use Rattle.lrs_disk.specs.Lobby.{CountsFaults, DoorsAsked}
use Rattle.lrs_disk.specs.declared.disk.Disk as disks
use Rattle.lrs_record.specs.declared.entry.Entry.{Entry}
use Rattle.lrs_hall.specs.LrsMachineActs.{Receipt}
use Rattle.lrs_hall.specs.LrsMachineDesk.{Desk, HoldsPrefix, IsOnDisk, history}
use Rattle.lrs_hall.specs.LrsMachineLine.{BeginsWith, Record, opened_line, opening_record, sure}
use Rattle.lrs_hall.specs.LrsMachineOrigin.{ComesFrom, IsOfOrigin}
use Rattle.lrs_hall.specs.LrsMachineOpeningDeskRefused.{DeskRefused}
use Rattle.lrs_hall.specs.LrsMachineOpeningDeskRefusedTheVariants as refused
use Rattle.lrs_hall.specs.Serving.{AreWithin, IsNotBelow, IsWithin, Tide, all_receipts}
use Rattle.lrs_hall.specs.Talks.{Talk}
use Rattle.lrs_hall.specs.Workers.{HasSameOpening, ServesAll}
use Rattle.lrs_hall.specs.declared.serving.ServeEnd.{ServeEnd}
use Rattle.lrs_hall.specs.declared.serving.ServeEnd.TheVariants as serve
use Rattle.lrs_hall.proofs.Lines.{begins_self, length_take}
use Rattle.lrs_app.specs.Disks.{Holds, LeavesUnopened, Taken}
use Rattle.lrs_app.specs.Service.{CountsOn, Doors, HadDoors, HasNoDoor, HoldsAfter, RoseSince, ending_of_serving, receipts_of_all, responses_of}
use Rattle.lrs_app.specs.Run.{HasEndingCause, HasLobbyCause, ServesDisk}
use Rattle.lrs_app.specs.Steps.{Continues, IsOpened, ending_of}
use Rattle.lrs_app.proofs.Openings.{opened_sure}
use Rattle.lrs_console.specs.declared.ending.Ending.{Ending}
use Rattle.lrs_console.specs.declared.ending.Ending.TheVariants as ending

-- ---- the receipts of all workers

all_append : {A : Type 0} (P : A → Type 0) (xs ys : List A) → AllByRecursion P xs → AllByRecursion P ys → AllByRecursion P (xs ++ ys)
all_append P [] ys all more = more
all_append P (x ∷ xs) ys all more = (all.0, all_append P xs ys all.1 more)

-- what is true of the receipts of each worker is true of those of all
pub of_all : (P : Receipt → Type 0) (talks : List (List Talk)) → AllByRecursion (λ (of_one : List Talk). AllByRecursion P (all_receipts of_one)) talks → AllByRecursion P (receipts_of_all talks)
of_all P [] all = tt
of_all P (of_one ∷ talks) all = all_append P (all_receipts of_one) (receipts_of_all talks) all.0 (of_all P talks all.1)

pub of_none : (P : Receipt → Type 0) (talks : List (List Talk)) → talks ≡ [] → AllByRecursion P (receipts_of_all talks)
of_none P talks silent = subst (λ (t : List (List Talk)). AllByRecursion P (receipts_of_all t)) (sym silent) tt

-- ---- counts

rises_from : (a b now : ℕ) → a ≤ b → Rises b now → Rises a now
rises_from a b now less rises = ⊎_elim (λ h. inl (omega (arith, less, h))) (λ h. inr h) rises

-- a count that rises after the acts rises after what each told
pub behind_all : (begins last : Tide) (receipts : List Receipt) (now : ℕ) → AreWithin begins last receipts → Rises last.faults now → RoseSince receipts now
behind_all begins last [] now within rises = tt
behind_all begins last (r ∷ receipts) now within rises = ((λ acted. rises_from r.is last.faults now (within.0 acted).is rises), behind_all begins last receipts now within.1 rises)

pub rises_later : (before end now : ℕ) → before ≤ end → Rises end now → Rises before now
rises_later before end now low rises = rises_from before end now low rises

-- ---- causes of endings

pub doorless_cause : (address : List ℕ) (workers : ℕ) (before after : Doors) (end : Ending) → HasNoDoor address workers before after end → HasLobbyCause before after end
doorless_cause address workers before after ending.LobbyFault none = λ e. none.2
doorless_cause address workers before after ending.Memory none = λ e. cc
doorless_cause address workers before after ending.Founded none = absurd none
doorless_cause address workers before after (ending.Kept id) none = absurd none
doorless_cause address workers before after (ending.Served n) none = absurd none
doorless_cause address workers before after ending.OldFormat none = absurd none
doorless_cause address workers before after (ending.Migrated entries) none = absurd none
doorless_cause address workers before after (ending.Loaded statements listed) none = absurd none
doorless_cause address workers before after ending.Usage none = absurd none
doorless_cause address workers before after ending.NotAStore none = absurd none
doorless_cause address workers before after (ending.Damaged k) none = absurd none
doorless_cause address workers before after ending.AlreadyStore none = absurd none
doorless_cause address workers before after ending.DiskFault none = absurd none
doorless_cause address workers before after (ending.Refused r) none = absurd none
doorless_cause address workers before after ending.NoId none = absurd none
doorless_cause address workers before after ending.TooLong none = absurd none
doorless_cause address workers before after (ending.Conflict id) none = absurd none
doorless_cause address workers before after ending.InputFault none = absurd none
doorless_cause address workers before after (ending.Full need limit) none = absurd none

-- nothing is asked of the disk's count where the disk's fault isn't told
pub doorless_disk : (address : List ℕ) (workers : ℕ) (before after : Doors) (end : Ending) (m n : ℕ) → HasNoDoor address workers before after end → HasEndingCause m n 0 0 end
doorless_disk address workers before after ending.LobbyFault m n none = tt
doorless_disk address workers before after ending.Memory m n none = tt
doorless_disk address workers before after ending.Founded m n none = absurd none
doorless_disk address workers before after (ending.Kept id) m n none = absurd none
doorless_disk address workers before after (ending.Served k) m n none = absurd none
doorless_disk address workers before after ending.OldFormat m n none = absurd none
doorless_disk address workers before after (ending.Migrated entries) m n none = absurd none
doorless_disk address workers before after (ending.Loaded statements listed) m n none = absurd none
doorless_disk address workers before after ending.Usage m n none = absurd none
doorless_disk address workers before after ending.NotAStore m n none = absurd none
doorless_disk address workers before after (ending.Damaged k) m n none = absurd none
doorless_disk address workers before after ending.AlreadyStore m n none = absurd none
doorless_disk address workers before after ending.DiskFault m n none = absurd none
doorless_disk address workers before after (ending.Refused r) m n none = absurd none
doorless_disk address workers before after ending.NoId m n none = absurd none
doorless_disk address workers before after ending.TooLong m n none = absurd none
doorless_disk address workers before after (ending.Conflict id) m n none = absurd none
doorless_disk address workers before after ending.InputFault m n none = absurd none
doorless_disk address workers before after (ending.Full need limit) m n none = absurd none

pub served_disk : (why : ServeEnd) (talks : List (List Talk)) (m n : ℕ) → HasEndingCause m n 0 0 (ending_of_serving why talks)
served_disk serve.Done talks m n = tt
served_disk serve.DoorFault talks m n = tt
served_disk serve.Memory talks m n = tt

pub true_false : true ≡ false → ⊥
true_false e = cc

pub well_served : (why : ServeEnd) (talks : List (List Talk)) → ending_of_serving why talks ≢ ending.DiskFault
well_served serve.Done talks e = cc
well_served serve.DoorFault talks e = cc
well_served serve.Memory talks e = cc

pub holds_whole : (why : ServeEnd) (talks : List (List Talk)) (doubt : Bool) (told : Option (List ℕ)) (limit : ℕ) (h : List Entry)
    → Holds told limit h → HoldsAfter (ending_of_serving why talks) doubt told limit h
holds_whole serve.Done talks doubt told limit h holds = holds
holds_whole serve.DoorFault talks doubt told limit h holds = holds
holds_whole serve.Memory talks doubt told limit h holds = holds

-- ---- tides

-- what lies between two tides lies between wider ones
pub within_wider : (a b x y : Tide) (receipts : List Receipt) → x.faults ≤ a.faults → x.moment ≤ a.moment → b.faults ≤ y.faults → b.moment ≤ y.moment
    → AreWithin a b receipts → AreWithin x y receipts
within_wider a b x y [] f m g n all = tt
within_wider a b x y (r ∷ receipts) f m g n all = (
  λ acted.
      let w = all.0 acted in
      let was = w.was in
      let is = w.is in
      let began = w.began in
      let ended = w.ended in
      record {
        was = omega (arith, f, was);
        rise = w.rise;
        is = omega (arith, g, is);
        told = w.told;
        began = omega (arith, m, began);
        ended = omega (arith, n, ended);
      },
  within_wider a b x y receipts f m g n all.1,
)

-- without a talk the tide only has not to fall
pub counts_none : (begins now : Tide) (talks : List (List Talk)) → talks ≡ [] → IsNotBelow begins now → CountsOn begins talks now
counts_none begins now talks silent more =
    (begins, of_none (λ (receipt : Receipt). receipt.acted ≡ true → IsWithin begins begins receipt) talks silent, (omega arith, omega arith), more)

-- the same from an earlier tide on
pub counts_since : (first begins now : Tide) (talks : List (List Talk)) → IsNotBelow first begins → CountsOn begins talks now → CountsOn first talks now
counts_since first begins now talks since counts =
    let last = counts.0 in
    let f = since.0 in
    let m = since.1 in
    let g = counts.2.0 in
    let n = counts.2.1 in
    let same : last.faults ≤ last.faults = omega arith in
    let still : last.moment ≤ last.moment = omega arith in
    (last, within_wider begins last first last (receipts_of_all talks) f m same still counts.1, (omega (arith, f, g), omega (arith, m, n)), counts.3)

-- ---- the desk goes on, whoever acted

-- What several workers make of a desk that was just opened, by what its type keeps of the opening. Its disk was at the
-- opening's end.
pub went_on : {D : Type 0} (d : disks.Ghosts D) (desk mid : Desk D) → IsOpened d desk → desk.opened ≡ length (history desk) → desk.origin ≡ desk.disk → HasSameOpening desk mid
    → BeginsWith desk.line mid.line → d.time desk.disk ≤ d.time mid.disk → IsOfOrigin d.told d.time d.image_since mid → Continues d desk mid
went_on {D} d desk mid opened count origin same begins later is =
    let comes = subst (λ (on : D). ComesFrom d.told d.time d.image_since mid.limit mid.opened (history mid) on mid.disk) (same.origin ∙ origin) is in
    let all = opened_sure d desk opened in
    let least : mid.opened ≡ sure desk.line = same.opened ∙ count ∙ sym all in
    record {
      limit = same.limit;
      begins = begins;
      tells = comes.0;
      later = later;
      stops = λ told there.
          subst (λ (n : ℕ). LeavesOnly d.time d.image_since desk.disk mid.disk (HoldsPrefix desk.limit n (history mid))) least
          (subst (λ (l : ℕ). LeavesOnly d.time d.image_since desk.disk mid.disk (HoldsPrefix l mid.opened (history mid))) same.limit (comes.1 told there));
    }

-- the line goes on from the one at the opening
pub served_begins : {D : Type 0} (tide : D → Tide) (desk mid : Desk D) (connections : ℕ) (seed : List ℕ) (openings closings : List DoorState) (talks : List (List Talk)) (why : ServeEnd)
    → ServesAll tide desk mid connections seed openings closings talks why → BeginsWith desk.line mid.line
served_begins {D} tide desk mid connections seed openings closings talks why serves =
    ⊎_elim (λ doors. doors.begins) (λ none. subst (λ (m : Desk D). BeginsWith desk.line m.line) (sym none.desk) (begins_self desk.line)) serves

-- a desk has records, and the first is of its opening
first_record : (t : ℕ) (h : List Entry) (line : List Record) → 0 < length h → BeginsWith (opened_line t h) line → (r : Record) × (slice_get line 0 ≡ Some r) × (r.moment ≡ t)
first_record t [] line some begins = absurd (omega (arith, some))
first_record t (e ∷ h) line some begins = (opening_record t e, ap (λ (l : List Record). slice_get l 0) (sym begins.1), refl)

opening_stands : {D : Type 0} (d : disks.Ghosts D) (desk : Desk D) → IsOnDisk d.told d.image d.time d.image_since desk → (r : Record) × (slice_get desk.line 0 ≡ Some r) × (r.moment ≡ desk.opened_at)
opening_stands d desk is =
    let few = is.opening.1 in
    let some = is.opening.0 in
    let len : length (take desk.opened (history desk)) ≡ desk.opened = length_take (history desk) desk.opened few in
    first_record desk.opened_at (take desk.opened (history desk)) desk.line (omega (arith, len, some)) is.opening.2

-- the disk's moment isn't before that of the opening's end
pub begun_later : {D : Type 0} (d : disks.Ghosts D) (desk mid : Desk D) → IsOpened d desk → HasSameOpening desk mid → IsOnDisk d.told d.image d.time d.image_since mid → d.time desk.disk ≤ d.time mid.disk
begun_later d desk mid opened opening is =
    let first = opening_stands d mid is in
    let before = is.moments 0 first.0 first.1 in
    let at = first.2 in
    let same = opening.opened_at in
    let here = opened.moment in
    omega (arith, before, at, same, here)

-- ---- the doors

map_length : {X Y : Type 0} (f : X → Y) (xs : List X) → length (map f xs) ≡ length xs
map_length f [] = refl
map_length f (x ∷ xs) = ap (λ (n : ℕ). suc n) (map_length f xs)

all_fresh : {X : Type 0} (state : X → DoorState) (xs : List X) → All (λ (x : X). IsFresh (state x)) xs → AllByRecursion IsFresh (map state xs)
all_fresh state [] all = tt
all_fresh state (x ∷ xs) all = (all 0 x (omega arith), all_fresh state xs (λ k d near. all (suc k) d (omega (arith, near))))

-- doors were asked for, and given back
pub had_doors : {X : Type 0} (state : X → DoorState) (doors : List X) (name address : List ℕ) (workers : ℕ) (asked0 asked1 asked2 : Option (List DoorsAsked)) (returned0 returned1 returned2 : Option (List DoorState))
    (faults0 faults1 faults2 : ℕ) (closings : List DoorState) → name ≡ address → length doors ≡ workers → All (λ (x : X). IsFresh (state x)) doors
    → asked1 ≡ option_map (λ (asked : List DoorsAsked). asked ++ record { address = name; count = workers } ∷ []) asked0 → asked2 ≡ asked1
    → returned1 ≡ returned0 → returned2 ≡ option_map (λ _. closings) returned1 → faults1 ≡ faults0 → CountsFaults faults1 faults2 closings
    → HadDoors address workers (map state doors) closings (record { asked = asked0; returned = returned0; faults = faults0 }) (record { asked = asked2; returned = returned2; faults = faults2 })
had_doors state doors name address workers asked0 asked1 asked2 returned0 returned1 returned2 faults0 faults1 faults2 closings same number fresh asks kept same_returned returned same_faults counts = record {
  number = map_length state doors ∙ number;
  fresh = all_fresh state doors fresh;
  asked = kept ∙ asks ∙ ap (λ a. option_map (λ (asked : List DoorsAsked). asked ++ record { address = a; count = workers } ∷ []) asked0) same;
  returned = returned ∙ ap (option_map (λ _. closings)) same_returned;
  counts = subst (λ (f : ℕ). CountsFaults f faults2 closings) same_faults counts;
}

-- ---- nothing was opened

unopened_cause : (why : DeskRefused) (before after : Doors) → HasLobbyCause before after (ending_of why)
unopened_cause refused.NotAStore before after = λ e. cc
unopened_cause refused.OldFormat before after = λ e. cc
unopened_cause (refused.Damaged k) before after = λ e. cc
unopened_cause (refused.IllegalEntry k) before after = λ e. cc
unopened_cause refused.Failed before after = λ e. cc
unopened_cause refused.Memory before after = λ e. cc

-- what serve does where no store is opened
pub unopened_serves : {D : Type 0} (d : disks.Ghosts D) (taken : Taken) (disk : D) (address : List ℕ) (workers connections : ℕ) (seed : List ℕ) (doors : Doors) (talks : List (List Talk)) (why : DeskRefused) (end : Ending)
    → end ≡ ending_of why → talks ≡ [] → LeavesUnopened d taken disk 0 end → ServesDisk d taken disk address workers connections seed doors doors talks 0 end
unopened_serves d taken disk address workers connections seed doors talks why end ended silent leaves = (
  subst (λ (e : Ending). HasLobbyCause doors doors e) (sym ended) (unopened_cause why doors doors),
  inl (record { leaves = leaves; lobby = refl; silent = silent }),
)

-- ---- responses

-- after the last talk all responses of a worker are counted
pub counted_one : (talks : List Talk) (i r : ℕ) → length talks ≤ i → r ≤ 2 ^ 64 - 1 → min (r + length (all_receipts (drop i talks))) (2 ^ 64 - 1) ≡ min (length (all_receipts talks)) (2 ^ 64 - 1)
    → r ≡ min (length (all_receipts talks)) (2 ^ 64 - 1)
counted_one talks i r end most count =
    let e : r + 0 ≡ r = omega arith in
    sym (ap (λ (n : ℕ). min n (2 ^ 64 - 1)) e ∙ min-eq_left most) ∙ sym (ap (λ (t : List Talk). min (r + length (all_receipts t)) (2 ^ 64 - 1)) (drop_all i talks end)) ∙ count

-- after the last worker all responses are counted
pub counted_all : (talks : List (List Talk)) (i r : ℕ) → length talks ≤ i → r ≤ 2 ^ 64 - 1 → min (r + length (receipts_of_all (drop i talks))) (2 ^ 64 - 1) ≡ responses_of talks
    → r ≡ responses_of talks
counted_all talks i r end most count =
    let e : r + 0 ≡ r = omega arith in
    sym (ap (λ (n : ℕ). min n (2 ^ 64 - 1)) e ∙ min-eq_left most) ∙ sym (ap (λ (t : List (List Talk)). min (r + length (receipts_of_all t)) (2 ^ 64 - 1)) (drop_all i talks end)) ∙ count
