-- The line of an open store, and what stops leave since it was taken.
use Rattle.std.proofs.Common.{◌≡◌, ◌≤◌, ℕ, suc, Bool, true, false, List, [], ◌∷◌, length, map, take, Option, refl, sym, ap, ◌∙◌, subst, arith}
use Rattle.std.specs.Prelude.{◌-◌, if◌then◌else◌}
use Rattle.std.specs.Option.{ForSome}
use Rattle.lrs_disk.specs.Disk.{LeavesOnly}
use Rattle.lrs_disk.specs.declared.disk.Disk as disks
use Rattle.lrs_disk.proofs.Moments.{started, then_run, weaker_run}
use Rattle.lrs_journal.specs.Journal.{IsSynced, StandsForFrames, TellsAlike}
pub use Rattle.lrs_journal.proofs.Told.{alike_both, told_on}
use Rattle.lrs_journal.proofs.Told.{alike_self}
use Rattle.lrs_record.specs.Entries.{written_entry}
use Rattle.lrs_record.specs.declared.entry.Entry.{Entry}
use Rattle.lrs_hall.specs.LrsHistoryHistory.{IsLegal}
use Rattle.lrs_hall.specs.LrsMachineDesk.{Desk, HoldsPrefix, IsOnDisk, IsStoreOf, OpensOnly, history}
use Rattle.lrs_hall.specs.LrsMachineLine.{BeginsWith, Record, entries, in_doubt, opened_line, sure}
use Rattle.lrs_hall.specs.LrsMachineLinesProofs.{doubt_opened, entries_opened}
use Rattle.lrs_hall.specs.LrsMachinePrefixesProofs.{prefix_less}
use Rattle.lrs_hall.proofs.Lines.{begins_length, begins_self, begins_take, sure_begins}
use Rattle.lrs_app.specs.ClosingSteps.{StopsFrom}
use Rattle.lrs_app.specs.Disks.{AnyStopLeaves, LeavesFinal, taken_now}
use Rattle.lrs_app.specs.Steps.{DoubtsOnly, Continues, IsOpened}
use Rattle.lrs_console.specs.declared.ending.Ending.{Ending}

-- ---- the line of an opening

opened_length : (moment : ℕ) (h : List Entry) → length (opened_line moment h) ≡ length h
opened_length moment [] = refl
opened_length moment (e ∷ h) = ap (λ (n : ℕ). suc n) (opened_length moment h)

-- without doubt all entries stand
sure_all : (line : List Record) → in_doubt line ≡ false → sure line ≡ length (entries line)
sure_all line settled = ap (λ (b : Bool). if b then length (entries line) - 1 else length (entries line)) settled

-- ---- what is told of one disk and of another

pub still_told : (a b : Option (List ℕ)) (P : Type 0) → TellsAlike a b → ForSome b (λ _. P) → ForSome a (λ _. P)
still_told a b P alike holds x e =
    let t = told_on a b x alike e in
    holds t.0 t.1

-- ---- an open desk

pub opened_history : {D : Type 0} (desk : Desk D) (h : List Entry) → desk.line ≡ opened_line desk.opened_at h → history desk ≡ h
opened_history desk h line = ap entries line ∙ entries_opened desk.opened_at h

-- a desk was opened, whose line is that of an opening
pub opened_of : {D : Type 0} (d : disks.Ghosts D) (desk : Desk D) (h : List Entry) → desk.line ≡ opened_line desk.opened_at h → desk.opened_at ≡ d.time desk.disk → IsLegal desk.limit h
    → IsOnDisk d.told d.image d.time d.image_since desk → IsOpened d desk
opened_of d desk h line moment legal durable =
    let same = opened_history desk h line in
    record {
      line = line ∙ ap (opened_line desk.opened_at) (sym same);
      moment = moment;
      legal = subst (λ (g : List Entry). IsLegal desk.limit g) (sym same) legal;
      durable = durable;
    }

module _ {D : Type 0} (d : disks.Ghosts D) (desk : Desk D) (opened : IsOpened d desk) where
  pub opened_settled : in_doubt desk.line ≡ false
  opened_settled = ap in_doubt opened.line ∙ doubt_opened desk.opened_at (history desk)

  pub opened_sure : sure desk.line ≡ length (history desk)
  opened_sure = sure_all desk.line opened_settled

  pub opened_records : length desk.line ≡ length (history desk)
  opened_records = ap length opened.line ∙ opened_length desk.opened_at (history desk)

  -- nothing is in doubt
  pub still_doubts : (end : Ending) → DoubtsOnly desk desk end
  still_doubts end doubt = absurd (let no : true ≡ false = sym doubt ∙ opened_settled in cc)

  -- what a crash now leaves
  pub opened_stands : (c : List ℕ) → d.image desk.disk c → IsStoreOf c desk.limit (history desk)
  opened_stands c left = (
    subst (λ (b : Bool). StandsForFrames desk.limit b (map written_entry (history desk)) c) opened_settled (opened.durable.each c left),
    opened.legal,
  )

-- the whole history is a front of it
pub whole_prefix : (limit : ℕ) (h : List Entry) (c : List ℕ) → IsStoreOf c limit h → HoldsPrefix limit (length h) h c
whole_prefix limit h c stands = (
  length h,
  omega arith,
  omega arith,
  subst (λ (g : List Entry). IsStoreOf c limit g) (sym (begins_take h h (begins_self h))) stands,
)

pub prefix_whole : (limit least : ℕ) (h : List Entry) (c : List ℕ) → length h ≤ least → HoldsPrefix limit least h c → IsStoreOf c limit h
prefix_whole limit least h c le held =
    let low = held.1 in
    let high = held.2 in
    let all : held.0 ≡ length h = omega (arith, le, low, high) in
    subst (λ (g : List Entry). IsStoreOf c limit g) (ap (λ (n : ℕ). take n h) all ∙ begins_take h h (begins_self h)) held.3

-- ---- stops

module _ {D : Type 0} (d : disks.Ghosts D) (counts_now : (x : D) (t : ℕ) (c : List ℕ) → t ≤ d.time x → d.image x c → d.image_since x t c)
    (only_now : (x : D) (c : List ℕ) → d.image_since x (d.time x) c → d.image x c) where
  -- an open desk that is left alone
  pub still_goes : (desk : Desk D) → IsOpened d desk → Continues d desk desk
  still_goes desk opened =
      let all = opened_sure d desk opened in
      record {
        limit = refl;
        begins = begins_self desk.line;
        tells = alike_self (d.told desk.disk);
        later = omega arith;
        stops = λ told is. started d.time d.image_since d.image counts_now only_now desk.disk (HoldsPrefix desk.limit (sure desk.line) (history desk))
            (λ c left. prefix_less desk.limit (length (history desk)) (sure desk.line) (history desk) c (omega (arith, all))
            (whole_prefix desk.limit (history desk) c (opened_stands d desk opened c left)));
      }

  -- acts on an open desk, and its closing
  pub stops_from : (desk mid : Desk D) (disk : D) → IsOpened d desk → Continues d desk mid
      → ForSome (d.told mid.disk) (λ _. LeavesOnly d.time d.image_since mid.disk disk (HoldsPrefix mid.limit (sure mid.line) (history mid)))
      → StopsFrom d desk disk (history mid)
  stops_from desk mid disk opened on closing told is =
      let there = told_on (d.told desk.disk) (d.told mid.disk) told on.tells is in
      let all = opened_sure d desk opened in
      let more = sure_begins desk.line mid.line on.begins in
      then_run d.time d.image_since d.image counts_now only_now desk.disk mid.disk disk (HoldsPrefix desk.limit (length (history desk)) (history mid))
      (HoldsPrefix mid.limit (sure mid.line) (history mid))
      (weaker_run d.time d.image_since d.image counts_now only_now desk.disk mid.disk (HoldsPrefix desk.limit (sure desk.line) (history mid))
      (HoldsPrefix desk.limit (length (history desk)) (history mid)) (on.stops told is)
      (λ c held. prefix_less desk.limit (sure desk.line) (length (history desk)) (history mid) c (omega (arith, all)) held)) (closing there.0 there.1)
      (λ c held. prefix_less desk.limit (sure mid.line) (length (history desk)) (history mid) c (omega (arith, all, more))
      (subst (λ (l : ℕ). HoldsPrefix l (sure mid.line) (history mid) c) on.limit held))

  -- the opening before them
  pub stops_since : (first : D) (desk : Desk D) (disk : D) (final : List Entry) → BeginsWith (history desk) final
      → IsSynced d.told d.image first → OpensOnly d.told d.image d.time d.image_since first desk.disk (λ bytes after. IsStoreOf after desk.limit (history desk))
      → TellsAlike (d.told first) (d.told desk.disk) → StopsFrom d desk disk final
      → ForSome (d.told first) (λ _. AnyStopLeaves d (taken_now d first) disk (HoldsPrefix desk.limit (length (history desk)) final))
  stops_since first desk disk final begins synced opens alike stops told is =
      let there = told_on (d.told first) (d.told desk.disk) told alike is in
      let len = begins_length (history desk) final begins in
      (then_run d.time d.image_since d.image counts_now only_now first desk.disk disk (HoldsPrefix desk.limit (length (history desk)) final)
      (HoldsPrefix desk.limit (length (history desk)) final)
      (weaker_run d.time d.image_since d.image counts_now only_now first desk.disk (λ after. IsStoreOf after desk.limit (history desk))
      (HoldsPrefix desk.limit (length (history desk)) final) (opens synced told is)
      (λ c stands. (
        length (history desk),
        omega arith,
        len,
        subst (λ (h : List Entry). IsStoreOf c desk.limit h) (sym (begins_take (history desk) final begins)) stands,
      ))) (stops there.0 there.1) (λ c held. held)).each

  -- what is left of an open store is left of the disk that was taken
  pub leaves_since : (first : D) (desk : Desk D) (disk : D) (final : List Entry) (n : ℕ) (end : Ending) → BeginsWith (history desk) final
      → IsSynced d.told d.image first → OpensOnly d.told d.image d.time d.image_since first desk.disk (λ bytes after. IsStoreOf after desk.limit (history desk))
      → TellsAlike (d.told first) (d.told desk.disk) → StopsFrom d desk disk final
      → d.time first ≤ d.time desk.disk → LeavesFinal d (taken_now d desk.disk) disk desk.limit (history desk) final n end
      → LeavesFinal d (taken_now d first) disk desk.limit (history desk) final n end
  leaves_since first desk disk final n end begins synced opens alike stops later leaves = record {
    legal = leaves.legal;
    counts = leaves.counts;
    later = let since = leaves.later in omega (arith, later, since);
    holds = still_told (d.told first) (d.told desk.disk) _ alike leaves.holds;
    stops = stops_since first desk disk final begins synced opens alike stops;
    closed = λ well. still_told (d.told first) (d.told desk.disk) _ alike (leaves.closed well);
  }
