-- What `migrate` leaves of its two disks, where a store is made and where none is.
use Rattle.std.proofs.Common.{◌≡◌, ◌≢◌, ◌⊎◌, ◌<◌, ◌≤◌, ℕ, false, List, length, map, Option, Some, None, IfSome, refl, sym, ap, ◌∙◌, subst, inl, inr, ⊎_elim, arith}
use Rattle.std.specs.Option.{ForSome}
use Rattle.lrs_disk.specs.Disk.{LeavesOnly}
use Rattle.lrs_disk.specs.Faults.{Rises}
use Rattle.lrs_disk.specs.declared.disk.Disk as disks
use Rattle.lrs_disk.proofs.Moments.{then_run}
use Rattle.lrs_journal.specs.Builder.{IsBuilt}
use Rattle.lrs_journal.specs.Create.{IsOpenTo, IsUntouched}
use Rattle.lrs_journal.specs.Journal.{IsSynced, TellsAlike}
use Rattle.lrs_journal.specs.Store.{HasNoHeader, Stands}
use Rattle.lrs_record.specs.Entries.{written_entry}
use Rattle.lrs_record.specs.declared.entry.Entry.{Entry}
use Rattle.lrs_hall.specs.LrsHistoryHistory.{IsLegal}
use Rattle.lrs_hall.specs.LrsMachineDesk.{Desk, HoldsPrefix, IsOnDisk, LeavesStore, OpensOnly, history}
use Rattle.lrs_hall.specs.LrsMachineLine.{opened_line, sure}
use Rattle.lrs_hall.specs.LrsMachineLinesProofs.{some_same}
use Rattle.lrs_hall.specs.LrsMachineMigrating.{chosen, BuildsOnly, IsMigrateRefused, IsMovable, IsMovedOrNone, SparesMovable, StandsForEntries}
use Rattle.lrs_hall.specs.LrsMachineMigratingMigrateRefused.{MigrateRefused}
use Rattle.lrs_hall.specs.LrsMachineMigratingMigrateRefusedTheVariants as refused
use Rattle.lrs_app.specs.Disks.{AnyStopLeaves, taken_now}
use Rattle.lrs_app.specs.Migrate.{EndsUnmoved, HasMoveCause, IfBoth, IsOnlyRead, IsUnmade, IsUnmadeOrSame, LeavesMoved, LeavesUnmoved, TellsRoom, ending_of_migration}
use Rattle.lrs_app.proofs.Openings.{opened_history, opened_of, opened_sure, prefix_whole, told_on}
use Rattle.lrs_app.proofs.Taking.{if_some}
use Rattle.lrs_console.specs.declared.ending.Ending.{Ending}
use Rattle.lrs_console.specs.declared.ending.Ending.TheVariants as ending

-- what is so of what both tell
if_both : (old new : Option (List ℕ)) (P : List ℕ → List ℕ → Type 0) → ((was : List ℕ) → old ≡ Some was → (bytes : List ℕ) → new ≡ Some bytes → P was bytes) → IfBoth old new P
if_both None new P holds = tt
if_both (Some was) None P holds = tt
if_both (Some was) (Some bytes) P holds = holds was refl bytes refl

-- ---- the old store

module _ {D : Type 0} (d : disks.Ghosts D) (old back : D) (synced : IsSynced d.told d.image old) where
  -- the old disk was only read
  pub only_read : d.told back ≡ d.told old → OpensOnly d.told d.image d.time d.image_since old back (λ bytes after. after ≡ bytes) → d.time old ≤ d.time back
      → IsOnlyRead d (taken_now d old) back
  only_read same still later = record {
    later = later;
    same = same;
    stops = λ bytes told. (still synced bytes told).each;
  }

  -- it was left as it was taken
  pub left_alone : ((x : D) (c : List ℕ) → d.image_since x (d.time x) c → d.image x c) → IsOnlyRead d (taken_now d old) old
  left_alone only_now = record {
    later = omega arith;
    same = refl;
    stops = λ bytes told image left. some_same image bytes (sym (synced image (only_now old image left)) ∙ told);
  }

-- ---- a store was made

pub moved : {D : Type 0} (d : disks.Ghosts D) (counts_now : (x : D) (t : ℕ) (c : List ℕ) → t ≤ d.time x → d.image x c → d.image_since x t c)
    (only_now : (x : D) (c : List ℕ) → d.image_since x (d.time x) c → d.image x c) (old new : D) (desk : Desk D) (disk : D) (limit : Option ℕ) (n : ℕ) (h : List Entry)
    → IsSynced d.told d.image new → desk.line ≡ opened_line desk.opened_at h → IsLegal desk.limit h → IsMovable desk.limit h
    → ForSome (d.told old) (λ bytes. (own : ℕ) × StandsForEntries bytes own h × (desk.limit ≡ chosen limit own))
    → IfSome limit (λ most. desk.limit ≡ most) → desk.opened_at ≡ d.time desk.disk → IsOnDisk d.told d.image d.time d.image_since desk
    → ForSome (d.told new) IsOpenTo
    → BuildsOnly d.told d.image d.time d.image_since new desk.disk (IsBuilt desk.limit (map written_entry (history desk)))
    → TellsAlike (d.told new) (d.told desk.disk) → d.time new ≤ d.time desk.disk
    → ForSome (d.told desk.disk) (λ _. LeavesStore d.told disk desk.limit false (history desk))
    → ((c : List ℕ) → d.image disk c → Stands c desk.limit (map written_entry (history desk)))
    → ForSome (d.told desk.disk) (λ _. LeavesOnly d.time d.image_since desk.disk disk (HoldsPrefix desk.limit (sure desk.line) (history desk)))
    → d.time desk.disk ≤ d.time disk → n ≡ length (history desk)
    → LeavesMoved d (taken_now d old) (taken_now d new) disk limit n (ending.Migrated n)
moved d counts_now only_now old new desk disk limit n h synced line legal movable from given moment durable free builds alike later closed settled stops passed count =
    let same = opened_history desk h line in
    let opened = opened_of d desk h line moment legal durable in
    let all = opened_sure d desk opened in
    record {
      most = desk.limit;
      entries = history desk;
      ended = ap (λ (k : ℕ). ending.Migrated k) count;
      counts = count;
      some = let some = durable.opening.0 in let most = durable.opening.1 in omega (arith, some, most);
      given = given;
      store = if_some (d.told old) (λ was. (own : ℕ) × StandsForEntries was own (history desk) × (desk.limit ≡ chosen limit own))
          (subst (λ (g : List Entry). ForSome (d.told old) (λ was. (own : ℕ) × StandsForEntries was own g × (desk.limit ≡ chosen limit own))) (sym same) from);
      legal = durable.legal;
      movable = subst (λ (g : List Entry). IsMovable desk.limit g) (sym same) movable;
      free = if_some (d.told new) IsOpenTo free;
      later = omega (arith, later, passed);
      holds = λ bytes told.
          let t = told_on (d.told new) (d.told desk.disk) bytes alike told in
          closed t.0 t.1;
      stops = λ bytes told.
          let t = told_on (d.told new) (d.told desk.disk) bytes alike told in
          (then_run d.time d.image_since d.image counts_now only_now new desk.disk disk (IsBuilt desk.limit (map written_entry (history desk)))
          (HoldsPrefix desk.limit (sure desk.line) (history desk)) (builds synced bytes told (free bytes told).0) (stops t.0 t.1)
          (λ c held. inr (prefix_whole desk.limit (sure desk.line) (history desk) c (omega (arith, all)) held).0)).each;
      closed = λ bytes told image left. (settled image left, durable.legal);
    }

-- ---- no store was made

ends_unmoved : (was bytes : List ℕ) (limit : Option ℕ) (why : MigrateRefused) → IsMigrateRefused was bytes limit why → EndsUnmoved was bytes limit (ending_of_migration why)
ends_unmoved was bytes limit refused.NotAStore is = inl is
ends_unmoved was bytes limit refused.AlreadyStore is = is
ends_unmoved was bytes limit refused.Foreign is = inr is
ends_unmoved was bytes limit (refused.Damaged k) is = inl is
ends_unmoved was bytes limit (refused.IllegalEntry k) is = inr is
ends_unmoved was bytes limit (refused.Full need most) is = is
ends_unmoved was bytes limit refused.Failed is = tt
ends_unmoved was bytes limit refused.Memory is = tt

-- the numbers of Full are those of the limit
abbrev IsFullOf : Option ℕ → MigrateRefused → Type 0
IsFullOf limit why = (need most : ℕ) → why ≡ refused.Full need most → (most < need) × IfSome limit (λ given. most ≡ given)

tells_room : (limit : Option ℕ) (why : MigrateRefused) → IsFullOf limit why → TellsRoom limit (ending_of_migration why)
tells_room limit refused.NotAStore full = tt
tells_room limit refused.AlreadyStore full = tt
tells_room limit refused.Foreign full = tt
tells_room limit (refused.Damaged k) full = tt
tells_room limit (refused.IllegalEntry k) full = tt
tells_room limit (refused.Full need most) full = full need most refl
tells_room limit refused.Failed full = tt
tells_room limit refused.Memory full = tt

-- what has no header unless a disk failed
unmade : (was : List ℕ) (limit : Option ℕ) (image : List ℕ) (why : MigrateRefused) → IsMovedOrNone was limit image → (why ≢ refused.Failed → HasNoHeader image)
    → IsUnmade was limit (ending_of_migration why) image
unmade was limit image refused.NotAStore any none = none (λ e. cc)
unmade was limit image refused.AlreadyStore any none = none (λ e. cc)
unmade was limit image refused.Foreign any none = none (λ e. cc)
unmade was limit image (refused.Damaged k) any none = none (λ e. cc)
unmade was limit image (refused.IllegalEntry k) any none = none (λ e. cc)
unmade was limit image (refused.Full need most) any none = none (λ e. cc)
unmade was limit image refused.Failed any none = any
unmade was limit image refused.Memory any none = none (λ e. cc)

module _ {D : Type 0} (d : disks.Ghosts D) (reads_image : (x : D) (b : List ℕ) → d.told x ≡ Some b → d.image x b)
    (counts_now : (x : D) (t : ℕ) (c : List ℕ) → t ≤ d.time x → d.image x c → d.image_since x t c) (old new disk : D) (limit : Option ℕ) (why : MigrateRefused)
    (synced : IsSynced d.told d.image new)
    (unbegun : ForSome (d.told old) (λ was. HasNoHeader was → IsUntouched d.told d.image d.time d.image_since new disk))
    (untouched : ForSome (d.told new) (λ bytes. (IsOpenTo bytes → ⊥) → IsUntouched d.told d.image d.time d.image_since new disk))
    (stops : ForSome (d.told old) (λ was. BuildsOnly d.told d.image d.time d.image_since new disk (IsMovedOrNone was limit)))
    (none : why ≢ refused.Failed → BuildsOnly d.told d.image d.time d.image_since new disk HasNoHeader) (later : d.time new ≤ d.time disk) where
  unmoved_stops : (was : List ℕ) → d.told old ≡ Some was → (bytes : List ℕ) → d.told new ≡ Some bytes
      → AnyStopLeaves d (taken_now d new) disk (IsUnmadeOrSame was bytes limit (ending_of_migration why))
  unmoved_stops was is bytes told image left = (
    λ spared. let alone = ⊎_elim (unbegun was is) (untouched bytes told) spared in some_same image bytes (sym (synced image (alone.1.each image left)) ∙ told),
    λ free. unmade was limit image why ((stops was is synced bytes told free.0).each image left) (λ well. (none well synced bytes told free.0).each image left),
  )

  -- what is left where no store is made
  pub unmoved : ForSome (d.told old) (λ was. ForSome (d.told new) (λ bytes. IsMigrateRefused was bytes limit why)) → IsFullOf limit why
      → ForSome (d.told old) (λ was. ForSome (d.told new) (λ bytes. SparesMovable was bytes limit why))
      → TellsAlike (d.told new) (d.told disk)
      → LeavesUnmoved d (taken_now d old) (taken_now d new) disk limit 0 (ending_of_migration why)
  unmoved because full spares alike = record {
    why = why;
    ended = refl;
    counts = refl;
    later = later;
    spares = if_both (d.told old) (d.told new) (λ was bytes. SparesMovable was bytes limit why) (λ was is bytes told. spares was is bytes told);
    room = tells_room limit why full;
    because = if_both (d.told old) (d.told new) (λ was bytes. EndsUnmoved was bytes limit (ending_of_migration why))
        (λ was is bytes told. ends_unmoved was bytes limit why (because was is bytes told));
    tells = alike;
    holds = if_both (d.told old) (d.told new) (λ was bytes. ForSome (d.told disk) (IsUnmadeOrSame was bytes limit (ending_of_migration why)))
        (λ was is bytes told now reads. unmoved_stops was is bytes told now (counts_now disk (d.time new) now later (reads_image disk now reads)));
    stops = if_both (d.told old) (d.told new) (λ was bytes. AnyStopLeaves d (taken_now d new) disk (IsUnmadeOrSame was bytes limit (ending_of_migration why))) unmoved_stops;
  }

-- a disk fault is that of one of the two disks
pub move_cause : (why : MigrateRefused) (old_before old_now new_before new_now : ℕ)
    → (why ≡ refused.Failed → Rises old_before old_now ⊎ Rises new_before new_now) → HasMoveCause old_before old_now new_before new_now (ending_of_migration why)
move_cause refused.NotAStore old_before old_now new_before new_now cause is = absurd (cc is)
move_cause refused.AlreadyStore old_before old_now new_before new_now cause is = absurd (cc is)
move_cause refused.Foreign old_before old_now new_before new_now cause is = absurd (cc is)
move_cause (refused.Damaged k) old_before old_now new_before new_now cause is = absurd (cc is)
move_cause (refused.IllegalEntry k) old_before old_now new_before new_now cause is = absurd (cc is)
move_cause (refused.Full need most) old_before old_now new_before new_now cause is = absurd (cc is)
move_cause refused.Failed old_before old_now new_before new_now cause is = cause refl
move_cause refused.Memory old_before old_now new_before new_now cause is = absurd (cc is)
