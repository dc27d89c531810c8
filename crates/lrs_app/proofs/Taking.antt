-- From an open store, or one that isn't opened, to the disk that was taken.
use Rattle.std.proofs.Common.{◌≡◌, ◌≢◌, ◌≤◌, ℕ, List, Option, Some, None, IfSome, refl, sym, subst, inl, inr}
use Rattle.std.specs.Option.{ForSome}
use Rattle.lrs_disk.specs.declared.disk.Disk as disks
use Rattle.lrs_journal.specs.Journal.{IsSynced, TellsAlike}
use Rattle.lrs_names.specs.declared.draw.Draw.{Draw}
use Rattle.lrs_record.specs.declared.entry.Entry.{Entry}
use Rattle.lrs_hall.specs.LrsMachineDesk.{Desk, IsDeskRefused, IsSameStore, IsStoreOf, OpensOnly, SparesLegal, history}
use Rattle.lrs_hall.specs.LrsMachineLine.{opened_line}
use Rattle.lrs_hall.specs.LrsMachineOpeningDeskRefused.{DeskRefused}
use Rattle.lrs_hall.specs.LrsMachineOpeningDeskRefusedTheVariants as refused
use Rattle.lrs_app.specs.ClosingSteps.{ClosesTaken}
use Rattle.lrs_app.specs.Disks.{AnyStopLeaves, EndsUnopened, HoldsAsBefore, IsSpared, LeavesUnopened, taken_now}
use Rattle.lrs_app.specs.Run.{IntakeOpened}
use Rattle.lrs_app.specs.Steps.{ending_of}
use Rattle.lrs_app.proofs.Openings.{leaves_since, opened_history}
use Rattle.lrs_console.specs.declared.ending.Ending.{Ending}

-- ---- a store was opened

pub if_some : {A : Type 0} (o : Option A) (P : A → Type 0) → ForSome o P → IfSome o P
if_some None P holds = tt
if_some (Some x) P holds = holds x refl

-- the store that was opened
pub store_of : {D : Type 0} (desk : Desk D) (held : Option (List ℕ)) (h : List Entry) → desk.line ≡ opened_line desk.opened_at h
    → ForSome held (λ bytes. IsStoreOf bytes desk.limit h) → IfSome held (λ bytes. IsStoreOf bytes desk.limit (history desk))
store_of desk held h line opens =
    if_some held (λ bytes. IsStoreOf bytes desk.limit (history desk)) (subst (λ (g : List Entry). ForSome held (λ bytes. IsStoreOf bytes desk.limit g)) (sym (opened_history desk h line)) opens)

-- what intake does over a store that was opened
pub intake_since : {D : Type 0} (d : disks.Ghosts D) (counts_now : (x : D) (t : ℕ) (c : List ℕ) → t ≤ d.time x → d.image x c → d.image_since x t c)
    (only_now : (x : D) (c : List ℕ) → d.image_since x (d.time x) c → d.image x c) (first : D) (desk : Desk D) (disk : D) (left : Option (List ℕ)) (clock : ℕ)
    (draw : Draw) (n : ℕ) (end : Ending) (h : List Entry) → desk.line ≡ opened_line desk.opened_at h → ForSome (d.told first) (λ bytes. IsStoreOf bytes desk.limit h)
    → IsSynced d.told d.image first → OpensOnly d.told d.image d.time d.image_since first desk.disk (λ bytes after. IsStoreOf after desk.limit (history desk))
    → TellsAlike (d.told first) (d.told desk.disk) → d.time first ≤ d.time desk.disk → ClosesTaken d desk disk left clock draw n end
    → IntakeOpened d (taken_now d first) disk left clock draw n end
intake_since d counts_now only_now first desk disk left clock draw n end h line store synced opens alike later closes = record {
  limit = desk.limit;
  opened = history desk;
  final = closes.final;
  store = store_of desk (d.told first) h line store;
  input = closes.ends.0;
  reads = closes.ends.1;
  ends = closes.ends.2;
  leaves = leaves_since d counts_now only_now first desk disk closes.final n end closes.begins synced opens alike closes.stops later closes.leaves;
}

-- ---- no store was opened

unopened_holds : (held new : Option (List ℕ)) (why : DeskRefused) → ForSome held (λ bytes. IsDeskRefused bytes why) → (why ≢ refused.Failed → new ≡ held)
    → ForSome held (λ bytes. HoldsAsBefore bytes new) → IfSome held (λ bytes. EndsUnopened bytes new (ending_of why))
unopened_holds None new why is same left = tt
unopened_holds (Some bytes) new refused.NotAStore is same left = (is bytes refl, same (λ e. cc))
unopened_holds (Some bytes) new refused.OldFormat is same left = (is bytes refl, same (λ e. cc))
unopened_holds (Some bytes) new (refused.Damaged k) is same left = (inl (is bytes refl), same (λ e. cc))
unopened_holds (Some bytes) new (refused.IllegalEntry k) is same left = (inr (is bytes refl), same (λ e. cc))
unopened_holds (Some bytes) new refused.Failed is same left = left bytes refl
unopened_holds (Some bytes) new refused.Memory is same left = same (λ e. cc)

unopened_stops : {D : Type 0} (d : disks.Ghosts D) (first disk : D) (why : DeskRefused) (bytes : List ℕ) → d.told first ≡ Some bytes → IsSynced d.told d.image first
    → OpensOnly d.told d.image d.time d.image_since first disk IsSameStore
    → (why ≢ refused.Failed → OpensOnly d.told d.image d.time d.image_since first disk (λ bytes after. after ≡ bytes))
    → AnyStopLeaves d (taken_now d first) disk (IsSpared (ending_of why) bytes)
unopened_stops d first disk refused.NotAStore bytes told synced opens untouched = (untouched (λ e. cc) synced bytes told).each
unopened_stops d first disk refused.OldFormat bytes told synced opens untouched = (untouched (λ e. cc) synced bytes told).each
unopened_stops d first disk (refused.Damaged k) bytes told synced opens untouched = (untouched (λ e. cc) synced bytes told).each
unopened_stops d first disk (refused.IllegalEntry k) bytes told synced opens untouched = (untouched (λ e. cc) synced bytes told).each
unopened_stops d first disk refused.Failed bytes told synced opens untouched = (opens synced bytes told).each
unopened_stops d first disk refused.Memory bytes told synced opens untouched = (untouched (λ e. cc) synced bytes told).each

-- what is left where no store is opened
pub leaves_unopened : {D : Type 0} (d : disks.Ghosts D) (first disk : D) (why : DeskRefused) (end : Ending)
    → end ≡ ending_of why → ForSome (d.told first) (λ bytes. IsDeskRefused bytes why) → (why ≢ refused.Failed → d.told disk ≡ d.told first)
    → ForSome (d.told first) (λ bytes. HoldsAsBefore bytes (d.told disk)) → ForSome (d.told first) (λ bytes. SparesLegal bytes why)
    → IsSynced d.told d.image first → OpensOnly d.told d.image d.time d.image_since first disk IsSameStore
    → (why ≢ refused.Failed → OpensOnly d.told d.image d.time d.image_since first disk (λ bytes after. after ≡ bytes))
    → d.time first ≤ d.time disk → LeavesUnopened d (taken_now d first) disk 0 end
leaves_unopened d first disk why end ended is same left spares synced opens untouched later = record {
  why = why;
  ended = ended;
  counts = refl;
  later = later;
  spares = if_some (d.told first) (λ bytes. SparesLegal bytes why) spares;
  holds = subst (λ (e : Ending). IfSome (d.told first) (λ bytes. EndsUnopened bytes (d.told disk) e)) (sym ended) (unopened_holds (d.told first) (d.told disk) why is same left);
  stops = λ bytes told. subst (λ (e : Ending). AnyStopLeaves d (taken_now d first) disk (IsSpared e bytes)) (sym ended)
      (unopened_stops d first disk why bytes told synced opens untouched);
}
