-- How a loading ends on an open desk, and what it leaves on the disk that was taken.
use Rattle.std.proofs.Common.{◌≡◌, ◌⊎◌, ◌≤◌, ℕ, true, false, List, [], ◌∷◌, ◌++◌, length, map, Option, Some, None, append-nil, arith, refl, sym, subst, inl, inr, ⊎_elim}
use Rattle.std.specs.Option.{ForSome}
use Rattle.lrs_disk.specs.Disk.{LeavesOnly}
use Rattle.lrs_disk.specs.Faults.{Rises}
use Rattle.lrs_disk.specs.declared.disk.Disk as disks
use Rattle.lrs_generator.specs.Generated.{batch_count}
use Rattle.lrs_hall.specs.Draws.{Draws}
use Rattle.lrs_hall.specs.Serving.{AddsReadings}
use Rattle.lrs_hall.proofs.Lines.{entries_begin}
use Rattle.lrs_hall.specs.LrsHistoryHistory.{IsLegal}
use Rattle.lrs_journal.specs.Journal.{IsSynced, TellsAlike}
use Rattle.lrs_journal.specs.Store.{Stands}
use Rattle.lrs_hall.specs.LrsMachineDesk.{Desk, HoldsPrefix, IsStoreOf, LeavesStore, OpensOnly, history}
use Rattle.lrs_hall.specs.LrsMachineLine.{in_doubt, opened_line, sure}
use Rattle.lrs_record.specs.Entries.{written_entry}
use Rattle.lrs_record.specs.declared.entry.Entry.{Entry}
use Rattle.lrs_app.specs.ClosingSteps.{StopsFrom}
use Rattle.lrs_app.specs.Disks.{Holds, HoldsIn, LeavesUnopened, taken_now}
use Rattle.lrs_app.specs.LoadSteps.{ClosesReading, GoesOrStays, IsLoaded}
use Rattle.lrs_app.specs.Load.{LoadsFrom}
use Rattle.lrs_app.specs.Run.{HasEndingCause, LoadEnds}
use Rattle.lrs_app.specs.Steps.{Continues, HasPutCause, IsOpened}
use Rattle.lrs_app.proofs.Opened.{doubtful}
use Rattle.lrs_app.proofs.Openings.{still_goes, still_told, stops_from, stops_since, told_on}
use Rattle.lrs_app.proofs.Taking.{store_of}
use Rattle.lrs_console.specs.declared.ending.Ending.{Ending}
use Rattle.lrs_console.specs.declared.ending.Ending.TheVariants as ending

-- ---- closing

module _ {D : Type 0} (d : disks.Ghosts D) (counts_now : (x : D) (t : ℕ) (c : List ℕ) → t ≤ d.time x → d.image x c → d.image_since x t c)
    (only_now : (x : D) (c : List ℕ) → d.image_since x (d.time x) c → d.image x c) (desk mid : Desk D) (disk : D) (opened : IsOpened d desk)
    (seed n : ℕ) (draws : Draws) (before now : Option (List ℕ)) (end : Ending) (loaded : IsLoaded d seed n desk mid draws before now end)
    (number : ℕ) (count : number ≡ length (history mid)) (passed : d.time mid.disk ≤ d.time disk) (legal : IsLegal mid.limit (history mid))
    (stops : ForSome (d.told mid.disk) (λ _. LeavesOnly d.time d.image_since mid.disk disk (HoldsPrefix mid.limit (sure mid.line) (history mid)))) where
  goes_on : GoesOrStays d desk mid → Continues d desk mid
  goes_on (inl same) = subst (λ (x : Desk D). Continues d desk x) (sym same) (still_goes d counts_now only_now desk opened)
  goes_on (inr on) = on

  on : Continues d desk mid
  on = goes_on loaded.goes

  legal_here : IsLegal desk.limit (history mid)
  legal_here = subst (λ (l : ℕ). IsLegal l (history mid)) on.limit legal

  later_here : d.time desk.disk ≤ d.time disk
  later_here = let acts = on.later in omega (arith, acts, passed)

  stops_here : StopsFrom d desk disk (history mid)
  stops_here = stops_from d counts_now only_now desk mid disk opened on stops

  -- the closing went well
  pub closes_loaded : ForSome (d.told mid.disk) (λ _. LeavesStore d.told disk mid.limit false (history mid))
      → ((c : List ℕ) → d.image disk c → Stands c mid.limit (map written_entry (history mid)))
      → ClosesReading d desk disk seed n draws before now number end
  closes_loaded holds durable = (
    loaded.clocks,
    loaded.reads,
    record {
      kept = loaded.kept;
      final = history mid;
      begins = entries_begin desk.line mid.line on.begins;
      ends = loaded.ends;
      leaves = record {
        legal = legal_here;
        counts = count;
        later = later_here;
        holds = λ told is.
            let t = told_on (d.told desk.disk) (d.told mid.disk) told on.tells is in
            inl (subst (λ (l : ℕ). Holds (d.told disk) l (history mid)) on.limit (holds t.0 t.1));
        stops = λ told is. (stops_here told is).each;
        closed = λ well told is image left. (subst (λ (l : ℕ). Stands image l (map written_entry (history mid))) on.limit (durable image left), legal_here);
      };
      stops = stops_here;
    },
  )

  failed_holds : (e : Entry) → history mid ≡ loaded.kept ++ e ∷ [] → ForSome (d.told mid.disk) (λ _. LeavesStore d.told disk mid.limit true (history mid))
      → ForSome (d.told desk.disk) (λ _. Holds (d.told disk) desk.limit (history mid) ⊎ ((ending.DiskFault ≡ ending.DiskFault) × Holds (d.told disk) desk.limit loaded.kept))
  failed_holds e one holds told is =
      let t = told_on (d.told desk.disk) (d.told mid.disk) told on.tells is in
      let there : HoldsIn true (d.told disk) desk.limit (loaded.kept ++ e ∷ []) =
      subst (λ (h : List Entry). HoldsIn true (d.told disk) desk.limit h) one (subst (λ (l : ℕ). HoldsIn true (d.told disk) l (history mid)) on.limit (holds t.0 t.1)) in
      ⊎_elim (λ less. inr (refl, less)) (λ all. inl (subst (λ (h : List Entry). Holds (d.told disk) desk.limit h) (sym one) all)) (doubtful (d.told disk) desk.limit loaded.kept e there)

  -- the disk failed, and the entry of the last batch was in doubt
  pub fails_loaded : in_doubt mid.line ≡ true → ForSome (d.told mid.disk) (λ _. LeavesStore d.told disk mid.limit true (history mid))
      → ClosesReading d desk disk seed n draws before now number ending.DiskFault
  fails_loaded doubt holds =
      let lost = loaded.lost doubt in (
        loaded.clocks,
        loaded.reads,
        record {
          kept = loaded.kept;
          final = history mid;
          begins = entries_begin desk.line mid.line on.begins;
          ends = subst (λ (x : Ending). LoadsFrom desk.limit seed n 0 draws (batch_count n) loaded.clocks (history desk) loaded.kept (history mid) x) lost.0 loaded.ends;
          leaves = record {
            legal = legal_here;
            counts = count;
            later = later_here;
            holds = failed_holds lost.1.0 lost.1.1 holds;
            stops = λ told is. (stops_here told is).each;
            closed = λ well. absurd (well refl);
          };
          stops = stops_here;
        },
      )

-- ---- the disk's faults

pub closed_cause : (before mid now : ℕ) (end : Ending) → HasPutCause before mid end → now ≡ mid → HasEndingCause before now 0 0 end
closed_cause before mid now ending.DiskFault cause same = subst (λ (c : ℕ). Rises before c) (sym same) cause.1
closed_cause before mid now ending.InputFault cause same = absurd cause
closed_cause before mid now ending.Founded cause same = tt
closed_cause before mid now (ending.Kept id) cause same = tt
closed_cause before mid now (ending.Served responses) cause same = tt
closed_cause before mid now ending.OldFormat cause same = tt
closed_cause before mid now (ending.Migrated entries) cause same = tt
closed_cause before mid now (ending.Loaded statements listed) cause same = tt
closed_cause before mid now ending.Usage cause same = tt
closed_cause before mid now ending.NotAStore cause same = tt
closed_cause before mid now (ending.Damaged k) cause same = tt
closed_cause before mid now ending.AlreadyStore cause same = tt
closed_cause before mid now ending.LobbyFault cause same = tt
closed_cause before mid now ending.Memory cause same = tt
closed_cause before mid now (ending.Refused r) cause same = tt
closed_cause before mid now ending.NoId cause same = tt
closed_cause before mid now ending.TooLong cause same = tt
closed_cause before mid now (ending.Conflict id) cause same = tt
closed_cause before mid now (ending.Full need limit) cause same = tt

rises_more : (before mid now : ℕ) → before ≤ mid → Rises mid now → Rises before now
rises_more before mid now le (inl less) = inl (omega (arith, le, less))
rises_more before mid now le (inr most) = inr most

pub failed_cause : (before mid now : ℕ) (end : Ending) → HasPutCause before mid end → end ≡ ending.DiskFault → Rises mid now → Rises before now
failed_cause before mid now end cause is rises =
    let here : HasPutCause before mid ending.DiskFault = subst (λ (x : Ending). HasPutCause before mid x) is cause in
    rises_more before mid now here.0 rises

-- ---- the disk that was taken

-- what load does over a store that was opened
pub load_since : {D : Type 0} (d : disks.Ghosts D) (counts_now : (x : D) (t : ℕ) (c : List ℕ) → t ≤ d.time x → d.image x c → d.image_since x t c)
    (only_now : (x : D) (c : List ℕ) → d.image_since x (d.time x) c → d.image x c) (first : D) (desk : Desk D) (disk : D) (seed count : ℕ) (draws : Draws) (before now : Option (List ℕ))
    (n : ℕ) (end : Ending) (h : List Entry) → desk.line ≡ opened_line desk.opened_at h → ForSome (d.told first) (λ bytes. IsStoreOf bytes desk.limit h)
    → IsSynced d.told d.image first → OpensOnly d.told d.image d.time d.image_since first desk.disk (λ bytes after. IsStoreOf after desk.limit (history desk))
    → TellsAlike (d.told first) (d.told desk.disk) → d.time first ≤ d.time desk.disk → ClosesReading d desk disk seed count draws before now n end
    → (clocks : List ℕ) × AddsReadings before now clocks × LoadEnds d (taken_now d first) disk seed count draws clocks n end
load_since d counts_now only_now first desk disk seed count draws before now n end h line store synced opens alike later (clocks, reads, closes) =
    let leaves = closes.leaves in
    let since = leaves.later in (
      clocks,
      reads,
      inr (record {
        limit = desk.limit;
        opened = history desk;
        kept = closes.kept;
        final = closes.final;
        store = store_of desk (d.told first) h line store;
        ends = closes.ends;
        leaves = record {
          legal = leaves.legal;
          counts = leaves.counts;
          later = omega (arith, later, since);
          holds = still_told (d.told first) (d.told desk.disk) _ alike leaves.holds;
          stops = stops_since d counts_now only_now first desk disk closes.final closes.begins synced opens alike closes.stops;
          closed = λ well. still_told (d.told first) (d.told desk.disk) _ alike (leaves.closed well);
        };
      }),
    )

-- no store was opened, and the clock wasn't read
pub load_unopened : {D : Type 0} (d : disks.Ghosts D) (first disk : D) (seed count : ℕ) (draws : Draws) (readings : Option (List ℕ)) (end : Ending)
    → LeavesUnopened d (taken_now d first) disk 0 end
    → (clocks : List ℕ) × AddsReadings readings readings clocks × LoadEnds d (taken_now d first) disk seed count draws clocks 0 end
load_unopened d first disk seed count draws readings end leaves = ([], reads_none readings, inl (leaves, refl))
  where
    reads_none : (x : Option (List ℕ)) → AddsReadings x x []
    reads_none None = tt
    reads_none (Some a) = sym (append-nil a)
