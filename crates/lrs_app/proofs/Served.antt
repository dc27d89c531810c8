-- What a store is that several workers have served, once it was closed.
use Rattle.std.proofs.Common.{suc, ◌≡◌, ◌≢◌, ◌<◌, ◌≤◌, ◌+◌, ◌∷◌, [], ℕ, List, length, map, true, false, IfSome, refl, sym, ap, ◌∙◌, subst, inl, inr, ⊎_elim, arith}
use Rattle.std.specs.List.{AllByRecursion, Any}
use Rattle.std.specs.Option.{ForSome}
use Rattle.lrs_disk.specs.Disk.{LeavesOnly}
use Rattle.lrs_disk.specs.Door.{DoorState, IsFresh}
use Rattle.lrs_disk.specs.Faults.{Rises}
use Rattle.lrs_disk.specs.declared.disk.Disk as disks
use Rattle.lrs_journal.specs.Journal.{IsSynced, TellsAlike}
use Rattle.lrs_journal.specs.Store.{Stands}
use Rattle.lrs_record.specs.Entries.{written_entry}
use Rattle.lrs_hall.specs.LrsHistoryHistory.{IsLegal}
use Rattle.lrs_record.specs.declared.entry.Entry.{Entry}
use Rattle.lrs_hall.specs.LrsMachineDesk.{Desk, HoldsPrefix, IsStoreOf, KeepsLine, LeavesStore, OpensOnly, history}
use Rattle.lrs_hall.specs.LrsMachineLine.{Record, entries, in_doubt, opened_line, sure}
use Rattle.lrs_hall.specs.Laws.{IsKept}
use Rattle.lrs_hall.specs.Serving.{AreWithin, EndsServing, Tide, all_receipts, tide_at}
use Rattle.lrs_hall.specs.Talks.{Talk}
use Rattle.lrs_hall.specs.Workers.{AreStints, ServesDoors, Stint, end_of, end_with}
use Rattle.lrs_hall.specs.declared.serving.ServeEnd.{ServeEnd}
use Rattle.lrs_hall.specs.declared.serving.ServeEnd.TheVariants as serve
use Rattle.lrs_hall.proofs.Lines.{begins_self, entries_begin}
use Rattle.lrs_hall.proofs.Once.{keeps_promises}
use Rattle.lrs_app.specs.ClosingSteps.{StopsFrom}
use Rattle.lrs_app.specs.Disks.{Holds, HoldsIn, LeavesFinal, taken_now}
use Rattle.lrs_app.specs.Service.{Doors, HadDoors, HoldsAfter, HoldsServed, ending_of_serving, receipts_of_all}
use Rattle.lrs_app.specs.ServeSteps.{ServesDesk, ServesHad, ServesOpened}
use Rattle.lrs_app.specs.Run.{HasEndingCause, HasLobbyCause, ServesDisk}
use Rattle.lrs_app.specs.Steps.{Continues, IsOpened}
use Rattle.lrs_app.proofs.Alone.{alone_serves}
use Rattle.lrs_app.proofs.Opened.{closed_final}
use Rattle.lrs_app.proofs.Openings.{leaves_since, opened_records, opened_settled, still_told, stops_from, stops_since, told_on}
use Rattle.lrs_app.proofs.Serving.{behind_all, doorless_cause, doorless_disk, holds_whole, of_all, served_disk, true_false, well_served, within_wider}
use Rattle.lrs_console.specs.declared.ending.Ending.{Ending}
use Rattle.lrs_console.specs.declared.ending.Ending.TheVariants as ending

-- ---- a door that failed

any_next : {A : Type 0} (P : A → Type 0) (x : A) (xs : List A) → Any P xs → Any P (x ∷ xs)
any_next P x xs any = (suc any.0, any.1, (let near = any.2 in omega (arith, near)), any.3, any.4)

behind_memory : (e : ServeEnd) → end_with serve.Memory e ≡ serve.DoorFault → e ≡ serve.DoorFault
behind_memory serve.DoorFault is = refl
behind_memory serve.Done is = absurd (let no : ⊥ = cc is in no)
behind_memory serve.Memory is = absurd (let no : ⊥ = cc is in no)

-- if they ended with a door's fault, the door of a worker has failed
door_failed : (limit : ℕ) (line : List Record) (opened : ℕ) (start end : Tide) (connections : ℕ) (seed : List ℕ) (n : ℕ) (stints : List Stint) → AreStints limit line opened start end connections seed n stints
    → AllByRecursion IsFresh (map (λ (s : Stint). s.before) stints) → end_of (map (λ (s : Stint). s.end) stints) ≡ serve.DoorFault → Any (λ (d : DoorState). 0 < d.faults) (map (λ (s : Stint). s.behind) stints)
door_failed limit line opened start end connections seed n [] all fresh is = absurd (let no : ⊥ = cc is in no)
door_failed limit line opened start end connections seed n (s ∷ stints) all fresh is = by_end s.end all.0.why is (λ more. door_failed limit line opened start end connections seed (n + 1) stints all.1 fresh.1 more)
  where
    by_end : (e : ServeEnd) → EndsServing connections (length s.talks) s.before s.behind e → end_with e (end_of (map (λ (t : Stint). t.end) stints)) ≡ serve.DoorFault
        → (end_of (map (λ (t : Stint). t.end) stints) ≡ serve.DoorFault → Any (λ (d : DoorState). 0 < d.faults) (map (λ (t : Stint). t.behind) stints))
        → Any (λ (d : DoorState). 0 < d.faults) (s.behind ∷ map (λ (t : Stint). t.behind) stints)
    by_end serve.Done why is more = any_next (λ (d : DoorState). 0 < d.faults) s.behind (map (λ (t : Stint). t.behind) stints) (more is)
    by_end serve.DoorFault why is more =
        let none = fresh.0.no_fault in
        let failed : 0 < s.behind.faults = ⊎_elim (λ h. omega (arith, none, h)) (λ h. omega (arith, h)) why.2 in
        (0, s.behind, omega arith, refl, failed)
    by_end serve.Memory why is more = any_next (λ (d : DoorState). 0 < d.faults) s.behind (map (λ (t : Stint). t.behind) stints) (more (behind_memory (end_of (map (λ (t : Stint). t.end) stints)) is))

served_cause : (limit : ℕ) (opened line : List Record) (start end : Tide) (connections : ℕ) (seed : List ℕ) (openings closings : List DoorState) (talks : List (List Talk)) (why : ServeEnd) (address : List ℕ) (workers : ℕ) (before after : Doors)
    → ServesDoors limit opened line start end connections seed openings closings talks why → HadDoors address workers openings closings before after → HasLobbyCause before after (ending_of_serving why talks)
served_cause limit opened line start end connections seed openings closings talks serve.Done address workers before after serves doors = λ e. cc
served_cause limit opened line start end connections seed openings closings talks serve.Memory address workers before after serves doors = λ e. cc
served_cause limit opened line start end connections seed openings closings talks serve.DoorFault address workers before after serves doors = λ e.
    doors.counts.failed
    (subst (λ (ds : List DoorState). Any (λ (d : DoorState). 0 < d.faults) ds) serves.doors_behind
    (door_failed limit line (length opened) start end connections seed 1 serves.stints serves.each (subst (λ (ds : List DoorState). AllByRecursion IsFresh ds) (sym serves.doors_before) doors.fresh) (sym serves.ended)))

-- ---- what each response promises

promises : (now : ℕ) (since : ℕ → List ℕ → Type 0) → ((t u : ℕ) (c : List ℕ) → t ≤ u → since u c → since t c) → (limit : ℕ) (line : List Record) (opened : ℕ) (start end : Tide) (connections : ℕ) (seed : List ℕ) (n : ℕ) (stints : List Stint)
    → KeepsLine limit now since line → 1 ≤ opened → AreStints limit line opened start end connections seed n stints
    → AllByRecursion (λ (of_one : List Talk). AllByRecursion (IsKept limit since line) (all_receipts of_one)) (map (λ (s : Stint). s.talks) stints)
promises now since later limit line opened start end connections seed n [] kept some all = tt
promises now since later limit line opened start end connections seed n (s ∷ stints) kept some all =
    (keeps_promises now since later limit line s.talks all.0.links _ _ kept some all.0.on_links, promises now since later limit line opened start end connections seed (n + 1) stints kept some all.1)

-- ---- closing

module _ {D : Type 0} (d : disks.Ghosts D) (counts_now : (x : D) (t : ℕ) (c : List ℕ) → t ≤ d.time x → d.image x c → d.image_since x t c)
    (only_now : (x : D) (c : List ℕ) → d.image_since x (d.time x) c → d.image x c) (since_later : (x : D) (t u : ℕ) (c : List ℕ) → t ≤ u → d.image_since x u c → d.image_since x t c)
    (desk mid : Desk D) (disk : D) (address : List ℕ) (workers connections : ℕ) (seed : List ℕ) (before after : Doors) (talks : List (List Talk)) (n : ℕ) (end : Ending)
    (opened : IsOpened d desk) (on : Continues d desk mid) (count : n ≡ length (history mid)) (legal : IsLegal mid.limit (history mid))
    (within : AreWithin (tide_at d.fault_count d.time desk.disk) (tide_at d.fault_count d.time mid.disk) (receipts_of_all talks)) (grown : d.fault_count desk.disk ≤ d.fault_count mid.disk)
    (risen : d.fault_count mid.disk ≤ d.fault_count disk) (passed : d.time mid.disk ≤ d.time disk)
    (stops : ForSome (d.told mid.disk) (λ _. LeavesOnly d.time d.image_since mid.disk disk (HoldsPrefix mid.limit (sure mid.line) (history mid))))
    (keeps : ForSome (d.told mid.disk) (λ _. KeepsLine mid.limit (d.time disk) (d.image_since disk) mid.line)) where
  some_records : 1 ≤ length desk.line
  some_records =
      let some = opened.legal.0 in
      let all = opened_records d desk opened in
      omega (arith, some, all)

  -- what is the same however the closing ends
  served_with : (openings closings : List DoorState) (why : ServeEnd) (last : Ending) → ServesDoors desk.limit desk.line mid.line (tide_at d.fault_count d.time desk.disk) (tide_at d.fault_count d.time mid.disk) connections seed openings closings talks why
      → (last ≡ ending.DiskFault → in_doubt mid.line ≡ true)
      → (last ≢ ending.DiskFault → d.fault_count disk ≡ d.fault_count mid.disk)
      → ForSome (d.told mid.disk) (λ _. HoldsAfter last (in_doubt mid.line) (d.told disk) desk.limit (history mid))
      → (last ≢ ending.DiskFault → (c : List ℕ) → d.image disk c → Stands c mid.limit (map written_entry (history mid)))
      → HoldsServed d (taken_now d desk.disk) disk desk.limit (history desk) connections seed openings closings talks n why last
  served_with openings closings why last serves doubtful well holds durable =
      let here : IsLegal desk.limit (history mid) = subst (λ (l : ℕ). IsLegal l (history mid)) on.limit legal in
      let same = opened.moment in
      let on_later = on.later in
      let line : desk.line ≡ opened_line (d.time desk.disk) (history desk) = opened.line ∙ ap (λ (t : ℕ). opened_line t (history desk)) same in
      let begun = subst (λ (l : List Record). ServesDoors desk.limit l mid.line (tide_at d.fault_count d.time desk.disk) (tide_at d.fault_count d.time mid.disk) connections seed openings closings talks why) line serves in
      record {
        line = mid.line;
        legal = here;
        counts = count;
        began = tide_at d.fault_count d.time desk.disk;
        served = tide_at d.fault_count d.time mid.disk;
        tides = ((omega arith, omega arith), (grown, on_later), (risen, passed));
        serves = begun;
        alone = alone_serves desk.limit (opened_line (d.time desk.disk) (history desk)) mid.line (tide_at d.fault_count d.time desk.disk) (tide_at d.fault_count d.time mid.disk) connections seed openings closings talks why begun;
        within = within_wider (tide_at d.fault_count d.time desk.disk) (tide_at d.fault_count d.time mid.disk) (tide_at d.fault_count d.time desk.disk)
            (tide_at d.fault_count d.time disk) (receipts_of_all talks) (omega arith) (omega arith) risen passed within;
        doubtful = doubtful;
        well = well;
        holds = still_told (d.told desk.disk) (d.told mid.disk) _ on.tells holds;
        stops = λ told is. (stops_from d counts_now only_now desk mid disk opened on stops told is).each;
        kept = λ told is.
            let t = told_on (d.told desk.disk) (d.told mid.disk) told on.tells is in
            of_all (IsKept desk.limit (d.image_since disk) mid.line) talks
            (subst (λ (ts : List (List Talk)). AllByRecursion (λ (of_one : List Talk). AllByRecursion (IsKept desk.limit (d.image_since disk) mid.line) (all_receipts of_one)) ts) serves.all_talks
            (promises (d.time disk) (d.image_since disk) (λ a b c le left. since_later disk a b c le left) desk.limit mid.line (length desk.line) (tide_at d.fault_count d.time desk.disk) (tide_at d.fault_count d.time mid.disk) connections seed 1 serves.stints
            (subst (λ (l : ℕ). KeepsLine l (d.time disk) (d.image_since disk) mid.line) on.limit (keeps t.0 t.1)) some_records serves.each));
        stops_now = λ told is image left.
            let t = told_on (d.told desk.disk) (d.told mid.disk) told on.tells is in
            subst (λ (l : ℕ). HoldsPrefix l (sure mid.line) (history mid) image) on.limit
            ((stops t.0 t.1).each image (counts_now disk (d.time mid.disk) image passed left));
        closed = λ well told is image left. (
          subst (λ (l : ℕ). Stands image l (map written_entry (history mid))) on.limit (durable well image left),
          here,
        );
      }

  stops_here : StopsFrom d desk disk (history mid)
  stops_here = stops_from d counts_now only_now desk mid disk opened on stops

  module _ (holds : ForSome (d.told mid.disk) (λ _. LeavesStore d.told disk mid.limit false (history mid)))
      (durable : (c : List ℕ) → d.image disk c → Stands c mid.limit (map written_entry (history mid)))
      (kept : d.fault_count disk ≡ d.fault_count mid.disk) where
    leaves : mid ≡ desk → LeavesFinal d (taken_now d desk.disk) disk desk.limit (history desk) (history desk) n end
    leaves same =
        subst (λ (h : List Entry). LeavesFinal d (taken_now d desk.disk) disk desk.limit (history desk) h n end) (ap (λ (m : Desk D). history m) same)
        (closed_final d counts_now only_now desk mid disk opened on n count passed legal stops end holds durable)

    stops_same : mid ≡ desk → StopsFrom d desk disk (history desk)
    stops_same same = subst (λ (h : List Entry). StopsFrom d desk disk h) (ap (λ (m : Desk D). history m) same) stops_here

    had_doors : ServesHad (tide_at d.fault_count d.time) desk mid address workers connections seed before after talks end → ServesOpened d desk disk address workers connections seed before after talks n end
    unfolding served_with
    had_doors had = ⊎_elim
        (λ serves. (
          subst (λ (e : Ending). HasLobbyCause before after e) (sym had.ended)
              (served_cause desk.limit desk.line mid.line (tide_at d.fault_count d.time desk.disk) (tide_at d.fault_count d.time mid.disk) connections seed had.openings had.closings talks had.why address workers before after serves had.doors),
          inr (inr (record {
            openings = had.openings;
            closings = had.closings;
            doors = had.doors;
            why = had.why;
            ended = inl had.ended;
            served = served_with had.openings had.closings had.why end serves (λ is. absurd (well_served had.why talks (sym had.ended ∙ is))) (λ _. kept)
                (λ told is. subst (λ (e : Ending). HoldsAfter e (in_doubt mid.line) (d.told disk) desk.limit (history mid)) (sym had.ended)
                (holds_whole had.why talks (in_doubt mid.line) (d.told disk) desk.limit (history mid)
                (subst (λ (l : ℕ). Holds (d.told disk) l (history mid)) on.limit (holds told is)))) (λ well. durable);
            begins = entries_begin desk.line mid.line on.begins;
            stops = stops_here;
          })),
        ))
        (λ none.
        let ended : end ≡ ending.Memory = had.ended ∙ ap (λ (w : ServeEnd). ending_of_serving w talks) none.wanting in (
          subst (λ (e : Ending). HasLobbyCause before after e) (sym ended) (λ e. cc),
          inr (inl (record {
            openings = had.openings;
            doors = subst (λ (ds : List DoorState). HadDoors address workers had.openings ds before after) none.doors had.doors;
            leaves = leaves none.desk;
            stops = stops_same none.desk;
            silent = none.silent;
            wanting = ended;
          })),
        ))
        had.serves

    -- the store was closed
    pub closed : ServesDesk (tide_at d.fault_count d.time) desk mid address workers connections seed before after talks end → ServesOpened d desk disk address workers connections seed before after talks n end
    closed serves = ⊎_elim
        (λ none. (
          doorless_cause address workers before after end none.0,
          inl (record { none = none.0; leaves = leaves none.2; stops = stops_same none.2; silent = none.1 }),
        )) had_doors serves

  -- the store failed at the closing
  pub failed : in_doubt mid.line ≡ true → ForSome (d.told mid.disk) (λ _. LeavesStore d.told disk mid.limit true (history mid))
      → Rises (d.fault_count mid.disk) (d.fault_count disk)
      → ServesDesk (tide_at d.fault_count d.time) desk mid address workers connections seed before after talks end
      → ServesOpened d desk disk address workers connections seed before after talks n ending.DiskFault
  unfolding served_with
  failed doubt holds rises serves = ⊎_elim (λ none. absurd (idle none.2)) (λ had. ⊎_elim
      (λ doors. (
        (λ e. cc),
        inr (inr (record {
          openings = had.openings;
          closings = had.closings;
          doors = had.doors;
          why = had.why;
          ended = inr (refl, behind_all (tide_at d.fault_count d.time desk.disk) (tide_at d.fault_count d.time mid.disk) (receipts_of_all talks) (d.fault_count disk) within rises);
          served = served_with had.openings had.closings had.why ending.DiskFault doors (λ is. doubt) (λ well. absurd (well refl))
              (λ told is. (doubt, subst (λ (l : ℕ). HoldsIn true (d.told disk) l (history mid)) on.limit (holds told is))) (λ well. absurd (well refl));
          begins = entries_begin desk.line mid.line on.begins;
          stops = stops_here;
        })),
      ))
      (λ none. absurd (idle none.desk)) had.serves) serves
    where
      idle : mid ≡ desk → ⊥
      idle same = true_false (sym doubt ∙ ap (λ (m : Desk D). in_doubt m.line) same ∙ opened_settled d desk opened)

pub closed_cause : {D : Type 0} (tide : D → Tide) (desk mid : Desk D) (address : List ℕ) (workers connections : ℕ) (seed : List ℕ) (before after : Doors) (talks : List (List Talk)) (end : Ending) (m k : ℕ)
    → ServesDesk tide desk mid address workers connections seed before after talks end → HasEndingCause m k 0 0 end
closed_cause tide desk mid address workers connections seed before after talks end m k serves = ⊎_elim (λ none. doorless_disk address workers before after end m k none.0)
    (λ had. subst (λ (e : Ending). HasEndingCause m k 0 0 e) (sym had.ended) (served_disk had.why talks m k)) serves

-- ---- opening

-- what serve does over a store that was opened
pub opened_serves : {D : Type 0} (d : disks.Ghosts D) (counts_now : (x : D) (t : ℕ) (c : List ℕ) → t ≤ d.time x → d.image x c → d.image_since x t c)
    (only_now : (x : D) (c : List ℕ) → d.image_since x (d.time x) c → d.image x c) (first : D) (desk : Desk D) (disk : D) (address : List ℕ) (workers connections : ℕ)
    (seed : List ℕ) (before after : Doors) (talks : List (List Talk)) (n : ℕ) (end : Ending)
    → IfSome (d.told first) (λ bytes. IsStoreOf bytes desk.limit (history desk)) → IsSynced d.told d.image first
    → OpensOnly d.told d.image d.time d.image_since first desk.disk (λ bytes after. IsStoreOf after desk.limit (history desk))
    → TellsAlike (d.told first) (d.told desk.disk) → d.fault_count desk.disk ≡ d.fault_count first → d.time first ≤ d.time desk.disk
    → ServesOpened d desk disk address workers connections seed before after talks n end
    → ServesDisk d (taken_now d first) disk address workers connections seed before after talks n end
opened_serves d counts_now only_now first desk disk address workers connections seed before after talks n end store synced opens alike kept moment serves = (
  serves.0,
  inr (⊎_elim (λ none. inl (record {
    limit = desk.limit;
    opened = history desk;
    store = store;
    none = none.none;
    leaves = leaves_since d counts_now only_now first desk disk (history desk) n end (begins_self (history desk)) synced opens alike none.stops moment none.leaves;
    silent = none.silent;
  })) (λ more. inr (⊎_elim (λ nobody. inl (record {
    limit = desk.limit;
    opened = history desk;
    store = store;
    openings = nobody.openings;
    doors = nobody.doors;
    leaves = leaves_since d counts_now only_now first desk disk (history desk) n end (begins_self (history desk)) synced opens alike nobody.stops moment nobody.leaves;
    silent = nobody.silent;
    wanting = nobody.wanting;
  })) (λ had.
      let s = had.served in
      let tides = s.tides in
      let early = tides.0.0 in
      let late = tides.0.1 in
      inr (record {
        limit = desk.limit;
        opened = history desk;
        store = store;
        openings = had.openings;
        closings = had.closings;
        doors = had.doors;
        why = had.why;
        ended = had.ended;
        served = record {
          line = s.line;
          legal = s.legal;
          counts = s.counts;
          began = s.began;
          served = s.served;
          tides = ((omega (arith, kept, early), omega (arith, moment, late)), tides.1, tides.2);
          serves = s.serves;
          alone = s.alone;
          within = within_wider (tide_at d.fault_count d.time desk.disk) (tide_at d.fault_count d.time disk) (tide_at d.fault_count d.time first)
              (tide_at d.fault_count d.time disk) (receipts_of_all talks) (omega (arith, kept)) moment (omega arith) (omega arith) s.within;
          doubtful = s.doubtful;
          well = s.well;
          holds = still_told (d.told first) (d.told desk.disk) _ alike s.holds;
          stops = stops_since d counts_now only_now first desk disk (entries s.line) had.begins synced opens alike had.stops;
          kept = still_told (d.told first) (d.told desk.disk) _ alike s.kept;
          stops_now = still_told (d.told first) (d.told desk.disk) _ alike s.stops_now;
          closed = λ well. still_told (d.told first) (d.told desk.disk) _ alike (s.closed well);
        };
      })) more)) serves.1),
)
