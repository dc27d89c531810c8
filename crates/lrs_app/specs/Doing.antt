-- What a command does with the disk that was taken for it, or without one, before its line is printed.
use Rattle.std.specs.Prelude.{◌≡◌, ℕ, List, [], Option, Some, None, Result, Ok, Err}
use Rattle.lrs_disk.specs.declared.disk.Disk as disks
use Rattle.lrs_disk.specs.declared.failed.Failed.{Failed}
use Rattle.lrs_disk.specs.declared.lobby.Lobby as lobbies
use Rattle.lrs_disk.specs.declared.streams.Source as sources
use Rattle.lrs_names.specs.declared.draw.Draw.{Draw}
use Rattle.lrs_record.specs.declared.entry.Entry.{Entry}
use Rattle.lrs_app.specs.Disks.{taken_now}
use Rattle.lrs_app.specs.Migrate.{HasMoveCause, MovesStore}
use Rattle.lrs_hall.specs.Draws.{Draws}
use Rattle.lrs_hall.specs.Serving.{AddsReadings, tide_at}
use Rattle.lrs_app.specs.Run.{HasEndingCause, InitOnDisk, IntakeEnds, LoadEnds, ServesDisk}
use Rattle.lrs_app.specs.Service.{CountsOn, doors, responses_of}
use Rattle.lrs_app.specs.declared.program.Done as program
use Rattle.lrs_console.specs.declared.ending.Ending.{Ending}
use Rattle.lrs_console.specs.declared.ending.Ending.TheVariants as ending

-- nothing was done, for this reason
pub record IsUndone {D : Type 0} (end : Ending) (done : program.Done D) : Type 0 where
  pub ended : done.ending ≡ end
  pub disk : done.disk ≡ None
  pub old : done.old ≡ None
  pub length : done.report.length ≡ 0
  pub talks : done.report.talks ≡ []
  pub responses : done.report.responses ≡ 0

-- the disk comes back as this one, and no connection was served
pub record GivesBackDisk {D : Type 0} (disk : D) (done : program.Done D) : Type 0 where
  pub back : done.disk ≡ Some disk
  pub old : done.old ≡ None
  pub talks : done.report.talks ≡ []
  pub responses : done.report.responses ≡ 0

-- init, with this first entry
abbrev pub InitDoes : {D : Type 0} → disks.Ghosts D → Result D Failed → ℕ → Entry → program.Done D → Type 0
InitDoes {D} d (Ok taken) limit first done = (disk : D) × GivesBackDisk disk done
    × InitOnDisk d (taken_now d taken) disk limit first done.report.length done.ending
    × HasEndingCause (d.fault_count taken) (d.fault_count disk) 0 0 done.ending
InitDoes d (Err failed) limit first done = IsUndone ending.DiskFault done

-- intake, over the input before and after it
abbrev pub IntakeDoes : {D I : Type 0} → disks.Ghosts D → sources.Ghosts I → Result D Failed → ℕ → Draw → I → I
    → program.Done D → Type 0
IntakeDoes {D} d i (Ok taken) clock draw input input_now done = (disk : D) × GivesBackDisk disk done
    × IntakeEnds d (taken_now d taken) disk (i.left input) clock draw done.report.length done.ending
    × HasEndingCause (d.fault_count taken) (d.fault_count disk) (i.fault_count input) (i.fault_count input_now)
    done.ending
IntakeDoes d i (Err failed) clock draw input input_now done = IsUndone ending.DiskFault done
    × (i.left input_now ≡ i.left input) × (i.fault_count input_now ≡ i.fault_count input)

-- load, over the lobby before and after it
abbrev pub LoadDoes : {D B E L : Type 0} → disks.Ghosts D → lobbies.Ghosts B E L → Result D Failed → ℕ → ℕ → Draws → B
    → B → program.Done D → Type 0
LoadDoes {D} d b (Ok taken) seed count draws lobby lobby_now done = (disk : D) × GivesBackDisk disk done
    × (clocks : List ℕ) × AddsReadings (b.readings lobby) (b.readings lobby_now) clocks
    × LoadEnds d (taken_now d taken) disk seed count draws clocks done.report.length done.ending
    × HasEndingCause (d.fault_count taken) (d.fault_count disk) 0 0 done.ending
LoadDoes d b (Err failed) seed count draws lobby lobby_now done = IsUndone ending.DiskFault done
    × (b.readings lobby_now ≡ b.readings lobby)

-- serve, over the lobby before and after it
abbrev pub ServeDoes : {D B E L : Type 0} → disks.Ghosts D → lobbies.Ghosts B E L → Result D Failed → List ℕ → ℕ → ℕ
    → List ℕ → B → B → program.Done D → Type 0
ServeDoes {D} d b (Ok taken) address workers connections seed lobby lobby_now done = (disk : D)
    × (done.disk ≡ Some disk)
    × (done.old ≡ None)
    × (done.report.responses ≡ responses_of done.report.talks)
    × HasEndingCause (d.fault_count taken) (d.fault_count disk) 0 0 done.ending
    × CountsOn (tide_at d.fault_count d.time taken) done.report.talks (tide_at d.fault_count d.time disk)
    × ServesDisk d (taken_now d taken) disk address workers connections seed (doors b lobby) (doors b lobby_now)
    done.report.talks done.report.length done.ending
ServeDoes d b (Err failed) address workers connections seed lobby lobby_now done =
    IsUndone ending.DiskFault done × (doors b lobby_now ≡ doors b lobby)

-- both disks come back as these, and no connection was served
pub record GivesBackBoth {D : Type 0} (old disk : D) (done : program.Done D) : Type 0 where
  pub back_old : done.old ≡ Some old
  pub back : done.disk ≡ Some disk
  pub talks : done.report.talks ≡ []
  pub responses : done.report.responses ≡ 0

-- the old disk alone comes back, as it was taken
pub record GivesBackOld {D : Type 0} (old : D) (done : program.Done D) : Type 0 where
  pub ended : done.ending ≡ ending.DiskFault
  pub back_old : done.old ≡ Some old
  pub disk : done.disk ≡ None
  pub length : done.report.length ≡ 0
  pub talks : done.report.talks ≡ []
  pub responses : done.report.responses ≡ 0

-- migrate, over the disk of the old store
abbrev pub MigrateDoes : {D : Type 0} → disks.Ghosts D → D → Result D Failed → Option ℕ → program.Done D → Type 0
MigrateDoes {D} d old (Ok new) limit done = (old_now : D) × (disk : D) × GivesBackBoth old_now disk done
    × MovesStore d (taken_now d old) (taken_now d new) old_now disk limit done.report.length done.ending
    × HasMoveCause (d.fault_count old) (d.fault_count old_now) (d.fault_count new) (d.fault_count disk) done.ending
MigrateDoes d old (Err failed) limit done = GivesBackOld old done
