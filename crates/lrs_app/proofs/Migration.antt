-- A run of `migrate`: what was done with the disks that were taken is what it leaves.
use Rattle.std.proofs.Common.{◌≡◌, ℕ, List, [], Option, Some, None, Result, Ok, Err, refl, sym, ap, ◌∙◌, subst}
use Rattle.lrs_disk.specs.Faults.{Rises}
use Rattle.lrs_disk.specs.Shelf.{AddsName}
use Rattle.lrs_disk.specs.declared.disk.Disk as disks
use Rattle.lrs_disk.specs.declared.failed.Failed.{Failed}
use Rattle.lrs_disk.specs.declared.shelf.Shelf as shelves
use Rattle.lrs_journal.specs.Journal.{IsSynced}
use Rattle.lrs_app.specs.Disks.{Taken, taken_now}
use Rattle.lrs_app.specs.Doing.{IsUndone, MigrateDoes}
use Rattle.lrs_app.specs.Migrate.{HasMoveCause, IsOnlyRead, MovesStore}
use Rattle.lrs_app.specs.Run.{Outside, IsTakenSecond, MigrateLeaves, MigrateRuns, PrintsEnding, SparesDoors, TakesBoth, TakesFile, taken_from}
use Rattle.lrs_app.specs.declared.program.Done as doing
use Rattle.lrs_app.specs.declared.program.Ended as program
use Rattle.lrs_app.specs.declared.program.Report.{Report}
use Rattle.lrs_app.proofs.Moving.{left_alone}
use Rattle.lrs_app.proofs.Running.{IsTakenFrom, same_taken}
use Rattle.lrs_console.specs.declared.ending.Ending.TheVariants as ending

-- what is told of a name stays
abbrev pub KeepsName : {S D : Type 0} → shelves.Ghosts S D → S → S → List ℕ → Type 0
KeepsName s shelf now name = (s.holds now name ≡ s.holds shelf name) × (s.begins now name ≡ s.begins shelf name) × (s.starts now name ≡ s.starts shelf name)

-- a file was asked for under its name: what is told of another one stays
pub keeps_other : {S D : Type 0} (s : shelves.Ghosts S D) (shelf now : S) {name file : List ℕ} (other : List ℕ) → name ≡ file → (file ≡ other → ⊥)
    → ((some : List ℕ) → (some ≡ name → ⊥) → (s.holds shelf name ≡ Some [] → s.holds shelf some ≡ Some [] → ⊥) → KeepsName s shelf now some)
    → (s.holds shelf file ≡ Some [] → s.holds shelf other ≡ Some [] → ⊥) → KeepsName s shelf now other
keeps_other s shelf now other same differ keeps =
    subst (λ (f : List ℕ). (some : List ℕ) → (some ≡ f → ⊥) → (s.holds shelf f ≡ Some [] → s.holds shelf some ≡ Some [] → ⊥) → KeepsName s shelf now some) same keeps other (λ is. differ (sym is))

module _ {D : Type 0} (d : disks.Ghosts D) (before after : Outside) (old new : List ℕ) (limit : Option ℕ) (done : doing.Done D) (ended : program.Ended D)
    (same_disk : ended.disk ≡ done.disk) (same_old : ended.old ≡ done.old) (same_report : ended.report ≡ done.report)
    (readings : after.readings ≡ before.readings) (doors : SparesDoors before after) (prints : PrintsEnding done.ending before after ended.status) where
  runs_so : (taken : Taken) → done.report.talks ≡ [] → done.report.responses ≡ 0 → IsTakenSecond before old new taken
      → MigrateLeaves d old new limit before after done.old done.disk taken done.report.length done.ending → MigrateRuns d old new limit before after ended
  runs_so taken talks responses second leaves = (
    taken,
    done.ending,
    record {
      readings = readings;
      doors = doors;
      silent = (ap (λ (r : Report). r.talks) same_report ∙ talks, ap (λ (r : Report). r.responses) same_report ∙ responses);
      second = second;
      leaves = subst (λ (x : Option D). MigrateLeaves d old new limit before after x ended.disk taken ended.report.length done.ending) (sym same_old)
          (subst (λ (x : Option D). MigrateLeaves d old new limit before after done.old x taken ended.report.length done.ending) (sym same_disk)
          (subst (λ (r : Report). MigrateLeaves d old new limit before after done.old done.disk taken r.length done.ending) (sym same_report) leaves));
      prints = prints;
    },
  )

  -- these disks come back
  back_as : (old_back back : Option D) (taken : Taken) → done.old ≡ old_back → done.disk ≡ back
      → MigrateLeaves d old new limit before after old_back back taken done.report.length done.ending
      → MigrateLeaves d old new limit before after done.old done.disk taken done.report.length done.ending
  back_as old_back back taken is_old is leaves =
      subst (λ (x : Option D). MigrateLeaves d old new limit before after x done.disk taken done.report.length done.ending) (sym is_old)
      (subst (λ (x : Option D). MigrateLeaves d old new limit before after old_back x taken done.report.length done.ending) (sym is) leaves)

  -- the old store's disk wasn't had
  pub migrates_none : IsUndone ending.DiskFault done → TakesFile old before after → Rises before.shelf_faults after.shelf_faults
      → MigrateRuns d old new limit before after ended
  migrates_none undone takes rises = runs_so (taken_from before new) undone.talks undone.responses (λ one. refl)
      (back_as None None (taken_from before new) undone.old undone.disk (takes, (undone.ended, rises, undone.length)))

  -- it was had, and then the new one's was asked for
  module _ (middle : Outside) (disk : D) (synced : IsSynced d.told d.image disk) (only_now : (x : D) (c : List ℕ) → d.image_since x (d.time x) c → d.image x c)
      (first : AddsName before.files middle.files old) (second : AddsName middle.files after.files new) (from : IsTakenFrom d before middle old (Ok disk))
      (keeps : (before.holds old ≡ Some [] → before.holds new ≡ Some [] → ⊥)
      → (middle.holds new ≡ before.holds new) × (middle.begins new ≡ before.begins new) × (middle.starts new ≡ before.starts new)) where
    both : TakesBoth old new before after
    both = (middle.files, first, second)

    as_old : taken_now d disk ≡ taken_from before old
    as_old = same_taken (d.told disk) (d.fault_count disk) (d.time disk) before.holds before.begins before.starts {name = old} {file = old} refl from.told from.begins from.starts

    pub migrates : (taken : Result D Failed) → IsTakenFrom d middle after new taken → MigrateDoes d disk taken limit done → MigrateRuns d old new limit before after ended
    migrates (Ok fresh) from_new does = runs_so (taken_now d fresh) does.2.talks does.2.responses
        (λ one. let k = keeps one in same_taken (d.told fresh) (d.fault_count fresh) (d.time fresh) before.holds before.begins before.starts {name = new} {file = new} refl
        (from_new.told ∙ k.0) (from_new.begins ∙ k.1) (from_new.starts ∙ k.2))
        (back_as (Some does.0) (Some does.1) (taken_now d fresh) does.2.back_old does.2.back (
          both,
          subst (λ (t : Taken). MovesStore d t (taken_now d fresh) does.0 does.1 limit done.report.length done.ending) as_old does.3,
          subst (λ (t : Taken). HasMoveCause t.tide.faults (d.fault_count does.0) (d.fault_count fresh) (d.fault_count does.1) done.ending) as_old does.4,
        ))
    migrates (Err failed) from_new does = runs_so (taken_from before new) does.talks does.responses (λ one. refl)
        (back_as (Some disk) None (taken_from before new) does.back_old does.disk (
          both,
          (does.ended, subst (λ (n : ℕ). Rises n after.shelf_faults) (from.cause.kept refl) (from_new.cause.failed refl), does.length),
          subst (λ (t : Taken). IsOnlyRead d t disk) as_old (left_alone d disk disk synced only_now),
        ))
