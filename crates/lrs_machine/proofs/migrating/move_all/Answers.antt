use Rattle.std.proofs.Common.{◌≡◌, ◌<◌, length, map, sym, subst, refl, true, false, ◌∙◌, Some, Err, arith, ap}
use Rattle.lrs_journal.specs.Store.{StandsIn}
use Rattle.lrs_record.specs.Entries.{written_entry}
use Rattle.lrs_machine.specs.Fold.{state_of}
use Rattle.lrs_machine.specs.Migrating.{IsLateRefusal, IsMigrateRefused, MovesFrame}
use Rattle.lrs_machine.specs.declared.migrating.MigrateRefused.TheVariants as migrate
use Rattle.lrs_machine.proofs.Moved.{moved_nothing}
use Rattle.lrs_machine.proofs.MigrateRuns.{advances_none, advances_then, counts_after, counts_rest}
use Rattle.lrs_machine.proofs.migrating.move_all.Goals as goal

pub loop-k-init : goal.loop-k-init
loop-k-init g c = record {
  count = refl;
  count_new = refl;
  long = ap length c.requires.empty.1;
  moving = c.requires.moving;
  advances = advances_none g.D.Disk.told g.D.Disk.image g.D.Disk.time g.D.Disk.image_since g.met.D.Disk.only_now c.args.replay.now c.args.builder.now c.requires.synced;
}

pub loop-k-preserved : goal.loop-k-preserved
loop-k-preserved g c =
    let t : MovesFrame g.D.Disk.told c.move_next.new.replay c.move_next.new.builder (state_of c.move_next.new.fold) c.loop-k.k c.move_next.new.opening.items true =
    subst (λ b. MovesFrame g.D.Disk.told c.move_next.new.replay c.move_next.new.builder (state_of c.move_next.new.fold) c.loop-k.k c.move_next.new.opening.items b) c.in-Ok-true.field-0-test c.in-Ok-true.ensures.moved in
    let kept = c.in-Ok-true.ensures.cause.kept refl in
    record {
      count = kept.0 ∙ c.loop-k.invariant.count;
      count_new = kept.1 ∙ c.loop-k.invariant.count_new;
      long = t.0;
      moving = t.1;
      advances = advances_then g.D.Disk.told g.D.Disk.time g.D.Disk.image_since c.args.replay.now c.loop-k.replay c.move_next.new.replay c.args.builder.now c.loop-k.builder c.move_next.new.builder c.loop-k.invariant.advances c.move_next.ensures.advances;
    }

-- ---- there is no frame

pub returns-then-k-eq0-clause-refused : goal.returns-then-k-eq0-clause-refused
returns-then-k-eq0-clause-refused g c = λ was there free vacant.
    let t : MovesFrame g.D.Disk.told c.move_next.new.replay c.move_next.new.builder (state_of c.move_next.new.fold) c.loop-k.k c.move_next.new.opening.items false =
    subst (λ b. MovesFrame g.D.Disk.told c.move_next.new.replay c.move_next.new.builder (state_of c.move_next.new.fold) c.loop-k.k c.move_next.new.opening.items b) c.in-Ok-false.field-0-test c.in-Ok-false.ensures.moved in
    let on = c.move_next.ensures.advances in
    let before = c.loop-k.invariant.advances in
    subst (λ l. IsMigrateRefused was free (Some l) (migrate.IllegalEntry c.loop-k.k)) (on.limit ∙ before.limit)
    (moved_nothing g.D.Disk.told was free c.move_next.new.replay c.move_next.new.builder (state_of c.move_next.new.fold) c.move_next.new.opening.items c.loop-k.k c.if-k-eq0.true t (on.still ∙ before.still ∙ there) vacant)

pub returns-then-k-eq0-clause-late : goal.returns-then-k-eq0-clause-late
returns-then-k-eq0-clause-late g c = tt

pub returns-then-k-eq0-clause-advances : goal.returns-then-k-eq0-clause-advances
returns-then-k-eq0-clause-advances g c =
    advances_then g.D.Disk.told g.D.Disk.time g.D.Disk.image_since c.args.replay.now c.loop-k.replay c.move_next.new.replay c.args.builder.now c.loop-k.builder c.move_next.new.builder c.loop-k.invariant.advances c.move_next.ensures.advances

pub returns-then-k-eq0-clause-cause : goal.returns-then-k-eq0-clause-cause
returns-then-k-eq0-clause-cause g c = counts_after _ _ _ _ _ _ _ _ _ _ c.loop-k.invariant.count c.loop-k.invariant.count_new c.move_next.ensures.cause (λ is. absurd (cc is)) (λ is. absurd (cc is))

-- ---- the list ended

pub returns-in-Ok-false-clause-moving : goal.returns-in-Ok-false-clause-moving
returns-in-Ok-false-clause-moving g c =
    let t : MovesFrame g.D.Disk.told c.move_next.new.replay c.move_next.new.builder (state_of c.move_next.new.fold) c.loop-k.k c.move_next.new.opening.items false =
    subst (λ b. MovesFrame g.D.Disk.told c.move_next.new.replay c.move_next.new.builder (state_of c.move_next.new.fold) c.loop-k.k c.move_next.new.opening.items b) c.in-Ok-false.field-0-test c.in-Ok-false.ensures.moved in
    t.1

pub returns-in-Ok-false-clause-some : goal.returns-in-Ok-false-clause-some
returns-in-Ok-false-clause-some g c =
    let t : MovesFrame g.D.Disk.told c.move_next.new.replay c.move_next.new.builder (state_of c.move_next.new.fold) c.loop-k.k c.move_next.new.opening.items false =
    subst (λ b. MovesFrame g.D.Disk.told c.move_next.new.replay c.move_next.new.builder (state_of c.move_next.new.fold) c.loop-k.k c.move_next.new.opening.items b) c.in-Ok-false.field-0-test c.in-Ok-false.ensures.moved in
    omega (arith, t.0, c.if-k-eq0.false)

pub returns-in-Ok-false-clause-all : goal.returns-in-Ok-false-clause-all
returns-in-Ok-false-clause-all g c = λ bytes there.
    let t : MovesFrame g.D.Disk.told c.move_next.new.replay c.move_next.new.builder (state_of c.move_next.new.fold) c.loop-k.k c.move_next.new.opening.items false =
    subst (λ b. MovesFrame g.D.Disk.told c.move_next.new.replay c.move_next.new.builder (state_of c.move_next.new.fold) c.loop-k.k c.move_next.new.opening.items b) c.in-Ok-false.field-0-test c.in-Ok-false.ensures.moved in
    let on = c.move_next.ensures.advances in
    let before = c.loop-k.invariant.advances in
    subst (λ f. StandsIn f bytes c.args.replay.now.limit (map written_entry c.move_next.new.opening.items)) (on.format ∙ before.format)
    (subst (λ l. StandsIn c.move_next.new.replay.format bytes l (map written_entry c.move_next.new.opening.items)) (on.own ∙ before.own) (t.2 bytes (on.still ∙ before.still ∙ there)))

pub returns-in-Ok-false-clause-advances : goal.returns-in-Ok-false-clause-advances
returns-in-Ok-false-clause-advances g c =
    advances_then g.D.Disk.told g.D.Disk.time g.D.Disk.image_since c.args.replay.now c.loop-k.replay c.move_next.new.replay c.args.builder.now c.loop-k.builder c.move_next.new.builder c.loop-k.invariant.advances c.move_next.ensures.advances

pub returns-in-Ok-false-clause-cause : goal.returns-in-Ok-false-clause-cause
returns-in-Ok-false-clause-cause g c = counts_after _ _ _ _ _ _ _ _ _ _ c.loop-k.invariant.count c.loop-k.invariant.count_new c.in-Ok-false.ensures.cause (λ is. absurd (cc is)) (λ is. refl)

-- ---- a frame isn't moved

pub returns-in-Err-clause-refused : goal.returns-in-Err-clause-refused
returns-in-Err-clause-refused g c = λ was there free vacant.
    subst (λ l. IsMigrateRefused was free (Some l) c.in-Err.refused) c.loop-k.invariant.advances.limit (c.in-Err.ensures.refused was (c.loop-k.invariant.advances.still ∙ there) free vacant)

pub returns-in-Err-clause-late : goal.returns-in-Err-clause-late
returns-in-Err-clause-late g c = subst (λ l. IsLateRefusal l c.in-Err.refused) c.loop-k.invariant.advances.limit c.in-Err.ensures.late

pub returns-in-Err-clause-advances : goal.returns-in-Err-clause-advances
returns-in-Err-clause-advances g c =
    advances_then g.D.Disk.told g.D.Disk.time g.D.Disk.image_since c.args.replay.now c.loop-k.replay c.move_next.new.replay c.args.builder.now c.loop-k.builder c.move_next.new.builder c.loop-k.invariant.advances c.move_next.ensures.advances

pub returns-in-Err-clause-cause : goal.returns-in-Err-clause-cause
returns-in-Err-clause-cause g c =
    counts_after _ _ _ _ _ _ _ _ _ _ c.loop-k.invariant.count c.loop-k.invariant.count_new c.in-Err.ensures.cause
    (λ is. let failed : c.in-Err.refused ≡ migrate.Failed = cc is in ap (λ e. Err e) failed) (λ is. absurd (cc is))

-- ---- the loop's end

pub returns-clause-refused : goal.returns-clause-refused
returns-clause-refused g c = λ was there free vacant. tt

pub returns-clause-late : goal.returns-clause-late
returns-clause-late g c = tt

pub returns-clause-advances : goal.returns-clause-advances
returns-clause-advances g c = c.loop-k.invariant.advances

pub returns-clause-cause : goal.returns-clause-cause
returns-clause-cause g c = counts_rest _ _ _ _ _ _ c.loop-k.invariant.count c.loop-k.invariant.count_new (λ is. absurd (cc is))
