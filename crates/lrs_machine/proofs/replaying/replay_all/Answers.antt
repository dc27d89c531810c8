use Rattle.std.proofs.Common.{◌≡◌, ◌≤◌, length, sym, subst, refl, true, false, ◌∙◌, Err, Some, arith, ap}
use Rattle.lrs_disk.specs.Faults.{Rises}
use Rattle.lrs_machine.specs.declared.opening.DeskRefused.TheVariants as desk
use Rattle.lrs_machine.specs.Desk.{IsDeskRefused}
use Rattle.lrs_machine.specs.Fold.{state_of}
use Rattle.lrs_machine.specs.Replays.{HasReadEntries, TakesFrame}
use Rattle.lrs_machine.proofs.Prefixes.{rests, run_then}
use Rattle.lrs_machine.proofs.ReplayLemmas.{ended_empty, taken_none}
use Rattle.lrs_machine.proofs.replaying.replay_all.Goals as goal

pub returns-then-k-eq0-clause-refused : goal.returns-then-k-eq0-clause-refused
returns-then-k-eq0-clause-refused g c = λ bytes there.
    let t : TakesFrame g.D.Disk.told c.take_next.new.replay (state_of c.take_next.new.fold) c.loop-k.k c.take_next.new.opening.items false =
    subst (λ b. TakesFrame g.D.Disk.told c.take_next.new.replay (state_of c.take_next.new.fold) c.loop-k.k c.take_next.new.opening.items b) c.in-Ok-false.field-0-test c.in-Ok-false.ensures.taken in
    subst (λ n. IsDeskRefused bytes (desk.IllegalEntry n)) (sym c.if-k-eq0.true)
    (ended_empty bytes c.take_next.new.replay (state_of c.take_next.new.fold) c.take_next.new.opening.items (t.0 ∙ c.if-k-eq0.true) t.1 (t.2 bytes (c.take_next.ensures.still ∙ c.loop-k.invariant.still ∙ there)))

pub returns-in-Err-clause-refused : goal.returns-in-Err-clause-refused
returns-in-Err-clause-refused g c = λ bytes there. c.in-Err.ensures.refused bytes (c.loop-k.invariant.still ∙ there)

pub loop-k-init : goal.loop-k-init
loop-k-init g c = record {
  still = refl;
  limit = refl;
  count = refl;
  long = ap length c.requires.empty.1;
  replayed = taken_none c.args.replay.now (state_of c.args.fold.now) c.args.opening.now.items c.requires.empty.0 c.requires.empty.1 c.requires.format c.requires.begun;
  read = λ bytes there. subst (λ h. HasReadEntries bytes c.args.replay.now h) (sym c.requires.empty.1) (c.requires.read bytes there);
  leaves = rests g.D.Disk.time g.D.Disk.image_since g.D.Disk.image g.met.D.Disk.only_now c.args.replay.now.disk (λ bytes. g.D.Disk.told c.args.replay.now.disk ≡ Some bytes) c.requires.synced;
}

pub returns-then-k-eq0-clause-limit : goal.returns-then-k-eq0-clause-limit
returns-then-k-eq0-clause-limit g c = c.take_next.ensures.limit ∙ c.loop-k.invariant.limit

pub returns-then-k-eq0-clause-still : goal.returns-then-k-eq0-clause-still
returns-then-k-eq0-clause-still g c = c.take_next.ensures.still ∙ c.loop-k.invariant.still

pub returns-then-k-eq0-clause-any_moment : goal.returns-then-k-eq0-clause-any_moment
returns-then-k-eq0-clause-any_moment g c =
    run_then g.D.Disk.time g.D.Disk.image_since c.args.replay.now.disk c.loop-k.replay.disk c.take_next.new.replay.disk (λ bytes. g.D.Disk.told c.args.replay.now.disk ≡ Some bytes) (λ bytes. g.D.Disk.told c.loop-k.replay.disk ≡ Some bytes)
    c.loop-k.invariant.leaves c.take_next.ensures.any_moment (λ bytes is. sym c.loop-k.invariant.still ∙ is)

pub returns-in-Ok-false-clause-limit : goal.returns-in-Ok-false-clause-limit
returns-in-Ok-false-clause-limit g c = c.take_next.ensures.limit ∙ c.loop-k.invariant.limit

pub returns-in-Ok-false-clause-still : goal.returns-in-Ok-false-clause-still
returns-in-Ok-false-clause-still g c = c.take_next.ensures.still ∙ c.loop-k.invariant.still

pub returns-in-Ok-false-clause-any_moment : goal.returns-in-Ok-false-clause-any_moment
returns-in-Ok-false-clause-any_moment g c =
    run_then g.D.Disk.time g.D.Disk.image_since c.args.replay.now.disk c.loop-k.replay.disk c.take_next.new.replay.disk (λ bytes. g.D.Disk.told c.args.replay.now.disk ≡ Some bytes) (λ bytes. g.D.Disk.told c.loop-k.replay.disk ≡ Some bytes)
    c.loop-k.invariant.leaves c.take_next.ensures.any_moment (λ bytes is. sym c.loop-k.invariant.still ∙ is)

pub returns-in-Err-clause-limit : goal.returns-in-Err-clause-limit
returns-in-Err-clause-limit g c = c.take_next.ensures.limit ∙ c.loop-k.invariant.limit

pub returns-in-Err-clause-still : goal.returns-in-Err-clause-still
returns-in-Err-clause-still g c = c.take_next.ensures.still ∙ c.loop-k.invariant.still

pub returns-in-Err-clause-any_moment : goal.returns-in-Err-clause-any_moment
returns-in-Err-clause-any_moment g c =
    run_then g.D.Disk.time g.D.Disk.image_since c.args.replay.now.disk c.loop-k.replay.disk c.take_next.new.replay.disk (λ bytes. g.D.Disk.told c.args.replay.now.disk ≡ Some bytes) (λ bytes. g.D.Disk.told c.loop-k.replay.disk ≡ Some bytes)
    c.loop-k.invariant.leaves c.take_next.ensures.any_moment (λ bytes is. sym c.loop-k.invariant.still ∙ is)

pub returns-in-Ok-false-clause-replayed : goal.returns-in-Ok-false-clause-replayed
returns-in-Ok-false-clause-replayed g c =
    let t : TakesFrame g.D.Disk.told c.take_next.new.replay (state_of c.take_next.new.fold) c.loop-k.k c.take_next.new.opening.items false =
    subst (λ b. TakesFrame g.D.Disk.told c.take_next.new.replay (state_of c.take_next.new.fold) c.loop-k.k c.take_next.new.opening.items b) c.in-Ok-false.field-0-test c.in-Ok-false.ensures.taken in
    t.1

pub returns-in-Ok-false-clause-some : goal.returns-in-Ok-false-clause-some
returns-in-Ok-false-clause-some g c =
    let t : TakesFrame g.D.Disk.told c.take_next.new.replay (state_of c.take_next.new.fold) c.loop-k.k c.take_next.new.opening.items false =
    subst (λ b. TakesFrame g.D.Disk.told c.take_next.new.replay (state_of c.take_next.new.fold) c.loop-k.k c.take_next.new.opening.items b) c.in-Ok-false.field-0-test c.in-Ok-false.ensures.taken in
    omega (arith, t.0, c.if-k-eq0.false)

pub returns-in-Ok-false-clause-read : goal.returns-in-Ok-false-clause-read
returns-in-Ok-false-clause-read g c =
    let t : TakesFrame g.D.Disk.told c.take_next.new.replay (state_of c.take_next.new.fold) c.loop-k.k c.take_next.new.opening.items false =
    subst (λ b. TakesFrame g.D.Disk.told c.take_next.new.replay (state_of c.take_next.new.fold) c.loop-k.k c.take_next.new.opening.items b) c.in-Ok-false.field-0-test c.in-Ok-false.ensures.taken in
    t.2

pub returns-in-Ok-false-clause-ended : goal.returns-in-Ok-false-clause-ended
returns-in-Ok-false-clause-ended g c = c.in-Ok-false.ensures.ended c.in-Ok-false.field-0-test

pub returns-in-Ok-false-clause-cause : goal.returns-in-Ok-false-clause-cause
returns-in-Ok-false-clause-cause g c = record {
  later = subst (λ n. n ≤ g.D.Disk.fault_count c.take_next.new.replay.disk) c.loop-k.invariant.count c.take_next.ensures.cause.later;
  cause = λ is. absurd (cc is);
  kept = λ is. c.in-Ok-false.ensures.cause.kept refl ∙ c.loop-k.invariant.count;
}

pub returns-then-k-eq0-clause-cause : goal.returns-then-k-eq0-clause-cause
returns-then-k-eq0-clause-cause g c = record {
  later = subst (λ n. n ≤ g.D.Disk.fault_count c.take_next.new.replay.disk) c.loop-k.invariant.count c.take_next.ensures.cause.later;
  cause = λ is. absurd (cc is);
  kept = λ is. absurd (cc is);
}

pub returns-in-Err-clause-cause : goal.returns-in-Err-clause-cause
returns-in-Err-clause-cause g c = record {
  later = subst (λ n. n ≤ g.D.Disk.fault_count c.take_next.new.replay.disk) c.loop-k.invariant.count c.take_next.ensures.cause.later;
  cause = λ is.
      let failed : c.in-Err.refused ≡ desk.Failed = cc is in
      subst (λ n. Rises n (g.D.Disk.fault_count c.take_next.new.replay.disk)) c.loop-k.invariant.count (c.in-Err.ensures.cause.cause (ap (λ e. Err e) failed));
  kept = λ is. absurd (cc is);
}

pub returns-clause-limit : goal.returns-clause-limit
returns-clause-limit g c = c.loop-k.invariant.limit

pub returns-clause-still : goal.returns-clause-still
returns-clause-still g c = c.loop-k.invariant.still

pub returns-clause-any_moment : goal.returns-clause-any_moment
returns-clause-any_moment g c = c.loop-k.invariant.leaves

pub returns-clause-refused : goal.returns-clause-refused
returns-clause-refused g c = λ bytes there. tt

pub returns-clause-cause : goal.returns-clause-cause
returns-clause-cause g c = record {
  later = omega (arith, c.loop-k.invariant.count);
  cause = λ is. absurd (cc is);
  kept = λ is. absurd (cc is);
}

pub loop-k-preserved : goal.loop-k-preserved
loop-k-preserved g c =
    let t : TakesFrame g.D.Disk.told c.take_next.new.replay (state_of c.take_next.new.fold) c.loop-k.k c.take_next.new.opening.items true =
    subst (λ b. TakesFrame g.D.Disk.told c.take_next.new.replay (state_of c.take_next.new.fold) c.loop-k.k c.take_next.new.opening.items b) c.in-Ok-true.field-0-test c.in-Ok-true.ensures.taken in
    record {
      still = c.take_next.ensures.still ∙ c.loop-k.invariant.still;
      limit = c.take_next.ensures.limit ∙ c.loop-k.invariant.limit;
      count = c.in-Ok-true.ensures.cause.kept refl ∙ c.loop-k.invariant.count;
      long = t.0;
      replayed = t.1;
      read = t.2;
      leaves = run_then g.D.Disk.time g.D.Disk.image_since c.args.replay.now.disk c.loop-k.replay.disk c.take_next.new.replay.disk (λ bytes. g.D.Disk.told c.args.replay.now.disk ≡ Some bytes) (λ bytes. g.D.Disk.told c.loop-k.replay.disk ≡ Some bytes)
          c.loop-k.invariant.leaves c.take_next.ensures.any_moment (λ bytes is. sym c.loop-k.invariant.still ∙ is);
    }
