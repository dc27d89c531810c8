use Rattle.std.proofs.Common.{◌∙◌, ◌-◌, ◌^◌, ⊎_elim, inl, inr, sym, arith}
use Rattle.std.proofs.lemmas.Bool.{cases_lt}
use Rattle.lrs_disk.proofs.Doors.{counted, uncounted}
use Rattle.lrs_in_memory_doors.specs.MemDoor.{state_of}
use Rattle.lrs_disk.specs.Faults.{Rises}
use Rattle.lrs_in_memory_doors.proofs.lobby.count_failed.Goals as goal

pub returns-then-not-has_failed-clause-cause : goal.returns-then-not-has_failed-clause-cause
returns-then-not-has_failed-clause-cause c = uncounted state_of c.args.doors.now c.args.plan.now.faults (sym c.has_failed.ensures ∙ c.if-not-has_failed.true)

pub returns-clause-cause : goal.returns-clause-cause
returns-clause-cause c =
    let rises : Rises c.args.plan.now.faults c.fail.new.self.faults = ⊎_elim (λ less. inl (omega arith)) (λ last. inr (omega arith)) (cases_lt c.args.plan.now.faults (2 ^ 64 - 1)) in
    counted state_of c.args.doors.now c.args.plan.now.faults c.fail.new.self.faults (sym c.has_failed.ensures ∙ c.if-not-has_failed.false) (omega arith) rises
