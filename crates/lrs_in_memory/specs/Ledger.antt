-- What a disk in memory keeps of its calls.
use Rattle.std.specs.Prelude.{◌-◌, List, length}
use Rattle.lrs_in_memory.specs.Allowance.{Allowance}
use Rattle.lrs_in_memory.specs.Calls.{steps}
use Rattle.lrs_in_memory.specs.Steps.{Step}
use Rattle.lrs_in_memory.specs.declared.ledger.Ledger.{Ledger}

-- the steps of its calls
abbrev pub steps_of : Ledger → List Step
steps_of r = steps r.history.calls.items r.history.log.items

-- which calls fail from now on
abbrev pub allowance_of : Ledger → Allowance
allowance_of r = record {
  failing = r.plan.failing.items;
  number = r.plan.number;
  calls = r.history.call_room;
  bytes = r.history.byte_room - length r.history.log.items;
}
