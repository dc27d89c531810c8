-- What the calls that a disk in memory keeps did.
use Rattle.std.specs.Prelude.{◌≡◌, ℕ, List, [], ◌∷◌, length, take, drop, if◌then◌else◌}
use Rattle.std.proofs.Common.{refl, ap, suc}
use Rattle.lrs_in_memory.specs.Steps.{Step, Nothing, Wrote, FailedWrite, CutTo, FailedCut, Synced}
use Rattle.lrs_in_memory.specs.declared.call.Act.{Act}
use Rattle.lrs_in_memory.specs.declared.call.Act.TheVariants as acts
use Rattle.lrs_in_memory.specs.declared.call.Call.{Call}

-- of an act over these bytes
abbrev pub made : Act → List ℕ → Step
made acts.Look bytes = Nothing
made (acts.Write offset) bytes = Wrote offset bytes
made (acts.Cut to) bytes = CutTo to
made acts.Sync bytes = Synced

-- of an act that failed
abbrev pub tried : Act → List ℕ → Step
tried acts.Look bytes = Nothing
tried (acts.Write offset) bytes = FailedWrite offset bytes
tried (acts.Cut to) bytes = FailedCut to
tried acts.Sync bytes = Nothing

abbrev pub step_of : Call → List ℕ → Step
step_of call bytes = if call.failed then tried call.act bytes else made call.act bytes

-- of calls whose bytes lie one after the other
abbrev pub steps : List Call → List ℕ → List Step
steps [] log = []
steps (call ∷ calls) log = step_of call (take call.size log) ∷ steps calls (drop call.size log)

pub length-steps : (calls : List Call) (log : List ℕ) → length (steps calls log) ≡ length calls
length-steps [] log = refl
length-steps (call ∷ calls) log = ap (λ (n : ℕ). suc n) (length-steps calls (drop call.size log))
