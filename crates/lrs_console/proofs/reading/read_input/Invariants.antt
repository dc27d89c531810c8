use Rattle.std.proofs.Common.{◌-◌, ◌+◌, ◌≡◌, ◌≤◌, vec_len}
use Rattle.lrs_console.specs.Reading.{HasGiven, longest_input}
use Rattle.lrs_console.proofs.reading.read_input.Given as goal

abbrev pub invariant-loop-input : goal.invariant-loop-input
invariant-loop-input g l = (vec_len l.bytes ≤ longest_input + 1) × HasGiven l.bytes.items (g.I.Source.left l.initial.input) (g.I.Source.left l.input)
    × (g.I.Source.fault_count l.input ≡ g.I.Source.fault_count l.initial.input)

abbrev pub decreases-loop-input : goal.decreases-loop-input
decreases-loop-input g l = longest_input + 1 - vec_len l.bytes
