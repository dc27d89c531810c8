use Rattle.std.proofs.Common.{◌≡◌, ◌≤◌, All, length, string_capacity}
use Rattle.lrs_edge.specs.declared.rooms.TheConstants.{LONGEST_PATH}
use Rattle.lrs_edge.proofs.rooms.Rooms.new.Given as goal

abbrev pub invariant-loop : goal.invariant-loop
invariant-loop l = All (λ room. LONGEST_PATH ≤ string_capacity room) l.rooms.items × (length l.rooms.items ≡ l.counter)
