use Rattle.std.proofs.Common.{◌≡◌, drop}
use Rattle.lrs_state.specs.Sessions.{with_abandoned}
use Rattle.lrs_state.proofs.sessions.HeldSessions.install_abandoned.Given as goal

-- what is left to be abandoned, and what was abandoned so far
abbrev pub invariant-loop-number : goal.invariant-loop-number
invariant-loop-number l = record {
  held : with_abandoned l.self.held (drop l.number-index l.numbers) ≡ with_abandoned l.fn.self.held l.numbers;
  spare : l.self.spare ≡ l.fn.self.spare;
}
