use Rattle.std.proofs.Common.{◌≡◌, take}
use Rattle.lrs_made.specs.LrsHistoryEndings.{sessions_at}
use Rattle.lrs_made.specs.LrsPartsParts.{state_of}
use Rattle.lrs_sessions.proofs.numbers.sessions_at.Given as goal

-- those of the numbers so far
abbrev pub invariant-loop-number : goal.invariant-loop-number
invariant-loop-number l = l.ids.items ≡ sessions_at (state_of l.parts) (take l.number-index l.numbers)
