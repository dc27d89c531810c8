use Rattle.std.proofs.Common.{◌≡◌, take}
use Rattle.lrs_made.specs.LrsHistoryEndings.{abandoned_jsons}
use Rattle.lrs_made.specs.Said.{jsons_of}
use Rattle.lrs_made.specs.LrsPartsParts.{state_of}
use Rattle.lrs_sessions.proofs.abandoned.abandoned_statements.Given as goal

-- what is said of those so far
abbrev pub invariant-loop-number : goal.invariant-loop-number
invariant-loop-number l = jsons_of l.said.items ≡ abandoned_jsons (state_of l.parts) (take l.number-index l.numbers)
