use Rattle.std.proofs.Common.{take}
use Rattle.lrs_parts.proofs.Voided.{AreRead}
use Rattle.lrs_parts.proofs.trees.read_each.Given as goal

-- what those so far void is read
abbrev pub invariant-loop-statement : goal.invariant-loop-statement
invariant-loop-statement l = AreRead l.trees l.statements.held (take l.statement-index l.coming)
