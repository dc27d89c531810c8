use Rattle.std.proofs.Common.{◌≡◌, take}
use Rattle.lrs_refusals.proofs.written.texts_of_each.Given as goal

abbrev pub invariant-loop-statement : goal.invariant-loop-statement
invariant-loop-statement l = l.texts.items ≡ take l.statement-index l.statements
