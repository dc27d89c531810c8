use Rattle.std.proofs.Common.{length}
use Rattle.lrs_json_reader.proofs.Texts.{TextSoFar}
use Rattle.lrs_json_reader.proofs.cursor.Cursor.pieces.Given as goal

abbrev pub invariant-loop-self : goal.invariant-loop-self
invariant-loop-self l = TextSoFar l.bytes.items l.initial.self l.self

abbrev pub decreases-loop-self : goal.decreases-loop-self
decreases-loop-self l = length l.self
