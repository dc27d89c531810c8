use Rattle.std.proofs.Common.{◌≡◌, ◌+◌, ◌++◌, ◌-◌, ◌≤◌, drop, length, take, vec_capacity, vec_len}
use Rattle.std.specs.Vec.Iter.{into_iter_items}
use Rattle.xapi_index.specs.Ahead.{AreTextsOf, StandAhead}
use Rattle.xapi_index.specs.Index.{lists_of}
use Rattle.xapi_postings.specs.XapiStatementStatements.{add_each}
use Rattle.xapi_index.proofs.ahead.write_each.Given as goal

-- those so far stand ahead, and for each that is left there is room
abbrev pub invariant-loop-statement : goal.invariant-loop-statement
invariant-loop-statement l = record {
  stand : StandAhead l.held l.ahead.items l.postings (lists_of l.coming.items);
  added : l.held ++ l.ahead.items ≡ add_each l.held (take l.statement-index l.statements);
  texts : AreTextsOf (into_iter_items l.texts) (drop l.statement-index l.statements);
  room : length l.statements ≤ (vec_capacity l.coming - vec_len l.coming) + l.statement-index;
}
