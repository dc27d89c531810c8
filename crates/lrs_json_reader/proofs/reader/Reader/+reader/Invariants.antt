use Rattle.std.proofs.Common.{◌≡◌, ◌+◌, ◌*◌, length}
use Rattle.lrs_json_reader.proofs.Lists.{ListSoFar}
use Rattle.lrs_json_reader.proofs.Objects.{ObjectHere}
use Rattle.lrs_json_reader.proofs.reader.Reader.+reader.Given as goal

abbrev pub decreases-list : goal.decreases-list
decreases-list l = 2 * length l.self.now.cursor

abbrev pub decreases-member : goal.decreases-member
decreases-member l = 2 * length l.self.now.cursor

abbrev pub decreases-object : goal.decreases-object
decreases-object l = 2 * length l.self.now.cursor

abbrev pub decreases-value : goal.decreases-value
decreases-value l = 2 * length l.self.now.cursor + 1

abbrev pub invariant-list-loop-items : goal.invariant-list-loop-items
invariant-list-loop-items l = record { so_far : ListSoFar l.items l.fn.self l.self; kept : l.lefts.items ≡ l.fn.lefts.items }

abbrev pub decreases-list-loop-items : goal.decreases-list-loop-items
decreases-list-loop-items l = length l.self.cursor

abbrev pub invariant-object-loop-members : goal.invariant-object-loop-members
invariant-object-loop-members l = ObjectHere l.members l.fn.lefts.items l.lefts.items l.fn.self l.self

abbrev pub decreases-object-loop-members : goal.decreases-object-loop-members
decreases-object-loop-members l = length l.self.cursor
