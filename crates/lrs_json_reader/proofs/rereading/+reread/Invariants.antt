use Rattle.std.proofs.Common.{◌+◌, ◌*◌, length}
use Rattle.lrs_json_reader.proofs.Rereads.{ListAgain, ObjectAgain}
use Rattle.lrs_json_reader.proofs.rereading.+reread.Given as goal

abbrev pub decreases-list : goal.decreases-list
decreases-list l = 4 * length l.cursor.now

abbrev pub decreases-object : goal.decreases-object
decreases-object l = 4 * length l.cursor.now

abbrev pub decreases-value : goal.decreases-value
decreases-value l = 4 * length l.cursor.now + 1

abbrev pub decreases-next_item : goal.decreases-next_item
decreases-next_item l = 4 * length l.cursor.now + 2

abbrev pub decreases-member : goal.decreases-member
decreases-member l = 4 * length l.cursor.now + 2

abbrev pub decreases-next_member : goal.decreases-next_member
decreases-next_member l = 4 * length l.cursor.now + 3

abbrev pub invariant-list-loop-goes : goal.invariant-list-loop-goes
invariant-list-loop-goes l = ListAgain l.fn.cursor l.goes l.items l.cursor

abbrev pub decreases-list-loop-goes : goal.decreases-list-loop-goes
decreases-list-loop-goes l = length l.cursor

abbrev pub invariant-object-loop-goes : goal.invariant-object-loop-goes
invariant-object-loop-goes l = ObjectAgain l.fn.cursor l.goes l.members l.cursor

abbrev pub decreases-object-loop-goes : goal.decreases-object-loop-goes
decreases-object-loop-goes l = length l.cursor
