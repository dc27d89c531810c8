use Rattle.std.proofs.Common.{◌+◌, ◌*◌, length}
use Rattle.lrs_json_written.proofs.Objects.{MembersSoFar}
use Rattle.lrs_json_written.proofs.Readings.{ItemsSoFar}
use Rattle.lrs_json_written.proofs.reading.+reading.Given as goal

abbrev pub decreases-list : goal.decreases-list
decreases-list l = 5 * l.depth

abbrev pub decreases-object : goal.decreases-object
decreases-object l = 5 * l.depth

abbrev pub decreases-value : goal.decreases-value
decreases-value l = 5 * l.depth + 1

abbrev pub decreases-member : goal.decreases-member
decreases-member l = 5 * l.depth + 2

abbrev pub decreases-next_item : goal.decreases-next_item
decreases-next_item l = 5 * l.depth + 2

abbrev pub decreases-next_member : goal.decreases-next_member
decreases-next_member l = 5 * l.depth + 3

abbrev pub decreases-items : goal.decreases-items
decreases-items l = 5 * l.depth + 4

abbrev pub decreases-members : goal.decreases-members
decreases-members l = 5 * l.depth + 4

abbrev pub invariant-items-loop-goes : goal.invariant-items-loop-goes
invariant-items-loop-goes l = ItemsSoFar l.depth l.fn.cursor l.goes l.items l.cursor

abbrev pub decreases-items-loop-goes : goal.decreases-items-loop-goes
decreases-items-loop-goes l = length l.cursor

abbrev pub invariant-members-loop-goes : goal.invariant-members-loop-goes
invariant-members-loop-goes l = MembersSoFar l.depth l.fn.cursor l.goes l.members l.cursor

abbrev pub decreases-members-loop-goes : goal.decreases-members-loop-goes
decreases-members-loop-goes l = length l.cursor
