use Rattle.std.proofs.Common.{arith}
use Rattle.xapi_statement.proofs.Sizes.{list_longer, object_longer}
use Rattle.xapi_statement.proofs.length.+least.Goals as goal

pub least_room_behind_items-loop-item-init : goal.least_room_behind_items-loop-item-init
least_room_behind_items-loop-item-init n c = omega (arith, list_longer c.args.items.now)

pub least_room_behind_members-loop-member-init : goal.least_room_behind_members-loop-member-init
least_room_behind_members-loop-member-init n c = omega (arith, object_longer c.args.members.now)
