use Rattle.std.proofs.Common.{◌≤◌, ◌+◌, drop, length, false, true}
use Rattle.lrs_json.specs.Written.{list_text, object_text}
use Rattle.xapi_statement.proofs.length.+least.Given as goal

-- the rest, each behind a comma
abbrev pub invariant-least_room_behind_items-loop-item : goal.invariant-least_room_behind_items-loop-item
invariant-least_room_behind_items-loop-item l = l.left + 2 + length (list_text false l.items) ≤ l.fn.room + length (list_text true (drop l.item-index l.items))

abbrev pub invariant-least_room_behind_members-loop-member : goal.invariant-least_room_behind_members-loop-member
invariant-least_room_behind_members-loop-member l = l.left + 2 + length (object_text false l.members) ≤ l.fn.room + length (object_text true (drop l.member-index l.members))
