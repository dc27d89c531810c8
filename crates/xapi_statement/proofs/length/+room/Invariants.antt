use Rattle.std.proofs.Common.{◌≡◌, ◌+◌, drop, length, false, nat_lt}
use Rattle.lrs_json.specs.Written.{list_text, object_text}
use Rattle.xapi_statement.proofs.length.+room.Given as goal

abbrev pub invariant-room_behind_items-loop-i : goal.invariant-room_behind_items-loop-i
invariant-room_behind_items-loop-i l = l.left + length (list_text false l.items) ≡ l.fn.room + length (list_text (nat_lt 0 l.i) (drop l.i l.items))

abbrev pub invariant-room_behind_members-loop-i : goal.invariant-room_behind_members-loop-i
invariant-room_behind_members-loop-i l = l.left + length (object_text false l.members) ≡ l.fn.room + length (object_text (nat_lt 0 l.i) (drop l.i l.members))
