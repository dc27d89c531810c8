use Rattle.std.proofs.Common.{◌≡◌, take}
use Rattle.lrs_json.proofs.copying.+copy.Given as goal

abbrev pub invariant-copy_items-loop-item : goal.invariant-copy_items-loop-item
invariant-copy_items-loop-item l = l.copies ≡ take l.item-index l.item-items

abbrev pub invariant-copy_members-loop-member : goal.invariant-copy_members-loop-member
invariant-copy_members-loop-member l = l.copies ≡ take l.member-index l.member-items
