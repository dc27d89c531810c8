use Rattle.std.proofs.Common.{◌≡◌, drop, false, nat_lt, map}
use Rattle.lrs_json.specs.Behind.{left_behind}
use Rattle.lrs_json.specs.Spellable.{AreSpellableElements, AreSpellableMembers}
use Rattle.lrs_json.specs.View.{view, member_view, elements_of, members_of}
use Rattle.lrs_json.specs.Written.{list_text, object_text}
use Rattle.lrs_json.proofs.matching.+matching.Given as goal

-- as much is left behind what comes as behind the whole, and all can be spelled if what comes can
abbrev pub invariant-behind_items-loop-i : goal.invariant-behind_items-loop-i
invariant-behind_items-loop-i l = record {
  left : left_behind (list_text (nat_lt 0 l.i) (drop l.i l.items)) l.left ≡ left_behind (list_text false l.items) l.bytes;
  spellable : AreSpellableElements (elements_of (map view (drop l.i l.items))) → AreSpellableElements (elements_of (map view l.items));
}

abbrev pub invariant-behind_members-loop-i : goal.invariant-behind_members-loop-i
invariant-behind_members-loop-i l = record {
  left : left_behind (object_text (nat_lt 0 l.i) (drop l.i l.members)) l.left ≡ left_behind (object_text false l.members) l.bytes;
  spellable : AreSpellableMembers (members_of (map member_view (drop l.i l.members))) → AreSpellableMembers (members_of (map member_view l.members));
}
