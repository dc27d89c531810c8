use Rattle.std.proofs.Common.{◌≡◌, ◌++◌, drop, false, nat_lt, map}
use Rattle.lrs_json.specs.Spellable.{AreSpellableElements, AreSpellableMembers}
use Rattle.lrs_json.specs.View.{view, member_view, elements_of, members_of}
use Rattle.lrs_json.specs.Written.{Extends, list_text, object_text}
use Rattle.lrs_json.proofs.writing.+write.Given as goal

-- with what is left, the text is whole, and all can be spelled if what is left can
abbrev pub invariant-put_items-loop-i : goal.invariant-put_items-loop-i
invariant-put_items-loop-i l = record {
  kept : Extends l.fn.into.items l.into.items;
  whole : l.into.items ++ list_text (nat_lt 0 l.i) (drop l.i l.items) ≡ l.fn.into.items ++ list_text false l.items;
  spellable : AreSpellableElements (elements_of (map view (drop l.i l.items))) → AreSpellableElements (elements_of (map view l.items));
}

abbrev pub invariant-put_members-loop-i : goal.invariant-put_members-loop-i
invariant-put_members-loop-i l = record {
  kept : Extends l.fn.into.items l.into.items;
  whole : l.into.items ++ object_text (nat_lt 0 l.i) (drop l.i l.members) ≡ l.fn.into.items ++ object_text false l.members;
  spellable : AreSpellableMembers (members_of (map member_view (drop l.i l.members))) → AreSpellableMembers (members_of (map member_view l.members));
}
