-- The written form of the items and of the members of a value, one at a time, and that they can be spelled.
use Rattle.std.proofs.Common.{◌≡◌, ◌<◌, ◌+◌, nat_lt, ℕ, suc, List, ◌++◌, Bool, true, Option, Some, None, length, map, drop, get_or, IsUtf8, ap, ◌∙◌, arith, append_assoc, drop-cons, add-one}
use Rattle.std.proofs.lemmas.Grind.{common_steps}
use Rattle.std.specs.Option.{option_copied}
use denote.Ref.{Bor}
use Rattle.lrs_json.specs.Behind.{left_behind}
use Rattle.lrs_json.specs.Spellable.{IsSpellable, AreSpellableElements, AreSpellableMembers}
use Rattle.lrs_json.specs.View.{view, member_view, elements_of, members_of}
use Rattle.lrs_json.specs.Written.{comma_if, list_text, object_text, text_of_member, written_tree}
use Rattle.lrs_json.specs.declared.tree.Tree.{Tree}
use Rattle.lrs_json.specs.declared.tree.Member.{Member}
use Rattle.lrs_json.proofs.Behind.{none_behind, some_behind}

pub later_on : (i : ℕ) → nat_lt 0 (i + 1) ≡ true
later_on i = grind (arith, common_steps)

next_item : (ts : List Tree) (i : ℕ) (t : Tree) (later : Bool) → i < length ts → t ≡ get_or ts i t → list_text later (drop i ts) ≡ (comma_if later ++ written_tree t) ++ list_text (nat_lt 0 (i + 1)) (drop (i + 1) ts)
next_item ts i t later within is = rw (later_on i, add-one i, drop-cons ts i t within, ← is) (simp append_assoc)

next_member : (ms : List Member) (i : ℕ) (m : Member) (later : Bool) → i < length ms → m ≡ get_or ms i m → object_text later (drop i ms) ≡ (comma_if later ++ text_of_member m) ++ object_text (nat_lt 0 (i + 1)) (drop (i + 1) ms)
next_member ms i m later within is = rw (later_on i, add-one i, drop-cons ms i m within, ← is) (simp append_assoc)

pub none_of_items : (ts : List Tree) (i : ℕ) (t : Tree) (left : List ℕ) (r : Option (Bor (List ℕ))) → i < length ts → t ≡ get_or ts i t → option_copied r ≡ left_behind (comma_if (nat_lt 0 i) ++ written_tree t) left → r ≡ None
    → left_behind (list_text (nat_lt 0 i) (drop i ts)) left ≡ None
none_of_items ts i t left r within is behind none = ap (λ z. left_behind z left) (next_item ts i t (nat_lt 0 i) within is) ∙ none_behind _ _ left r behind none

pub some_of_items : (ts : List Tree) (i : ℕ) (t : Tree) (left : List ℕ) (r : Option (Bor (List ℕ))) (x : Bor (List ℕ)) → i < length ts → t ≡ get_or ts i t → option_copied r ≡ left_behind (comma_if (nat_lt 0 i) ++ written_tree t) left → r ≡ Some x
    → left_behind (list_text (nat_lt 0 i) (drop i ts)) left ≡ left_behind (list_text (nat_lt 0 (i + 1)) (drop (i + 1) ts)) x.now
some_of_items ts i t left r x within is behind some = ap (λ z. left_behind z left) (next_item ts i t (nat_lt 0 i) within is) ∙ some_behind _ _ left r x behind some

pub none_of_members : (ms : List Member) (i : ℕ) (m : Member) (left : List ℕ) (r : Option (Bor (List ℕ))) → i < length ms → m ≡ get_or ms i m → option_copied r ≡ left_behind (comma_if (nat_lt 0 i) ++ text_of_member m) left → r ≡ None
    → left_behind (object_text (nat_lt 0 i) (drop i ms)) left ≡ None
none_of_members ms i m left r within is behind none = ap (λ z. left_behind z left) (next_member ms i m (nat_lt 0 i) within is) ∙ none_behind _ _ left r behind none

pub some_of_members : (ms : List Member) (i : ℕ) (m : Member) (left : List ℕ) (r : Option (Bor (List ℕ))) (x : Bor (List ℕ)) → i < length ms → m ≡ get_or ms i m → option_copied r ≡ left_behind (comma_if (nat_lt 0 i) ++ text_of_member m) left → r ≡ Some x
    → left_behind (object_text (nat_lt 0 i) (drop i ms)) left ≡ left_behind (object_text (nat_lt 0 (i + 1)) (drop (i + 1) ms)) x.now
some_of_members ms i m left r x within is behind some = ap (λ z. left_behind z left) (next_member ms i m (nat_lt 0 i) within is) ∙ some_behind _ _ left r x behind some

pub spelled_item : (ts : List Tree) (i : ℕ) (t : Tree) → i < length ts → t ≡ get_or ts i t → IsSpellable (view t) → AreSpellableElements (elements_of (map view (drop (i + 1) ts))) → AreSpellableElements (elements_of (map view (drop i ts)))
spelled_item ts i t within is one more =
    let rest : AreSpellableElements (elements_of (map view (drop (suc i) ts))) = rw add-one at more in
    rw (drop-cons ts i t within, ← is) (one, rest)

pub spelled_member : (ms : List Member) (i : ℕ) (m : Member) → i < length ms → m ≡ get_or ms i m → IsUtf8 (member_view m).0 → IsSpellable (member_view m).1 → AreSpellableMembers (members_of (map member_view (drop (i + 1) ms)))
    → AreSpellableMembers (members_of (map member_view (drop i ms)))
spelled_member ms i m within is name one more =
    let rest : AreSpellableMembers (members_of (map member_view (drop (suc i) ms))) = rw add-one at more in
    rw (drop-cons ms i m within, ← is) (name, one, rest)
