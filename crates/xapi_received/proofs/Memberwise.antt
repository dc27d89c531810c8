-- Members that are written, with what is shown of them.
use Rattle.std.proofs.Common.{◌≡◌, ◌+◌, ◌<◌, ℕ, length, get_or, List, [], ◌∷◌, ◌++◌, map, drop, nat_lt, Bool, true, false, Option, Some, None, if◌then◌else◌, refl, sym, ap, subst, ◌∙◌, append_assoc}
use Rattle.std.specs.Prelude.{IsUtf8}
use Rattle.lrs_json.specs.Json.{Json, null, boolean, number, string, array, object, element, no_elements, Members, no_members, member}
use Rattle.lrs_json.specs.Parts.{members_in}
use Rattle.lrs_json.specs.Spellable.{AreSpellableMembers}
use Rattle.lrs_json.specs.Texts.{member_text, name_text}
use Rattle.lrs_json.specs.View.{view, member_view, members_of}
use Rattle.lrs_json.specs.Written.{members_text, written}
use Rattle.lrs_json.specs.declared.tree.Member.{Member}
use Rattle.lrs_json.proofs.Steps.{later_on}
use Rattle.xapi_format.specs.XapiValuesMemberwise.{each_member, with_each_member}
use Rattle.xapi_format.specs.XapiValuesNested.{is_nested}
use Rattle.xapi_format.specs.Completed.{in_array, plural_nested_member, plural_object}
use Rattle.xapi_received.specs.Marking.{AddsText, IsSoundDraft, Marks, MarksMember, shown_text}
use Rattle.xapi_received.specs.declared.draft.Draft.{Draft}
use Rattle.xapi_format.proofs.Appending.{member_more, member_parts}
use Rattle.xapi_received.proofs.Drafting.{adds_as, adds_both}
use Rattle.xapi_received.proofs.Left.{first_left}

-- ---- an object or none

pub is_object : (j : Json) (ms : Members) → Some ms ≡ members_in j → j ≡ object ms
is_object null ms is = let bad : ◌≡◌ {A = Option Members} (Some ms) None = is in cc
is_object (boolean b) ms is = let bad : ◌≡◌ {A = Option Members} (Some ms) None = is in cc
is_object (number s) ms is = let bad : ◌≡◌ {A = Option Members} (Some ms) None = is in cc
is_object (string s) ms is = let bad : ◌≡◌ {A = Option Members} (Some ms) None = is in cc
is_object (array js) ms is = let bad : ◌≡◌ {A = Option Members} (Some ms) None = is in cc
is_object (object os) ms is = let same : ◌≡◌ {A = Option Members} (Some ms) (Some os) = is in let os_is : os ≡ ms = cc in ap (λ (us : Members). object us) os_is

pub not_changed : (change : List ℕ → Json → Json) (j : Json) → None ≡ members_in j → with_each_member change j ≡ j
not_changed change null is = refl
not_changed change (boolean b) is = refl
not_changed change (number s) is = refl
not_changed change (string s) is = refl
not_changed change (array js) is = refl
not_changed change (object ms) is = let bad : ◌≡◌ {A = Option Members} None (Some ms) = is in cc

pub not_alone : (j : Json) → None ≡ members_in j → in_array j ≡ j
not_alone null is = refl
not_alone (boolean b) is = refl
not_alone (number s) is = refl
not_alone (string s) is = refl
not_alone (array js) is = refl
not_alone (object ms) is = let bad : ◌≡◌ {A = Option Members} None (Some ms) = is in cc

pub alone : (j : Json) (ms : Members) → Some ms ≡ members_in j → array (element j no_elements) ≡ in_array j
alone j ms is = let object_is : j ≡ object ms = is_object j ms is in subst (λ (k : Json). array (element k no_elements) ≡ in_array k) (sym object_is) refl

-- what is shown is known by another name
pub marks_as : (j x y : Json) (a b : Draft) → x ≡ y → Marks j x a b → Marks j y a b
marks_as j x y a b e n = subst (λ (k : Json). Marks j k a b) e n

pub marks_object : (change : List ℕ → Json → Json) (j : Json) (ms : Members) (a b : Draft) → Some ms ≡ members_in j → Marks (object ms) (object (each_member change ms)) a b → Marks j (with_each_member change j) a b
marks_object change j ms a b is n = subst (λ (k : Json). Marks k (with_each_member change k) a b) (sym (is_object j ms is)) n

pub marks_nested : (j x : Json) (t : Bool) (a b : Draft) → is_nested j ≡ t → x ≡ (if t then with_each_member plural_nested_member j else j) → Marks j x a b → Marks j (plural_object j) a b
marks_nested j x t a b is e n = marks_as j x (plural_object j) a b (e ∙ ap (λ (u : Bool). if u then with_each_member plural_nested_member j else j) (sym is)) n

-- ---- one member

-- a name and a value
pub member_marked : (change : List ℕ → Json → Json) (later : Bool) (name key : List ℕ) (j : Json) (a b d : Draft) → key ≡ name → IsUtf8 name → AddsText (name_text later key) (name_text later key) a b
    → Marks j (change key j) b d → MarksMember later later name j (change name j) a d
member_marked change later name key j a b d is utf8 named n =
    let parts : AddsText (member_text later key j) (member_text later key (change key j)) a d =
    adds_as a d (name_text later key ++ written j) (member_text later key j) (name_text later key ++ written (change key j)) (member_text later key (change key j))
    (member_parts later key j) (member_parts later key (change key j))
    (adds_both a b d (name_text later key) (written j) (name_text later key) (written (change key j)) named n.adds) in record {
      utf8 = utf8;
      spellable = n.spellable;
      adds = subst (λ (k : List ℕ). AddsText (member_text later k j) (member_text later k (change k j)) a d) is parts;
    }

-- ---- the members of an object

abbrev pub seen : List Member → Members
seen ms = members_of (map member_view ms)

-- With the rest of the members, the object is whole.
pub record Rest (change : List ℕ → Json → Json) (all : Members) (start : Draft) (later : Bool) (rest : Members) (now : Draft) : Type 0 where
  pub writes : now.text.items ++ members_text later rest ≡ start.text.items ++ written (object all)
  pub shows : IsSoundDraft start → IsSoundDraft now × (shown_text now ++ members_text later (each_member change rest) ≡ shown_text start ++ written (object (each_member change all)))
  pub spellable : AreSpellableMembers rest → AreSpellableMembers all

pub rest_first : (change : List ℕ → Json → Json) (all : Members) (start now : Draft) → AddsText (123 ∷ []) (123 ∷ []) start now → Rest change all start false all now
rest_first change all start now opened = record {
  writes = ap (λ (t : List ℕ). t ++ members_text false all) opened.writes ∙ append_assoc start.text.items (123 ∷ []) (members_text false all);
  shows = λ sound.
      let one = opened.shows sound in
      (one.0, ap (λ (t : List ℕ). t ++ members_text false (each_member change all)) one.1 ∙ append_assoc (shown_text start) (123 ∷ []) (members_text false (each_member change all)));
  spellable = λ rest. rest;
}

rest_next : (change : List ℕ → Json → Json) (all ms : Members) (start now next : Draft) (later : Bool) (name : List ℕ) (j : Json) → Rest change all start later (member name j ms) now
    → MarksMember later later name j (change name j) now next → Rest change all start true ms next
rest_next change all ms start now next later name j so n = record {
  writes = member_more name j ms later now.text.items next.text.items (start.text.items ++ written (object all)) n.adds.writes so.writes;
  shows = λ sound.
      let before = so.shows sound in
      let after = n.adds.shows before.0 in
      (after.0, member_more name (change name j) (each_member change ms) later (shown_text now) (shown_text next) (shown_text start ++ written (object (each_member change all))) after.1 before.1);
  spellable = λ rest. so.spellable (n.utf8, n.spellable, rest);
}

pub rest_step : (change : List ℕ → Json → Json) (ms : List Member) (start now next : Draft) (i : ℕ) (m : Member) → i < length ms → m ≡ get_or ms i m
    → Rest change (seen ms) start (nat_lt 0 i) (seen (drop i ms)) now → MarksMember (nat_lt 0 i) (nat_lt 0 i) m.name (view m.value) (change m.name (view m.value)) now next
    → Rest change (seen ms) start (nat_lt 0 (i + 1)) (seen (drop (i + 1) ms)) next
rest_step change ms start now next i m lt at so n =
    subst (λ (b : Bool). Rest change (seen ms) start b (seen (drop (i + 1) ms)) next) (sym (later_on i))
    (rest_next change (seen ms) (seen (drop (i + 1) ms)) start now next (nat_lt 0 i) m.name (view m.value)
    (subst (λ (us : Members). Rest change (seen ms) start (nat_lt 0 i) us now) (first_left ms i m lt at) so) n)

pub rest_last : (change : List ℕ → Json → Json) (ms left : List Member) (start now next : Draft) (later : Bool) → left ≡ [] → Rest change (seen ms) start later (seen left) now → AddsText (125 ∷ []) (125 ∷ []) now next
    → Marks (object (seen ms)) (object (each_member change (seen ms))) start next
rest_last change ms left start now next later none so closed =
    let all : Rest change (seen ms) start later no_members now = subst (λ (us : List Member). Rest change (seen ms) start later (seen us) now) none so in record {
      spellable = all.spellable tt;
      adds = record {
        writes = closed.writes ∙ all.writes;
        shows = λ sound.
            let before = all.shows sound in
            let after = closed.shows before.0 in
            (after.0, after.1 ∙ before.1);
      };
    }
