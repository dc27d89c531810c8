-- What was written is read back.
use Rattle.std.proofs.Common.{◌≡◌, ◌≢◌, ◌<◌, ℕ, List, [], ◌∷◌, ◌++◌, Bool, true, false, not, length, drop, map, Result, Ok, Err, MatchBool, refl, sym, ap, ◌∙◌, subst, arith, append_assoc}
use Rattle.std.proofs.lemmas.List.{append-nil, map-append}
use Rattle.lrs_decimal.specs.Numbers.{Ends}
use Rattle.lrs_json.specs.Json.{Json, array, object, Elements, no_elements, element, Members, no_members, member}
use Rattle.lrs_json.specs.View.{view, member_view, elements_of, members_of}
use Rattle.lrs_json.specs.Spellable.{IsSpellable, AreSpellableElements, AreSpellableMembers}
use Rattle.lrs_json.specs.Written.{quoted, written, written_tree, elements_text, members_text}
use Rattle.lrs_json.specs.declared.tree.Tree.{Tree, Number, List as Many, Object}
use Rattle.lrs_json.specs.declared.tree.Member.{Member}
use Rattle.lrs_json.proofs.Back.{same_tree}
use Rattle.lrs_json.proofs.Views.{view-Number, view-List, view-Object}
use Rattle.lrs_json_reader.specs.Located as Located
use Rattle.lrs_json_reader.specs.Located.{plain}
use Rattle.lrs_json_reader.specs.Grammar.{Quoted, Value}
use Rattle.lrs_json_reader.specs.Steps.{Finds, StepsOverCommaOr}
use Rattle.lrs_json_reader.specs.Rereading.{Rereads, RereadsNumber, RereadsLeaf, RereadsValue, RereadsMember, NumeralAt, WrittenAt, NamedAt, before_elements, before_members, ElementsLeft, MembersLeft, RereadsNextItem, RereadsNextMember}
use Rattle.lrs_json_reader.specs.declared.cursor.Stop.{Stop}
use Rattle.lrs_json_reader.specs.declared.cursor.Stop.TheVariants.{Memory}
use Rattle.lrs_json_reader.proofs.FirstBytes.{begins_array, begins_object, first_is, starts_at, only_number}
use Rattle.lrs_json_reader.proofs.Ends.{Value-Opens}
use Rattle.lrs_json_reader.proofs.StepLemmas.{not_close, over_this}
use Rattle.lrs_json_reader.proofs.WrittenLemmas.{quoted-Quoted, locate, plain-locate, written-Value}

-- ---- one kind of value that holds no others, said of all

pub kind_again : {Z : Type 0} (f : Z → Located.Located) (shown : Z → Tree) (Is : Z → List ℕ → List ℕ → Type 0) (old new : List ℕ) (r : Result Tree Stop) → ((x : Located.Located) (rest : List ℕ) → Value x old rest → (z : Z) × (x ≡ f z))
    → ((z : Z) (rest : List ℕ) → Value (f z) old rest → Is z old rest) → ((z : Z) → view (shown z) ≡ plain (f z)) → Rereads Is shown (λ t. t) old r new → RereadsLeaf old r new
kind_again f shown Is old new (Ok t) only from sees all = λ x rest v ends.
    let o = only x rest v in
    let a = all o.0 rest (from o.0 rest (subst (λ k. Value k old rest) o.1 v)) ends in
    (ap view a.0 ∙ sees o.0 ∙ ap plain (sym o.1), a.1)
kind_again f shown Is old new (Err y) only from sees all = λ x rest v ends. let o = only x rest v in all o.0 rest (from o.0 rest (subst (λ k. Value k old rest) o.1 v)) ends

pub numeral_again : (b : ℕ) (more old new : List ℕ) (r : Result Tree Stop) → old ≡ b ∷ more → b ≢ 110 → b ≢ 116 → b ≢ 102 → b ≢ 34 → b ≢ 91 → b ≢ 123 → RereadsNumber old r new → RereadsLeaf old r new
numeral_again b more old new r here n t f q l o all =
    kind_again (λ k. Located.number k.0 k.1) (λ k. Number k.1) (λ k bytes rest. NumeralAt k.1 bytes rest) old new r (λ x rest v. only_number x b (starts_at x old more rest b here v) n t f q l o) (λ k rest v. (v.0, v.1)) (λ k. view-Number k.1)
    (λ k rest at ends. all k.1 rest at ends)

-- ---- what is written is a text of the grammar

pub written_at : (j : Json) (old rest : List ℕ) → WrittenAt j old rest → Value (locate j rest) old rest
written_at j old rest w = subst (λ z. Value (locate j rest) z rest) (sym w.1) (written-Value j rest w.0)

pub leaf_again : (old new : List ℕ) (r : Result Tree Stop) → RereadsLeaf old r new → RereadsValue old r new
leaf_again old new (Ok t) all = λ j rest w ends. let a = all (locate j rest) rest (written_at j old rest w) ends in (a.0 ∙ plain-locate j rest, a.1)
leaf_again old new (Err y) all = λ j rest w ends. all (locate j rest) rest (written_at j old rest w) ends

array_at : (j : Json) (start more rest : List ℕ) → start ≡ 91 ∷ more → WrittenAt j start rest → (js : Elements) × (j ≡ array js) × AreSpellableElements js × (start ≡ 91 ∷ (elements_text false js ++ rest))
array_at j start more rest e w =
    let o = begins_array j rest (first_is j start more rest 91 w.0 e w.1) in
    (o.0, o.1, subst IsSpellable o.1 w.0, w.1 ∙ ap (λ z. written z ++ rest) o.1)

object_at : (j : Json) (start more rest : List ℕ) → start ≡ 123 ∷ more → WrittenAt j start rest → (ms : Members) × (j ≡ object ms) × AreSpellableMembers ms × (start ≡ 123 ∷ (members_text false ms ++ rest))
object_at j start more rest e w =
    let o = begins_object j rest (first_is j start more rest 123 w.0 e w.1) in
    (o.0, o.1, subst IsSpellable o.1 w.0, w.1 ∙ ap (λ z. written z ++ rest) o.1)

-- ---- arrays

elements-push : (js : List Json) (j : Json) (more : Elements) → before_elements (js ++ j ∷ []) more ≡ before_elements js (element j more)
elements-push [] j more = refl
elements-push (k ∷ js) j more = ap (element k) (elements-push js j more)

elements-done : (js : List Json) → before_elements js no_elements ≡ elements_of js
elements-done [] = refl
elements-done (j ∷ js) = ap (element j) (elements-done js)

pub elements_Ends : (more : Elements) (rest : List ℕ) → Ends (elements_text true more ++ rest)
elements_Ends no_elements rest = refl
elements_Ends (element j js) rest = refl

element_pushed : (read new : List Tree) (t : Tree) (j : Json) (more all : Elements) → new ≡ read ++ t ∷ [] → view t ≡ j → all ≡ before_elements (map view read) (element j more) → all ≡ before_elements (map view new) more
element_pushed read new t j more all is sees e =
    e ∙ sym (elements-push (map view read) j more) ∙ ap (λ z. before_elements z more) (sym (ap (map view) is ∙ map-append view read (t ∷ []) ∙ ap (λ z. map view read ++ z ∷ []) sees))

element_after : (more all : Elements) (new : List Tree) (mid next rest : List ℕ) (r : Result Bool Stop) → all ≡ before_elements (map view new) more → AreSpellableElements more → mid ≡ elements_text true more ++ rest → StepsOverCommaOr 93 mid r next
    → Finds r (λ goes. ElementsLeft goes all new next rest)
element_after no_elements all new mid next rest (Ok goes) pushed ok at on = let e = over_this 93 false mid next rest (Ok goes) (λ c. omega arith) on at in subst (λ z. ElementsLeft z all new next rest) (sym e.0) (pushed, e.1)
element_after no_elements all new mid next rest (Err y) pushed ok at on = on.all false rest at
element_after (element j js) all new mid next rest (Ok goes) pushed ok at on =
    let e = over_this 93 true mid next ((written j ++ elements_text true js) ++ rest) (Ok goes) (λ c. omega arith) on at in
    subst (λ z. ElementsLeft z all new next rest) (sym e.0) (j, js, pushed, (ok.0, e.1 ∙ append_assoc (written j) (elements_text true js) rest), ok.1)
element_after (element j js) all new mid next rest (Err y) pushed ok at on = on.all true ((written j ++ elements_text true js) ++ rest) at

pub item_again : (read new : List Tree) (t : Tree) (here mid next : List ℕ) (r : Result Bool Stop) → new ≡ read ++ t ∷ [] → RereadsValue here (Ok t) mid → StepsOverCommaOr 93 mid r next → RereadsNextItem read here r new next
item_again read new t here mid next r is again on = λ all rest left.
    let a = again left.0 (elements_text true left.1 ++ rest) left.3 (elements_Ends left.1 rest) in
    element_after left.1 all new mid next rest r (element_pushed read new t left.0 left.1 all is a.0 left.2) left.4 a.1 on

-- what a fault hands on
pub item_fault : (read : List Tree) (here : List ℕ) (y : Stop) → RereadsValue here (Err y) here → (all : Elements) (rest : List ℕ) → ElementsLeft true all read here rest → y ≡ Memory
item_fault read here y again all rest left = again left.0 (elements_text true left.1 ++ rest) left.3 (elements_Ends left.1 rest)

-- From a bracket on these were read, and here is what follows them.
pub record ListAgain (start : List ℕ) (goes : Bool) (read : List Tree) (here : List ℕ) : Type 0 where
  pub again : (all : Elements) (rest : List ℕ) → AreSpellableElements all → start ≡ 91 ∷ (elements_text false all ++ rest) → ElementsLeft goes all read here rest
  pub shorter : length here < length start

no_bracket : (j : Json) (js : Elements) (here rest : List ℕ) → IsSpellable j → 93 ∷ here ≡ (written j ++ elements_text true js) ++ rest → ⊥
no_bracket j js here rest ok e =
    let r = elements_text true js ++ rest in
    let w : WrittenAt j (93 ∷ here) r = (ok, e ∙ append_assoc (written j) (elements_text true js) rest) in
    not_close 93 (93 ∷ here) here (Value-Opens (locate j r) (93 ∷ here) r (written_at j (93 ∷ here) r w)) refl

list_empty : (all : Elements) (here rest : List ℕ) → AreSpellableElements all → 93 ∷ here ≡ elements_text false all ++ rest → ElementsLeft false all [] here rest
list_empty no_elements here rest ok e = (refl, cc e)
list_empty (element j js) here rest ok e = absurd (no_bracket j js here rest ok.0 e)

list_some : (all : Elements) (here rest : List ℕ) → AreSpellableElements all → ((end : List ℕ) → here ≡ 93 ∷ end → ⊥) → here ≡ elements_text false all ++ rest → ElementsLeft true all [] here rest
list_some no_elements here rest ok none e = absurd (none rest e)
list_some (element j js) here rest ok none e = (j, js, refl, (ok.0, e ∙ append_assoc (written j) (elements_text true js) rest), ok.1)

pub tail_same : (b : ℕ) (xs ys : List ℕ) → b ∷ xs ≡ b ∷ ys → xs ≡ ys
tail_same b xs ys e = cc e

pub list_begun : (start more mid here : List ℕ) (comes : Bool) → start ≡ 91 ∷ more → mid ≡ drop 1 start → MatchBool comes (mid ≡ (93 ∷ []) ++ here) ((here ≡ mid) × ((rest : List ℕ) → mid ≡ (93 ∷ []) ++ rest → ⊥)) → ListAgain start (not comes) [] here
list_begun start more mid here true e d took =
    let m : mid ≡ more = d ∙ ap (drop 1) e in
    record {
      again = λ all rest ok w. list_empty all here rest ok (sym took ∙ m ∙ tail_same 91 more (elements_text false all ++ rest) (sym e ∙ w));
      shorter = omega (arith, ap length e, ap length m, ap length took);
    }
list_begun start more mid here false e d took =
    let m : mid ≡ more = d ∙ ap (drop 1) e in
    record {
      again = λ all rest ok w. list_some all here rest ok (λ end h. took.1 end (sym took.0 ∙ h)) (took.0 ∙ m ∙ tail_same 91 more (elements_text false all ++ rest) (sym e ∙ w));
      shorter = omega (arith, ap length e, ap length m, ap length took.0);
    }

pub list_next : (start : List ℕ) (read new : List Tree) (here next : List ℕ) (goes : Bool) → ListAgain start true read here → RereadsNextItem read here (Ok goes) new next → length next < length here → ListAgain start goes new next
list_next start read new here next goes so again l = record { again = λ all rest ok w. again all rest (so.again all rest ok w); shorter = omega (arith, l, so.shorter) }

pub list_fault : (start more : List ℕ) (read : List Tree) (here : List ℕ) (y : Stop) → start ≡ 91 ∷ more → ListAgain start true read here → RereadsNextItem read here (Err y) read here → (j : Json) (rest : List ℕ) → WrittenAt j start rest → y ≡ Memory
list_fault start more read here y e so again j rest w = let a = array_at j start more rest e w in again a.0 rest (so.again a.0 rest a.2 a.3)

pub list_done : (start more here : List ℕ) (items : List Tree) → start ≡ 91 ∷ more → ListAgain start false items here → RereadsValue start (Ok (Many items)) here
list_done start more here items e so = λ j rest w ends.
    let a = array_at j start more rest e w in
    let l = so.again a.0 rest a.2 a.3 in
    (view-List items ∙ ap array (sym (l.0 ∙ elements-done (map view items))) ∙ sym a.1, l.1)

-- ---- objects

members-push : (ms : List (List ℕ × Json)) (m : List ℕ × Json) (more : Members) → before_members (ms ++ m ∷ []) more ≡ before_members ms (member m.0 m.1 more)
members-push [] m more = refl
members-push (k ∷ ms) m more = ap (member k.0 k.1) (members-push ms m more)

members-done : (ms : List (List ℕ × Json)) → before_members ms no_members ≡ members_of ms
members-done [] = refl
members-done (m ∷ ms) = ap (member m.0 m.1) (members-done ms)

pub members_Ends : (more : Members) (rest : List ℕ) → Ends (members_text true more ++ rest)
members_Ends no_members rest = refl
members_Ends (member k j ms) rest = refl

-- what stands where a member is written
named_text : (k : List ℕ) (j : Json) (ms : Members) (rest : List ℕ) → (quoted k ++ 58 ∷ written j ++ members_text true ms) ++ rest ≡ quoted k ++ 58 ∷ (written j ++ (members_text true ms ++ rest))
named_text k j ms rest = simp append_assoc

member_pushed : (read new : List Member) (t : Member) (m : List ℕ × Json) (more all : Members) → new ≡ read ++ t ∷ [] → member_view t ≡ m → all ≡ before_members (map member_view read) (member m.0 m.1 more)
    → all ≡ before_members (map member_view new) more
member_pushed read new t m more all is sees e =
    e ∙ sym (members-push (map member_view read) m more) ∙ ap (λ z. before_members z more) (sym (ap (map member_view) is ∙ map-append member_view read (t ∷ []) ∙ ap (λ z. map member_view read ++ z ∷ []) sees))

member_after : (more all : Members) (new : List Member) (mid next rest : List ℕ) (r : Result Bool Stop) → all ≡ before_members (map member_view new) more → AreSpellableMembers more → mid ≡ members_text true more ++ rest → StepsOverCommaOr 125 mid r next
    → Finds r (λ goes. MembersLeft goes all new next rest)
member_after no_members all new mid next rest (Ok goes) pushed ok at on = let e = over_this 125 false mid next rest (Ok goes) (λ c. omega arith) on at in subst (λ z. MembersLeft z all new next rest) (sym e.0) (pushed, e.1)
member_after no_members all new mid next rest (Err y) pushed ok at on = on.all false rest at
member_after (member k j ms) all new mid next rest (Ok goes) pushed ok at on =
    let e = over_this 125 true mid next ((quoted k ++ 58 ∷ written j ++ members_text true ms) ++ rest) (Ok goes) (λ c. omega arith) on at in
    subst (λ z. MembersLeft z all new next rest) (sym e.0) ((k, j), ms, pushed, (ok.0, ok.1, e.1 ∙ named_text k j ms rest), ok.2)
member_after (member k j ms) all new mid next rest (Err y) pushed ok at on = on.all true ((quoted k ++ 58 ∷ written j ++ members_text true ms) ++ rest) at

pub members_again : (read new : List Member) (t : Member) (here mid next : List ℕ) (r : Result Bool Stop) → new ≡ read ++ t ∷ [] → RereadsMember here (Ok t) mid → StepsOverCommaOr 125 mid r next → RereadsNextMember read here r new next
members_again read new t here mid next r is again on = λ all rest left.
    let a = again left.0 (members_text true left.1 ++ rest) left.3 (members_Ends left.1 rest) in
    member_after left.1 all new mid next rest r (member_pushed read new t left.0 left.1 all is a.0 left.2) left.4 a.1 on

pub members_fault : (read : List Member) (here : List ℕ) (y : Stop) → RereadsMember here (Err y) here → (all : Members) (rest : List ℕ) → MembersLeft true all read here rest → y ≡ Memory
members_fault read here y again all rest left = again left.0 (members_text true left.1 ++ rest) left.3 (members_Ends left.1 rest)

pub record ObjectAgain (start : List ℕ) (goes : Bool) (read : List Member) (here : List ℕ) : Type 0 where
  pub again : (all : Members) (rest : List ℕ) → AreSpellableMembers all → start ≡ 123 ∷ (members_text false all ++ rest) → MembersLeft goes all read here rest
  pub shorter : length here < length start

object_empty : (all : Members) (here rest : List ℕ) → AreSpellableMembers all → 125 ∷ here ≡ members_text false all ++ rest → MembersLeft false all [] here rest
object_empty no_members here rest ok e = (refl, cc e)
object_empty (member k j ms) here rest ok e = let h : ◌≡◌ {A = ℕ} 125 34 = cc e in absurd (omega (arith, h))

object_some : (all : Members) (here rest : List ℕ) → AreSpellableMembers all → ((end : List ℕ) → here ≡ 125 ∷ end → ⊥) → here ≡ members_text false all ++ rest → MembersLeft true all [] here rest
object_some no_members here rest ok none e = absurd (none rest e)
object_some (member k j ms) here rest ok none e = ((k, j), ms, refl, (ok.0, ok.1, e ∙ named_text k j ms rest), ok.2)

pub object_begun : (start more mid here : List ℕ) (comes : Bool) → start ≡ 123 ∷ more → mid ≡ drop 1 start → MatchBool comes (mid ≡ (125 ∷ []) ++ here) ((here ≡ mid) × ((rest : List ℕ) → mid ≡ (125 ∷ []) ++ rest → ⊥)) → ObjectAgain start (not comes) [] here
object_begun start more mid here true e d took =
    let m : mid ≡ more = d ∙ ap (drop 1) e in
    record {
      again = λ all rest ok w. object_empty all here rest ok (sym took ∙ m ∙ tail_same 123 more (members_text false all ++ rest) (sym e ∙ w));
      shorter = omega (arith, ap length e, ap length m, ap length took);
    }
object_begun start more mid here false e d took =
    let m : mid ≡ more = d ∙ ap (drop 1) e in
    record {
      again = λ all rest ok w. object_some all here rest ok (λ end h. took.1 end (sym took.0 ∙ h)) (took.0 ∙ m ∙ tail_same 123 more (members_text false all ++ rest) (sym e ∙ w));
      shorter = omega (arith, ap length e, ap length m, ap length took.0);
    }

pub object_next : (start : List ℕ) (read new : List Member) (here next : List ℕ) (goes : Bool) → ObjectAgain start true read here → RereadsNextMember read here (Ok goes) new next → length next < length here → ObjectAgain start goes new next
object_next start read new here next goes so again l = record { again = λ all rest ok w. again all rest (so.again all rest ok w); shorter = omega (arith, l, so.shorter) }

pub object_fault : (start more : List ℕ) (read : List Member) (here : List ℕ) (y : Stop) → start ≡ 123 ∷ more → ObjectAgain start true read here → RereadsNextMember read here (Err y) read here → (j : Json) (rest : List ℕ) → WrittenAt j start rest → y ≡ Memory
object_fault start more read here y e so again j rest w = let a = object_at j start more rest e w in again a.0 rest (so.again a.0 rest a.2 a.3)

pub object_done : (start more here : List ℕ) (members : List Member) → start ≡ 123 ∷ more → ObjectAgain start false members here → RereadsValue start (Ok (Object members)) here
object_done start more here members e so = λ j rest w ends.
    let a = object_at j start more rest e w in
    let l = so.again a.0 rest a.2 a.3 in
    (view-Object members ∙ ap object (sym (l.0 ∙ members-done (map member_view members))) ∙ sym a.1, l.1)

-- ---- one member

-- the name stands at its front
pub name_at : (m : List ℕ × Json) (old rest : List ℕ) → NamedAt m old rest → Quoted m.0 old (58 ∷ (written m.1 ++ rest))
name_at m old rest w = let r = 58 ∷ (written m.1 ++ rest) in subst (λ z. Quoted m.0 z r) (sym w.2) (quoted-Quoted m.0 r w.0)

-- and behind the colon the value
pub value_at : (m : List ℕ × Json) (name old mid here rest : List ℕ) → ((text end : List ℕ) → Quoted text old end → (name ≡ text) × (mid ≡ end)) → mid ≡ (58 ∷ []) ++ here → NamedAt m old rest → (name ≡ m.0) × WrittenAt m.1 here rest
value_at m name old mid here rest all colon w =
    let q = all m.0 (58 ∷ (written m.1 ++ rest)) (name_at m old rest w) in
    (q.0, (w.1, tail_same 58 here (written m.1 ++ rest) (sym colon ∙ q.1)))

pub member_done : (name old mid here next : List ℕ) (t : Tree) (made : Member) → member_view made ≡ (name, view t) → ((text end : List ℕ) → Quoted text old end → (name ≡ text) × (mid ≡ end)) → mid ≡ (58 ∷ []) ++ here
    → RereadsValue here (Ok t) next → RereadsMember old (Ok made) next
member_done name old mid here next t made is all colon again = λ m rest w ends.
    let v = value_at m name old mid here rest all colon w in
    let a = again m.1 rest v.1 ends in
    (is ∙ ap (λ z. (z, view t)) v.0 ∙ ap (λ z. (m.0, z)) a.0, a.1)

-- ---- the whole text

whole_at : (text old : List ℕ) (t : Tree) → old ≡ text → IsSpellable (view t) → text ≡ written_tree t → WrittenAt (view t) old []
whole_at text old t e ok w = (ok, e ∙ w ∙ sym (append-nil (written (view t))))

pub whole_again : (text old new : List ℕ) (tree t : Tree) → old ≡ text → RereadsValue old (Ok tree) new → IsSpellable (view t) → text ≡ written_tree t → tree ≡ t
whole_again text old new tree t e again ok w = same_tree tree t (again (view t) [] (whole_at text old t e ok w) tt).0

pub whole_fault : (text old : List ℕ) (y : Stop) (t : Tree) → old ≡ text → RereadsValue old (Err y) old → IsSpellable (view t) → text ≡ written_tree t → y ≡ Memory
whole_fault text old y t e again ok w = again (view t) [] (whole_at text old t e ok w) tt
