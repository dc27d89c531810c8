-- What is written piece by piece, and the members of an object as pieces.
use Rattle.std.proofs.Common.{◌≡◌, ℕ, List, [], ◌∷◌, ◌++◌, Bool, true, false, append_assoc, ap, sym, ◌∙◌}
use Rattle.lrs_json.specs.Json.{Json, Members, member, object}
use Rattle.lrs_json.specs.View.{members_of}
use Rattle.lrs_json.specs.Written.{members_text, written}
use Rattle.lrs_json.specs.Texts.{name_text, member_text}
use Rattle.lrs_json.proofs.Pieces.{behind}

pub member_parts : (later : Bool) (name : List ℕ) (j : Json) → name_text later name ++ written j ≡ member_text later name j
member_parts later name j = simp append_assoc

-- a name and its value are the member
pub name_and_value : (later : Bool) (name : List ℕ) (j : Json) (s m1 m2 : List ℕ) → m1 ≡ s ++ name_text later name → m2 ≡ m1 ++ written j → m2 ≡ s ++ member_text later name j
name_and_value later name j s m1 m2 e1 e2 =
    behind s m1 m2 (name_text later name) (written j) e1 e2 ∙ ap (λ t. s ++ t) (member_parts later name j)

-- the first member, and the others
pub first_member : (later : Bool) (name : List ℕ) (j : Json) (ms : Members) → members_text later (member name j ms) ≡ member_text later name j ++ members_text true ms
first_member later name j ms = simp append_assoc

-- an object of three members, as it is written
pub three_members : (a b c : List ℕ) (x y z : Json) → written (object (members_of ((a, x) ∷ (b, y) ∷ (c, z) ∷ []))) ≡ 123 ∷ (member_text false a x ++ (member_text true b y ++ members_text true (members_of ((c, z) ∷ []))))
three_members a b c x y z =
    ap (λ t. 123 ∷ t) (first_member false a x (members_of ((b, y) ∷ (c, z) ∷ [])) ∙ ap (λ t. member_text false a x ++ t) (first_member true b y (members_of ((c, z) ∷ []))))

-- the only member after others, which is an object of two members, and both closing braces
object_last : (n a b : List ℕ) (x y : Json) → members_text true (members_of ((n, object (members_of ((a, x) ∷ (b, y) ∷ []))) ∷ []))
    ≡ name_text true n ++ (123 ∷ (member_text false a x ++ (member_text true b y ++ 125 ∷ 125 ∷ [])))
object_last n a b x y = simp append_assoc

-- ---- what pieces make

-- one member, and those after it
pub member_behind : (later : Bool) (name : List ℕ) (j : Json) (ms : Members) (s m1 m2 : List ℕ) → m1 ≡ s ++ member_text later name j → m2 ≡ m1 ++ members_text true ms → m2 ≡ s ++ members_text later (member name j ms)
member_behind later name j ms s m1 m2 e1 e2 =
    behind s m1 m2 (member_text later name j) (members_text true ms) e1 e2 ∙ ap (λ t. s ++ t) (sym (first_member later name j ms))

-- two members, and those after them
pub two_behind : (a b : List ℕ) (x y : Json) (ms : Members) (s m1 m2 : List ℕ) → m1 ≡ s ++ (member_text true a x ++ member_text true b y) → m2 ≡ m1 ++ members_text true ms → m2 ≡ s ++ members_text true (member a x (member b y ms))
two_behind a b x y ms s m1 m2 e1 e2 =
    behind s m1 m2 (member_text true a x ++ member_text true b y) (members_text true ms) e1 e2
    ∙ ap (λ t. s ++ t) (append_assoc (member_text true a x) (member_text true b y) (members_text true ms)
    ∙ sym (first_member true a x (member b y ms) ∙ ap (λ t. member_text true a x ++ t) (first_member true b y ms)))

-- a name, the brace, and two members with both closing braces
pub account_pieces : (n a b : List ℕ) (x y : Json) (s m1 m2 m3 : List ℕ) → m1 ≡ s ++ name_text true n → m2 ≡ m1 ++ (123 ∷ []) → m3 ≡ m2 ++ (member_text false a x ++ (member_text true b y ++ 125 ∷ 125 ∷ []))
    → m3 ≡ s ++ members_text true (members_of ((n, object (members_of ((a, x) ∷ (b, y) ∷ []))) ∷ []))
account_pieces n a b x y s m1 m2 m3 e1 e2 e3 =
    let rest : List ℕ = member_text false a x ++ (member_text true b y ++ 125 ∷ 125 ∷ []) in
    behind s m1 m3 (name_text true n) (123 ∷ rest) e1 (behind m1 m2 m3 (123 ∷ []) rest e2 e3) ∙ ap (λ t. s ++ t) (sym (object_last n a b x y))

-- one member more of an object, of which others are left
pub member_more : (name : List ℕ) (j : Json) (ms : Members) (later : Bool) (before after whole : List ℕ) → after ≡ before ++ member_text later name j → before ++ members_text later (member name j ms) ≡ whole → after ++ members_text true ms ≡ whole
member_more name j ms later before after whole more all =
    ap (λ t. t ++ members_text true ms) more
    ∙ (append_assoc before (member_text later name j) (members_text true ms)
    ∙ (ap (λ t. before ++ t) (sym (first_member later name j ms)) ∙ all))
