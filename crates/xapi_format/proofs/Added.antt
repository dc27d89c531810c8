-- What the store adds, of constant parts and texts in which nothing is escaped.
use Rattle.std.proofs.Common.{◌≡◌, ◌≤◌, ℕ, List, [], ◌∷◌, ◌++◌, Bool, true, false, drop, length, append_assoc, length-append, refl, sym, ap, subst, ◌∙◌, arith, codes}
use Rattle.std.proofs.Math.Seq.{drop-append_seam}
use Rattle.lrs_json.specs.Json.{Json, object, string}
use Rattle.lrs_json.specs.Texts.{member_text, name_text}
use Rattle.lrs_json.specs.View.{members_of}
use Rattle.lrs_json.specs.Written.{comma_if, escaped, members_text, written}
use Rattle.xapi_format.specs.Authorities.{IsMemberText, account_end, account_json, account_name, agent_front, authority_json, authority_name}
use Rattle.xapi_format.specs.declared.authority.Authority.{Authority}
use Rattle.xapi_format.proofs.Appending.{three_members}
use Rattle.xapi_format.proofs.Plain.{IsPlain}

-- ---- ids and moments

pub id_member : (later : Bool) (t : List ℕ) → IsPlain t → (comma_if later ++ codes "\"id\":\"") ++ (t ++ 34 ∷ []) ≡ member_text later (codes "id") (string t)
unfolding escaped
id_member true t plain = ap (λ x. codes ",\"id\":\"" ++ (x ++ 34 ∷ [])) (sym plain)
id_member false t plain = ap (λ x. codes "\"id\":\"" ++ (x ++ 34 ∷ [])) (sym plain)

pub stored_member : (t : List ℕ) → IsPlain t → codes ",\"stored\":\"" ++ (t ++ 34 ∷ []) ≡ member_text true (codes "stored") (string t)
unfolding escaped
stored_member t plain = ap (λ x. codes ",\"stored\":\"" ++ (x ++ 34 ∷ [])) (sym plain)

timestamp_member : (t : List ℕ) → IsPlain t → codes ",\"timestamp\":\"" ++ (t ++ 34 ∷ []) ≡ member_text true (codes "timestamp") (string t)
unfolding escaped
timestamp_member t plain = ap (λ x. codes ",\"timestamp\":\"" ++ (x ++ 34 ∷ [])) (sym plain)

-- the quote behind the first text belongs to the next part
regroup : (a b t : List ℕ) → (a ++ t) ++ ((34 ∷ (b ++ t)) ++ 34 ∷ []) ≡ (a ++ (t ++ 34 ∷ [])) ++ (b ++ (t ++ 34 ∷ []))
regroup a b t = simp append_assoc refl

pub both_times : (t : List ℕ) → IsPlain t → (codes ",\"timestamp\":\"" ++ t) ++ ((codes "\",\"stored\":\"" ++ t) ++ 34 ∷ [])
    ≡ member_text true (codes "timestamp") (string t) ++ member_text true (codes "stored") (string t)
both_times t plain =
    regroup (codes ",\"timestamp\":\"") (codes ",\"stored\":\"") t ∙ (ap (λ x. x ++ (codes ",\"stored\":\"" ++ (t ++ 34 ∷ []))) (timestamp_member t plain)
    ∙ ap (λ x. member_text true (codes "timestamp") (string t) ++ x) (stored_member t plain))

-- ---- names and versions

pub timestamp_name : codes ",\"timestamp\":" ≡ name_text true (codes "timestamp")
unfolding escaped
timestamp_name = refl

pub version_name : codes ",\"version\":" ≡ name_text true (codes "version")
unfolding escaped
version_name = refl

pub version_last : codes ",\"version\":\"1.0.0\"}" ≡ members_text true (members_of ((codes "version", string (codes "1.0.0")) ∷ []))
unfolding escaped
version_last = refl

-- ---- authorities

authority_member : (j : Json) → codes ",\"authority\":" ++ written j ≡ member_text true (codes "authority") j
unfolding escaped
authority_member j = refl

agent_whole : (a : Authority) → agent_front a ++ account_end a ≡ member_text true (codes "authority") (authority_json a)
agent_whole a =
    let x : List ℕ = member_text false (codes "objectType") (string (codes "Agent")) in
    let y : List ℕ = member_text true (codes "name") (string (authority_name a)) in
    append_assoc (codes ",\"authority\":{") (x ++ y) (account_end a) ∙ (ap (λ t. codes ",\"authority\":{" ++ t) (append_assoc x y (account_end a))
    ∙ (ap (λ t. codes ",\"authority\":" ++ t) (sym (three_members (codes "objectType") (codes "name") (codes "account") (string (codes "Agent")) (string (authority_name a)) (account_json (account_name a)))) ∙ authority_member (authority_json a)))

pub account_only : (account : Json) → codes ",\"authority\":{\"objectType\":\"Agent\"" ++ members_text true (members_of ((codes "account", account) ∷ []))
    ≡ member_text true (codes "authority") (object (members_of ((codes "objectType", string (codes "Agent")) ∷ (codes "account", account) ∷ [])))
unfolding escaped
account_only account = refl

seam_within : (xs ys : List ℕ) → length xs ≤ length (xs ++ ys)
seam_within xs ys = rw (length-append xs ys) (omega arith)

-- the text that is made of both, with the offset between them
pub written_both : (a : Authority) (s m1 m2 m3 : List ℕ) (at : ℕ) → s ≡ [] → m1 ≡ s ++ agent_front a → at ≡ length m1 → m2 ≡ m1 ++ account_end a → m3 ≡ m2 → IsMemberText a m3 at
written_both a s m1 m2 m3 at e0 e1 length_is e2 e3 =
    let front : m1 ≡ agent_front a = e1 ∙ ap (λ t. t ++ agent_front a) e0 in
    let whole : m3 ≡ m1 ++ account_end a = e3 ∙ e2 in
    record {
      member = whole ∙ (ap (λ t. t ++ account_end a) front ∙ agent_whole a);
      within = subst (λ (n : ℕ). n ≤ length m3) (sym length_is) (subst (λ (t : List ℕ). length m1 ≤ length t) (sym whole) (seam_within m1 (account_end a)));
      ends = subst (λ (n : ℕ). drop n m3 ≡ account_end a) (sym length_is) (subst (λ (t : List ℕ). drop (length m1) t ≡ account_end a) (sym whole) (drop-append_seam m1 (account_end a)));
    }
