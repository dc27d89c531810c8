-- Reducing what was completed is one step.
use Rattle.std.proofs.Common.{◌≡◌, ℕ, List, Bool, true, false, codes, [], ◌∷◌, ◌++◌, refl, sym, ap, ◌∙◌, subst, append_assoc}
use Rattle.std.specs.Str.{bytes_eq}
use Rattle.std.proofs.lemmas.Slice.Eq.{bytes_eq-Decides}
use Rattle.lrs_json.specs.Json.{Json, null, boolean, number, string, array, object, Members, no_members, member}
use Rattle.lrs_json.specs.Find.{find_member}
use Rattle.lrs_json.specs.Written.{members_text, written}
use Rattle.lrs_names.specs.Members.{is_one_of}
use Rattle.xapi_values.specs.Kinds.{kind_of, kind_stated, same_kind}
use Rattle.xapi_values.specs.declared.kinds.Kind.{Kind}
use Rattle.xapi_values.specs.Memberwise.{each_member, with_each_member}
use Rattle.xapi_values.specs.Nested.{is_nested}
use Rattle.xapi_format.specs.Authorities.{account_agent, account_name, authority_agent, authority_json}
use Rattle.xapi_format.specs.declared.authority.Authority.{Authority}
use Rattle.xapi_format.specs.Completed.{added, added_names, completed, kept_before, plural_activities_member, plural_context_member, plural_member, plural_nested_member, plural_object}
use Rattle.xapi_reduced.specs.Reduced.{reduced, reduced_activities, reduced_context_member, reduced_member, reduced_nested_member, reduced_object, reduced_party}
use Rattle.xapi_reduced.specs.Direct.{direct_activities, direct_before, direct_context_member, direct_member, direct_nested_member, direct_object}

-- ---- two changes of each member

each_fused : (f g h : List ℕ → Json → Json) → ((name : List ℕ) (j : Json) → f name (g name j) ≡ h name j) → (ms : Members) → each_member f (each_member g ms) ≡ each_member h ms
each_fused f g h same no_members = refl
each_fused f g h same (member name j ms) = ap (λ k. member name k (each_member f (each_member g ms))) (same name j) ∙ ap (member name (h name j)) (each_fused f g h same ms)

with_fused : (f g h : List ℕ → Json → Json) → ((name : List ℕ) (j : Json) → f name (g name j) ≡ h name j) → (j : Json) → with_each_member f (with_each_member g j) ≡ with_each_member h j
with_fused f g h same null = refl
with_fused f g h same (boolean b) = refl
with_fused f g h same (number s) = refl
with_fused f g h same (string s) = refl
with_fused f g h same (array js) = refl
with_fused f g h same (object ms) = ap object (each_fused f g h same ms)

-- ---- contexts

context_step : (name : List ℕ) (j : Json) (t : Bool) → bytes_eq name (codes "contextActivities") ≡ t → reduced_context_member name (plural_context_member name j) ≡ direct_context_member name j
context_step name j true e =
    subst (λ n. reduced_context_member n (plural_context_member n j) ≡ direct_context_member n j) (sym ((bytes_eq-Decides name (codes "contextActivities")).0 e))
    (with_fused reduced_activities plural_activities_member direct_activities (λ n k. refl) j)
context_step name j false e = rw e refl

context_fused : (j : Json) → with_each_member reduced_context_member (with_each_member plural_context_member j) ≡ with_each_member direct_context_member j
context_fused j = with_fused reduced_context_member plural_context_member direct_context_member (λ name k. context_step name k (bytes_eq name (codes "contextActivities")) refl) j

-- ---- objects

nested_step : (name : List ℕ) (j : Json) (t : Bool) → bytes_eq name (codes "context") ≡ t → reduced_nested_member name (plural_nested_member name j) ≡ direct_nested_member name j
nested_step name j true e =
    subst (λ n. reduced_nested_member n (plural_nested_member n j) ≡ direct_nested_member n j) (sym ((bytes_eq-Decides name (codes "context")).0 e)) (context_fused j)
nested_step name j false e = rw e refl

nested_fused : (j : Json) → with_each_member reduced_nested_member (with_each_member plural_nested_member j) ≡ with_each_member direct_nested_member j
nested_fused j = with_fused reduced_nested_member plural_nested_member direct_nested_member (λ name k. nested_step name k (bytes_eq name (codes "context")) refl) j

-- the kind that an object names stays
kind_step : (name : List ℕ) (j : Json) (ms : Members) (t : Bool) → bytes_eq name (codes "objectType") ≡ t → find_member (codes "objectType") (each_member plural_nested_member ms) ≡ find_member (codes "objectType") ms
    → find_member (codes "objectType") (each_member plural_nested_member (member name j ms)) ≡ find_member (codes "objectType") (member name j ms)
kind_step name j ms true e so =
    subst (λ n. find_member (codes "objectType") (each_member plural_nested_member (member n j ms)) ≡ find_member (codes "objectType") (member n j ms))
    (sym ((bytes_eq-Decides name (codes "objectType")).0 e)) refl
kind_step name j ms false e so = rw e so

kind_found : (ms : Members) → find_member (codes "objectType") (each_member plural_nested_member ms) ≡ find_member (codes "objectType") ms
kind_found no_members = refl
kind_found (member name j ms) = kind_step name j ms (bytes_eq name (codes "objectType")) refl (kind_found ms)

kind_stays : (j : Json) → kind_of (with_each_member plural_nested_member j) ≡ kind_of j
unfolding kind_of
kind_stays null = refl
kind_stays (boolean b) = refl
kind_stays (number s) = refl
kind_stays (string s) = refl
kind_stays (array js) = refl
kind_stays (object ms) = ap kind_stated (kind_found ms)

nested_stays : (j : Json) → is_nested (with_each_member plural_nested_member j) ≡ is_nested j
nested_stays j = ap (λ k. same_kind k Kind.SubStatement) (kind_stays j)

object_step : (j : Json) (t : Bool) → is_nested j ≡ t → reduced_object (plural_object j) ≡ direct_object j
unfolding reduced_object direct_object
object_step j true e =
    let still : is_nested (with_each_member plural_nested_member j) ≡ true = nested_stays j ∙ e in
    let whole : plural_object j ≡ with_each_member plural_nested_member j = rw e refl in
    ap reduced_object whole ∙ (rw (e, still) (nested_fused j))
object_step j false e =
    let whole : plural_object j ≡ j = rw e refl in
    ap reduced_object whole ∙ (rw e refl)

object_fused : (j : Json) → reduced_object (plural_object j) ≡ direct_object j
object_fused j = object_step j (is_nested j) refl

-- ---- statements

-- a name that the store doesn't write itself
is_kept : (name : List ℕ) (t : Bool) → is_one_of added_names name ≡ false → bytes_eq name (codes "authority") ≡ t → bytes_eq name (codes "authority") ≡ false
is_kept name true kept e =
    let bad : true ≡ false = subst (λ n. is_one_of added_names n ≡ false) ((bytes_eq-Decides name (codes "authority")).0 e) kept in absurd (let no_way : ⊥ = cc bad in no_way)
is_kept name false kept e = e

member_last : (name : List ℕ) (j : Json) (t : Bool) → bytes_eq name (codes "authority") ≡ false → bytes_eq name (codes "context") ≡ false → bytes_eq name (codes "object") ≡ t
    → reduced_member name (plural_member name j) ≡ direct_member name j
member_last name j true not_authority not_context e =
    subst (λ n. reduced_member n (plural_member n j) ≡ direct_member n j) (sym ((bytes_eq-Decides name (codes "object")).0 e)) (object_fused j)
member_last name j false not_authority not_context e = rw (e, not_authority, not_context) refl

member_step : (name : List ℕ) (j : Json) (t : Bool) → bytes_eq name (codes "authority") ≡ false → bytes_eq name (codes "context") ≡ t → reduced_member name (plural_member name j) ≡ direct_member name j
member_step name j true not_authority e =
    subst (λ n. reduced_member n (plural_member n j) ≡ direct_member n j) (sym ((bytes_eq-Decides name (codes "context")).0 e)) (context_fused j)
member_step name j false not_authority e = member_last name j (bytes_eq name (codes "object")) not_authority e refl

before_step : (name : List ℕ) (j : Json) (ms behind : Members) (t : Bool) → is_one_of added_names name ≡ t → each_member reduced_member (kept_before ms behind) ≡ direct_before ms (each_member reduced_member behind)
    → each_member reduced_member (kept_before (member name j ms) behind) ≡ direct_before (member name j ms) (each_member reduced_member behind)
before_step name j ms behind true e so = rw e so
before_step name j ms behind false e so =
    let not_authority : bytes_eq name (codes "authority") ≡ false = is_kept name (bytes_eq name (codes "authority")) e refl in
    let same : reduced_member name (plural_member name j) ≡ direct_member name j = member_step name j (bytes_eq name (codes "context")) not_authority refl in
    rw e (ap (λ k. member name k (each_member reduced_member (kept_before ms behind))) same ∙ ap (member name (direct_member name j)) so)

before_fused : (ms behind : Members) → each_member reduced_member (kept_before ms behind) ≡ direct_before ms (each_member reduced_member behind)
before_fused no_members behind = refl
before_fused (member name j ms) behind = before_step name j ms behind (is_one_of added_names name) refl (before_fused ms behind)

added_fused : (received : Json) (id stored : List ℕ) (authority : Json) → each_member reduced_member (added received id stored authority) ≡ added received id stored (reduced_party authority)
added_fused received id stored authority = refl

authority_fused : (name account : List ℕ) → reduced_party (authority_agent name account) ≡ account_agent account
unfolding reduced_party kind_of
authority_fused name account = refl

pub whole_fused : (ms : Members) (id stored : List ℕ) (authority : Authority)
    → object (direct_before ms (added (object ms) id stored (account_agent (account_name authority)))) ≡ reduced (completed (object ms) id stored (authority_json authority))
unfolding reduced completed
whole_fused ms id stored authority =
    sym (ap object (before_fused ms (added (object ms) id stored (authority_json authority))
    ∙ ap (direct_before ms) (added_fused (object ms) id stored (authority_json authority)
    ∙ ap (added (object ms) id stored) (authority_fused _ (account_name authority)))))

-- ---- the members of some names

each_stays : (ms : Members) → each_member (λ name j. j) ms ≡ ms
each_stays no_members = refl
each_stays (member name j ms) = ap (member name j) (each_stays ms)

pub with_each_stays : (j : Json) → with_each_member (λ name k. k) j ≡ j
with_each_stays null = refl
with_each_stays (boolean b) = refl
with_each_stays (number s) = refl
with_each_stays (string s) = refl
with_each_stays (array js) = refl
with_each_stays (object ms) = ap object (each_stays ms)

-- ---- what pieces make

-- the brace, and what makes the members whole
pub object_whole : (all more : Members) (later : Bool) (s m1 m2 m3 : List ℕ) → m1 ≡ s ++ (123 ∷ []) → m2 ++ members_text later more ≡ m1 ++ members_text false all → m3 ≡ m2 ++ members_text later more → m3 ≡ s ++ written (object all)
object_whole all more later s m1 m2 m3 e1 e2 e3 =
    e3 ∙ e2 ∙ ap (λ t. t ++ members_text false all) e1 ∙ append_assoc s (123 ∷ []) (members_text false all)
