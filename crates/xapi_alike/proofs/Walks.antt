-- Members and items of a normal form, by those of the value.
use Rattle.std.proofs.Common.{◌≡◌, ◌≢◌, ℕ, ◌==◌, suc, ◌+◌, ◌<◌, ◌⊎◌, inl, inr, get_or, length, ◌≤◌, arith, Bool, true, false, ◌&&◌, ◌||◌, List, [], ◌∷◌, ◌++◌, map, take, drop, if◌then◌else◌, refl, sym, ap, ◌∙◌, true≢false}
use Rattle.std.proofs.lemmas.Bool.{ne_eqb, eq-eqb}
use Rattle.std.proofs.lemmas.List.{take-append-drop}
use Rattle.std.specs.Str.{bytes_eq}
use Rattle.std.proofs.lemmas.Slice.Eq.{bytes_eq-Decides}
use Rattle.lrs_json.specs.Json.{Json, array, object, Elements, Members, no_members, member}
use Rattle.lrs_json.specs.View.{view, elements_of, member_view, members_of}
use Rattle.lrs_json.specs.declared.tree.Member.{Member}
use Rattle.lrs_json.specs.declared.tree.Tree.{Tree}
use Rattle.lrs_json.proofs.Lists.{drop_item}
use Rattle.xapi_alike.specs.declared.role.Role.{Role}
use Rattle.xapi_alike.specs.Roles.{is_passed_over, kind_at, role_of_object, role_of_member, role_of_item, is_plural}
use Rattle.xapi_alike.specs.Normal.{Normal, Normals, none, more, Named, named, normal, normal_one, normal_items, normal_members}
use Rattle.xapi_alike.specs.Alike.{alike, all_alike, as_often, same_count, same_bag, has_name, any_named, named_alike, size}
use Rattle.xapi_alike.specs.Steps.{is_alike_within, any_alike, has_member_named}
use Rattle.lrs_json_equal.proofs.SameValues.{absurd_or}

any_step : (p : Role) (k n : List ℕ) (t : Normal → Bool) (i : Json) (rest : Named) (passed same : Bool) → is_passed_over p n ≡ passed → bytes_eq n k ≡ same → (same ≡ true → n ≡ k)
    → is_passed_over p k ≡ false
    → any_named k t (if passed then rest else named n (normal (role_of_member p n) i) rest) ≡ ((same && t (normal (role_of_member p k) i)) || any_named k t rest)
any_step p k n t i rest true true ep es is e = absurd (true≢false (sym ep ∙ ap (is_passed_over p) (is refl) ∙ e))
any_step p k n t i rest true false ep es is e = refl
any_step p k n t i rest false true ep es is e =
    ap (λ (b : Bool). (b && t (normal (role_of_member p n) i)) || any_named k t rest) es
    ∙ ap (λ (m : List ℕ). t (normal (role_of_member p m) i) || any_named k t rest) (is refl)
any_step p k n t i rest false false ep es is e = ap (λ (b : Bool). (b && t (normal (role_of_member p n) i)) || any_named k t rest) es

-- of a name that counts: one is alike among what counts exactly where one is among all members
any_normal : (p : Role) (k : List ℕ) (j : Json) (ms : Members) → is_passed_over p k ≡ false → any_named k (alike (normal (role_of_member p k) j)) (normal_members p ms) ≡ any_alike (role_of_member p k) k j ms
any_normal p k j no_members e = refl
any_normal p k j (member n i ms) e =
    let t = alike (normal (role_of_member p k) j) in
    any_step p k n t i (normal_members p ms) (is_passed_over p n) (bytes_eq n k) refl refl (λ h. (bytes_eq-Decides n k).0 h) e
    ∙ ap (λ (b : Bool). (bytes_eq n k && t (normal (role_of_member p k) i)) || b) (any_normal p k j ms e)

has_step : (p : Role) (k n : List ℕ) (x : Normal) (rest : Named) (passed same : Bool) → is_passed_over p n ≡ passed → bytes_eq n k ≡ same → (same ≡ true → n ≡ k)
    → is_passed_over p k ≡ false → has_name k (if passed then rest else named n x rest) ≡ (same || has_name k rest)
has_step p k n x rest true true ep es is e = absurd (true≢false (sym ep ∙ ap (is_passed_over p) (is refl) ∙ e))
has_step p k n x rest true false ep es is e = refl
has_step p k n x rest false same ep es is e = ap (λ (b : Bool). b || has_name k rest) es

pub has_normal : (p : Role) (k : List ℕ) (ms : Members) → is_passed_over p k ≡ false → has_name k (normal_members p ms) ≡ has_member_named k ms
has_normal p k no_members e = refl
has_normal p k (member n i ms) e =
    has_step p k n (normal (role_of_member p n) i) (normal_members p ms) (is_passed_over p n) (bytes_eq n k) refl refl (λ h. (bytes_eq-Decides n k).0 h) e
    ∙ ap (λ (b : Bool). bytes_eq n k || b) (has_normal p k ms e)

-- ---- members in two halves

or_false : (b : Bool) → b ≡ (b || false)
or_false true = refl
or_false false = refl

or_swap : (a b c : Bool) → (a || (b || c)) ≡ (b || (a || c))
or_swap true true c = refl
or_swap true false c = refl
or_swap false true c = refl
or_swap false false c = refl

any_append : (p : Role) (k : List ℕ) (j : Json) (xs ys : List Member) → any_alike p k j (members_of (map member_view (xs ++ ys))) ≡ (any_alike p k j (members_of (map member_view ys)) || any_alike p k j (members_of (map member_view xs)))
any_append p k j [] ys = or_false (any_alike p k j (members_of (map member_view ys)))
any_append p k j (m ∷ xs) ys =
    let here = bytes_eq (member_view m).0 k && alike (normal p j) (normal p (member_view m).1) in
    ap (λ (b : Bool). here || b) (any_append p k j xs ys) ∙ or_swap here (any_alike p k j (members_of (map member_view ys))) (any_alike p k j (members_of (map member_view xs)))

has_append : (k : List ℕ) (xs ys : List Member) → has_member_named k (members_of (map member_view (xs ++ ys))) ≡ (has_member_named k (members_of (map member_view ys)) || has_member_named k (members_of (map member_view xs)))
has_append k [] ys = or_false (has_member_named k (members_of (map member_view ys)))
has_append k (m ∷ xs) ys =
    let here = bytes_eq (member_view m).0 k in
    ap (λ (b : Bool). here || b) (has_append k xs ys) ∙ or_swap here (has_member_named k (members_of (map member_view ys))) (has_member_named k (members_of (map member_view xs)))

true_or : (b c : Bool) → b ≡ true → b ≡ (b || c)
true_or true c e = refl
true_or false c e = absurd (true≢false (sym e))

false_or : (b c : Bool) → b ≡ false → c ≡ (b || c)
false_or true c e = absurd (true≢false e)
false_or false c e = refl

any_halves : (p : Role) (k : List ℕ) (j : Json) (ms : List Member) (n : ℕ)
    → (any_alike p k j (members_of (map member_view (drop n ms))) || any_alike p k j (members_of (map member_view (take n ms)))) ≡ any_alike p k j (members_of (map member_view ms))
any_halves p k j ms n = sym (any_append p k j (take n ms) (drop n ms)) ∙ ap (λ (ts : List Member). any_alike p k j (members_of (map member_view ts))) (take-append-drop n ms)

-- what is found after is found, and what isn't is found in front or not at all
pub any_behind : (p : Role) (k : List ℕ) (j : Json) (ms back : List Member) (n : ℕ) (r : Bool) → back ≡ drop n ms → r ≡ any_alike p k j (members_of (map member_view back)) → r ≡ true
    → r ≡ any_alike p k j (members_of (map member_view ms))
any_behind p k j ms back n r at is found =
    let all : List Member → Bool = λ ts. any_alike p k j (members_of (map member_view ts)) in
    let seen : r ≡ all (drop n ms) = is ∙ ap all at in
    seen ∙ (true_or (all (drop n ms)) (all (take n ms)) (sym seen ∙ found) ∙ any_halves p k j ms n)

pub any_in_front : (p : Role) (k : List ℕ) (j : Json) (ms front back : List Member) (n : ℕ) (r s : Bool) → front ≡ take n ms → back ≡ drop n ms → r ≡ any_alike p k j (members_of (map member_view back)) → r ≡ false
    → s ≡ any_alike p k j (members_of (map member_view front)) → s ≡ any_alike p k j (members_of (map member_view ms))
any_in_front p k j ms front back n r s before at is missed here =
    let all : List Member → Bool = λ ts. any_alike p k j (members_of (map member_view ts)) in
    here ∙ (ap all before ∙ (false_or (all (drop n ms)) (all (take n ms)) (sym (is ∙ ap all at) ∙ missed) ∙ any_halves p k j ms n))

has_halves : (k : List ℕ) (ms : List Member) (n : ℕ) → (has_member_named k (members_of (map member_view (drop n ms))) || has_member_named k (members_of (map member_view (take n ms)))) ≡ has_member_named k (members_of (map member_view ms))
has_halves k ms n = sym (has_append k (take n ms) (drop n ms)) ∙ ap (λ (ts : List Member). has_member_named k (members_of (map member_view ts))) (take-append-drop n ms)

pub has_behind : (k : List ℕ) (ms back : List Member) (n : ℕ) (r : Bool) → back ≡ drop n ms → r ≡ has_member_named k (members_of (map member_view back)) → r ≡ true → r ≡ has_member_named k (members_of (map member_view ms))
has_behind k ms back n r at is found =
    let all : List Member → Bool = λ ts. has_member_named k (members_of (map member_view ts)) in
    let seen : r ≡ all (drop n ms) = is ∙ ap all at in
    seen ∙ (true_or (all (drop n ms)) (all (take n ms)) (sym seen ∙ found) ∙ has_halves k ms n)

pub has_in_front : (k : List ℕ) (ms front back : List Member) (n : ℕ) (r s : Bool) → front ≡ take n ms → back ≡ drop n ms → r ≡ has_member_named k (members_of (map member_view back)) → r ≡ false
    → s ≡ has_member_named k (members_of (map member_view front)) → s ≡ has_member_named k (members_of (map member_view ms))
has_in_front k ms front back n r s before at is missed here =
    let all : List Member → Bool = λ ts. has_member_named k (members_of (map member_view ts)) in
    here ∙ (ap all before ∙ (false_or (all (drop n ms)) (all (take n ms)) (sym (is ∙ ap all at) ∙ missed) ∙ has_halves k ms n))

-- a member that counts is held against those of its name
pub within : (p : Role) (k : List ℕ) (j : Json) (ms : Members) → is_passed_over p k ≡ false → any_alike (role_of_member p k) k j ms ≡ is_alike_within p k j (normal_members p ms)
within p k j ms e =
    sym (any_normal p k j ms e)
    ∙ sym (ap (λ (b : Bool). if b then true else any_named k (alike (normal (role_of_member p k) j)) (normal_members p ms)) e)

step_at : (b : Bool) (k : List ℕ) (x : Normal) (rest ns : Named) → (if b then true else any_named k (alike x) ns) ≡ true → named_alike (if b then rest else named k x rest) ns ≡ named_alike rest ns
step_at true k x rest ns e = refl
step_at false k x rest ns e = ap (λ (c : Bool). c && named_alike rest ns) e

-- after a member that is alike to one, what is left decides
named_step : (p : Role) (k : List ℕ) (j : Json) (ms : Members) (ns : Named) → is_alike_within p k j ns ≡ true → named_alike (normal_members p (member k j ms)) ns ≡ named_alike (normal_members p ms) ns
named_step p k j ms ns e = step_at (is_passed_over p k) k (normal (role_of_member p k) j) (normal_members p ms) ns e

-- where the member in a role is alike to one, what is left after it decides
pub named_on : (p : Role) (ts : List Member) (i : ℕ) (m : Member) (ns : Named) (r : Bool) → i < length ts → m ≡ get_or ts i m → r ≡ is_alike_within p (member_view m).0 (member_view m).1 ns → r ≡ true
    → named_alike (normal_members p (members_of (map member_view (drop i ts)))) ns ≡ named_alike (normal_members p (members_of (map member_view (drop (i + 1) ts)))) ns
named_on p ts i m ns r lt at is found =
    ap (λ (us : List Member). named_alike (normal_members p (members_of (map member_view us))) ns) (drop_item ts i m lt at)
    ∙ named_step p (member_view m).0 (member_view m).1 (members_of (map member_view (drop (i + 1) ts))) ns (sym is ∙ found)

stop_at : (b : Bool) (k : List ℕ) (x : Normal) (rest ns : Named) → (if b then true else any_named k (alike x) ns) ≡ false → named_alike (if b then rest else named k x rest) ns ≡ false
stop_at true k x rest ns e = absurd (true≢false e)
stop_at false k x rest ns e = ap (λ (c : Bool). c && named_alike rest ns) e

-- where the member in a role is alike to none, not each is
pub named_off : (p : Role) (ts : List Member) (i : ℕ) (m : Member) (ns : Named) (r : Bool) → i < length ts → m ≡ get_or ts i m → r ≡ is_alike_within p (member_view m).0 (member_view m).1 ns → r ≡ false
    → named_alike (normal_members p (members_of (map member_view (drop i ts)))) ns ≡ false
named_off p ts i m ns r lt at is missed =
    let k = (member_view m).0 in
    ap (λ (us : List Member). named_alike (normal_members p (members_of (map member_view us))) ns) (drop_item ts i m lt at)
    ∙ stop_at (is_passed_over p k) k (normal (role_of_member p k) (member_view m).1) (normal_members p (members_of (map member_view (drop (i + 1) ts)))) ns (sym is ∙ missed)

-- after an item that occurs as often in both, what is left decides
pub often_on : (p : Role) (ts : List Tree) (i : ℕ) (t : Tree) (xs ys : Normals) (r : Bool) → i < length ts → t ≡ get_or ts i t → r ≡ same_count (alike (normal p (view t))) xs ys → r ≡ true
    → as_often (normal_items p (elements_of (map view (drop i ts)))) xs ys ≡ as_often (normal_items p (elements_of (map view (drop (i + 1) ts)))) xs ys
often_on p ts i t xs ys r lt at is found =
    ap (λ (us : List Tree). as_often (normal_items p (elements_of (map view us))) xs ys) (drop_item ts i t lt at)
    ∙ ap (λ (b : Bool). b && as_often (normal_items p (elements_of (map view (drop (i + 1) ts)))) xs ys) (sym is ∙ found)

and_off : (b c : Bool) → (b ≡ false) ⊎ (c ≡ false) → (b && c) ≡ false
and_off true c (inl e) = absurd (true≢false e)
and_off true c (inr e) = e
and_off false c e = refl

-- after a member of another name or another value, what is left decides
pub any_off : (p : Role) (k : List ℕ) (j : Json) (ts : List Member) (i : ℕ) (m : Member) (n : List ℕ) (v : Json) → i < length ts → m ≡ get_or ts i m → (member_view m).0 ≡ n → (member_view m).1 ≡ v
    → (bytes_eq n k ≡ false) ⊎ (alike (normal p j) (normal p v) ≡ false) → any_alike p k j (members_of (map member_view (drop i ts))) ≡ any_alike p k j (members_of (map member_view (drop (i + 1) ts)))
any_off p k j ts i m n v lt at name value missed =
    let here : (bytes_eq (member_view m).0 k && alike (normal p j) (normal p (member_view m).1)) ≡ false = rw (name, value) (and_off (bytes_eq n k) (alike (normal p j) (normal p v)) missed) in
    ap (λ (us : List Member). any_alike p k j (members_of (map member_view us))) (drop_item ts i m lt at)
    ∙ ap (λ (b : Bool). b || any_alike p k j (members_of (map member_view (drop (i + 1) ts)))) here

pub any_hit : (p : Role) (k : List ℕ) (j : Json) (ts : List Member) (i : ℕ) (m : Member) (n : List ℕ) (v : Json) → i < length ts → m ≡ get_or ts i m → (member_view m).0 ≡ n → (member_view m).1 ≡ v
    → bytes_eq n k ≡ true → alike (normal p j) (normal p v) ≡ true → any_alike p k j (members_of (map member_view (drop i ts))) ≡ true
any_hit p k j ts i m n v lt at name value same found =
    let here : (bytes_eq (member_view m).0 k && alike (normal p j) (normal p (member_view m).1)) ≡ true = rw (name, value, same, found) refl in
    ap (λ (us : List Member). any_alike p k j (members_of (map member_view us))) (drop_item ts i m lt at)
    ∙ ap (λ (b : Bool). b || any_alike p k j (members_of (map member_view (drop (i + 1) ts)))) here

-- of no items each is alike to its partner
pub all_done : (p : Role) (ts us : List Tree) → ts ≡ [] → us ≡ [] → all_alike (normal_items p (elements_of (map view ts))) (normal_items p (elements_of (map view us))) ≡ true
all_done p ts us first second =
    ap (λ (l : List Tree). all_alike (normal_items p (elements_of (map view l))) (normal_items p (elements_of (map view us)))) first
    ∙ ap (λ (l : List Tree). all_alike none (normal_items p (elements_of (map view l)))) second

pub size_items : (p : Role) (js : List Json) → size (normal_items p (elements_of js)) ≡ length js
size_items p [] = refl
size_items p (j ∷ js) = ap suc (size_items p js)

-- arrays of different lengths aren't alike one by one
pub lengths_differ : (p : Role) (js ks : List Json) → length js ≢ length ks → false ≡ all_alike (normal_items p (elements_of js)) (normal_items p (elements_of ks))
lengths_differ p [] [] n = absurd (n refl)
lengths_differ p [] (k ∷ ks) n = refl
lengths_differ p (j ∷ js) [] n = refl
lengths_differ p (j ∷ js) (k ∷ ks) n =
    let tail : length js ≢ length ks = λ e. n (omega (arith, e)) in
    absurd_or (alike (normal p j) (normal p k)) (all_alike (normal_items p (elements_of js)) (normal_items p (elements_of ks))) (lengths_differ p js ks tail)

and_false : (b c : Bool) → b ≡ false → false ≡ (b && c)
and_false b c e = rw e refl

and_true : (b c : Bool) → b ≡ true → c ≡ (b && c)
and_true b c e = rw e refl

-- arrays of different lengths aren't alike in any order
pub sizes_differ : (p : Role) (js ks : List Json) → length js ≢ length ks → false ≡ same_bag (normal_items p (elements_of js)) (normal_items p (elements_of ks))
sizes_differ p js ks n =
    let xs = normal_items p (elements_of js) in
    let ys = normal_items p (elements_of ks) in
    and_false (size xs == size ys) (as_often xs xs ys) (ne_eqb (size xs) (size ys) (λ e. n (sym (size_items p js) ∙ e ∙ size_items p ks)))

pub sizes_agree : (p : Role) (js ks : List Json) (b : Bool) → length js ≡ length ks → b ≡ as_often (normal_items p (elements_of js)) (normal_items p (elements_of js)) (normal_items p (elements_of ks))
    → b ≡ same_bag (normal_items p (elements_of js)) (normal_items p (elements_of ks))
sizes_agree p js ks b n e =
    let xs = normal_items p (elements_of js) in
    let ys = normal_items p (elements_of ks) in
    e ∙ and_true (size xs == size ys) (as_often xs xs ys) (eq-eqb (size xs) (size ys) (size_items p js ∙ n ∙ sym (size_items p ks)))

-- ---- roles where an array may stand for an object

pub is_activities : (p : Role) → is_plural p ≡ true → p ≡ Role.Activities
is_activities Role.Activities e = refl
is_activities _ e = absurd (true≢false (sym e))

pub too_many : (y : Normal) (js : List Json) (p : Role) → 2 ≤ length js → false ≡ all_alike (normal_items p (elements_of js)) (more y none)
too_many y [] p n = absurd (omega (arith, n))
too_many y (j ∷ []) p n = absurd (omega (arith, n))
too_many y (j ∷ k ∷ js) p n = absurd_or (alike (normal p j) y) false refl

pub too_few : (x : Normal) (js : List Json) (p : Role) → 2 ≤ length js → false ≡ all_alike (more x none) (normal_items p (elements_of js))
too_few x [] p n = absurd (omega (arith, n))
too_few x (j ∷ []) p n = absurd (omega (arith, n))
too_few x (j ∷ k ∷ js) p n = absurd_or (alike x (normal p j)) false refl

pub array_and_object : (js : Elements) (ns : Members) → all_alike (normal_items Role.Activity js) (more (normal_one Role.Activity (object ns)) none) ≡ alike (normal Role.Activities (array js)) (normal Role.Activities (object ns))
unfolding kind_at role_of_object role_of_item
array_and_object js ns = refl

pub object_and_array : (ms : Members) (ks : Elements) → all_alike (more (normal_one Role.Activity (object ms)) none) (normal_items Role.Activity ks) ≡ alike (normal Role.Activities (object ms)) (normal Role.Activities (array ks))
unfolding kind_at role_of_object role_of_item
object_and_array ms ks = refl
