-- The member of a name at an index, where names differ, is the one that is found.
use Rattle.std.proofs.Common.{◌≡◌, ℕ, suc, ◌<◌, get_or, drop-cons, length, Bool, true, false, List, [], ◌∷◌, ◌++◌, map, take, drop, Option, Some, is_some, if◌then◌else◌, refl, sym, ap, ◌∙◌, subst}
use Rattle.std.proofs.lemmas.Bool.{or_parts}
use Rattle.std.proofs.lemmas.Cmp.{nat_list_eq_equiv}
use Rattle.std.proofs.lemmas.List.{take-append-drop}
use Rattle.std.proofs.lemmas.Option.{slice_get_within, get_or_from_slice_get}
use Rattle.std.specs.List.{slice_get}
use Rattle.std.specs.Str.{bytes_eq}
use Rattle.lrs_json.specs.Json.{Json, Members}
use Rattle.lrs_json.specs.View.{member_view, members_of}
use Rattle.lrs_json.specs.Find.{find_member}
use Rattle.lrs_json.specs.Names.{is_among}
use Rattle.lrs_json.specs.Fits.{FitMembers}
use Rattle.lrs_json.specs.declared.tree.Member.{Member}
use Rattle.lrs_json_equal.proofs.SameValues.{found_at, passed, text-refl}

abbrev seen : List Member → Members
seen ms = members_of (map member_view ms)

-- a member after others has none of their names, nor of those before
is_new : (xs : List Member) (m : Member) (ys : List Member) (names : List (List ℕ)) → FitMembers names (seen (xs ++ (m ∷ ys))) → is_among (member_view m).0 names ≡ false
is_new [] m ys names f = f.1
is_new (x ∷ xs) m ys names f = (or_parts (bytes_eq (member_view m).0 (member_view x).0) (is_among (member_view m).0 names) (is_new xs m ys ((member_view x).0 ∷ names) f.3)).1

found_behind : (xs : List Member) (m : Member) (ys : List Member) (names : List (List ℕ)) → FitMembers names (seen (xs ++ (m ∷ ys))) → find_member (member_view m).0 (seen (xs ++ (m ∷ ys))) ≡ Some (member_view m).1
found_behind [] m ys names f =
    let k = (member_view m).0 in
    found_at k (bytes_eq k k) (member_view m).1 (find_member k (seen ys)) (text-refl k)
found_behind (x ∷ xs) m ys names f =
    let k = (member_view m).0 in
    let n = (member_view x).0 in
    passed (bytes_eq n k) (member_view x).1 (find_member k (seen (xs ++ (m ∷ ys))))
    (nat_list_eq_equiv.symm n k ∙ (or_parts (bytes_eq k n) (is_among k names) (is_new xs m ys (n ∷ names) f.3)).0)
    ∙ found_behind xs m ys (n ∷ names) f.3

is_some_at : (t : Bool) (j : Json) (rest : Option Json) → is_some rest ≡ true → is_some (if t then Some j else rest) ≡ true
is_some_at true j rest e = refl
is_some_at false j rest e = e

named_behind : (xs : List Member) (m : Member) (ys : List Member) → is_some (find_member (member_view m).0 (seen (xs ++ (m ∷ ys)))) ≡ true
named_behind [] m ys =
    let k = (member_view m).0 in
    ap is_some (found_at k (bytes_eq k k) (member_view m).1 (find_member k (seen ys)) (text-refl k))
named_behind (x ∷ xs) m ys =
    let k = (member_view m).0 in
    is_some_at (bytes_eq (member_view x).0 k) (member_view x).1 (find_member k (seen (xs ++ (m ∷ ys)))) (named_behind xs m ys)

-- members in front of an index, the one that stands there, and those after
parts : (ms : List Member) (i : ℕ) (m : Member) → i < length ms → m ≡ get_or ms i m → (take i ms ++ (m ∷ drop (suc i) ms)) ≡ ms
parts ms i m lt e =
    ap (λ (us : List Member). take i ms ++ us) (sym (drop-cons ms i m lt ∙ ap (λ (z : Member). z ∷ drop (suc i) ms) (sym e)))
    ∙ take-append-drop i ms

pub found_there : (ms : List Member) (i : ℕ) (m : Member) (k : List ℕ) (names : List (List ℕ)) → slice_get ms i ≡ Some m → (member_view m).0 ≡ k → FitMembers names (seen ms) → Some (member_view m).1 ≡ find_member k (seen ms)
found_there ms i m k names at name f =
    let is = parts ms i m (slice_get_within ms i m at) (sym (get_or_from_slice_get ms i m m at)) in
    sym (subst (λ (n : List ℕ). find_member n (seen ms) ≡ Some (member_view m).1) name
    (subst (λ (us : List Member). find_member (member_view m).0 (seen us) ≡ Some (member_view m).1) is
    (found_behind (take i ms) m (drop (suc i) ms) names (subst (λ (us : List Member). FitMembers names (seen us)) (sym is) f))))

pub named_there : (ms : List Member) (i : ℕ) (m : Member) (k : List ℕ) → slice_get ms i ≡ Some m → (member_view m).0 ≡ k → true ≡ is_some (find_member k (seen ms))
named_there ms i m k at name =
    let is = parts ms i m (slice_get_within ms i m at) (sym (get_or_from_slice_get ms i m m at)) in
    sym (subst (λ (n : List ℕ). is_some (find_member n (seen ms)) ≡ true) name
    (subst (λ (us : List Member). is_some (find_member (member_view m).0 (seen us)) ≡ true) is (named_behind (take i ms) m (drop (suc i) ms))))
