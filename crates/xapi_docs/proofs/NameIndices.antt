-- The indices of names among members.
use Rattle.std.proofs.Common.{◌≡◌, ◌<◌, ◌+◌, ℕ, zero, suc, List, [], ◌∷◌, ◌++◌, length, map, take, get_or, slice_set, Bool, true, false, Option, Some, None, option_map, if◌then◌else◌, is_some, cond, is_eq, nat_cmp, refl, sym, ap, ◌∙◌, arith}
use Rattle.std.specs.BTreeMap.{BTreeMap, get}
use Rattle.std.specs.Cmp.Lexicographic.{same_text, slice_cmp}
use Rattle.std.specs.Str.{bytes_eq}
use Rattle.std.proofs.lemmas.Grind.{common_steps, take_at_read}
use Rattle.std.proofs.lemmas.List.{length-map, map-append}
use Rattle.std.proofs.lemmas.Map.Text.{is_eq-slice_cmp}
use Rattle.std.proofs.lemmas.Option.{none-some, same_Some}
use Rattle.lrs_json.specs.Json.{Json, Members, member}
use Rattle.lrs_json.specs.View.{member_view, members_of}
use Rattle.lrs_json.specs.declared.tree.Member.{Member}
use Rattle.xapi_docs.specs.Merging.{HasIndices, index_in, with_member, with_members}

abbrev pub Pairs : Type 0
Pairs = List (List ℕ × Json)

-- the first index, or else the second
abbrev or_index : Option ℕ → Option ℕ → Option ℕ
or_index (Some p) o = Some p
or_index None o = o

push_step : (t b : Bool) (later earlier : Option ℕ) (n : ℕ) → later ≡ or_index earlier (if b then Some n else None)
    → (if t then Some 0 else option_map suc later) ≡ or_index (if t then Some 0 else option_map suc earlier) (if b then Some (suc n) else None)
push_step true b later earlier n e = refl
push_step false b later (Some p) n e = ap (option_map suc) e
push_step false true later None n e = ap (option_map suc) e
push_step false false later None n e = ap (option_map suc) e

index_push : (q : List ℕ) (xs : Pairs) (x : List ℕ × Json) → index_in q (members_of (xs ++ x ∷ [])) ≡ or_index (index_in q (members_of xs)) (if bytes_eq x.0 q then Some (length xs) else None)
index_push q [] x = refl
index_push q (y ∷ xs) x = push_step (bytes_eq y.0 q) (bytes_eq x.0 q) _ _ (length xs) (index_push q xs x)

-- ---- what a member is put over

none_step : (t : Bool) (o : Option ℕ) → (if t then Some 0 else option_map suc o) ≡ None → (t ≡ false) × (o ≡ None)
none_step true o e = absurd (none-some 0 (sym e))
none_step false (Some p) e = absurd (none-some (suc p) (sym e))
none_step false None e = (refl, refl)

-- where the name doesn't stand, the member comes last
pub member_new : (name : List ℕ) (v : Json) (xs : Pairs) → index_in name (members_of xs) ≡ None → with_member name v (members_of xs) ≡ members_of (xs ++ (name, v) ∷ [])
member_new name v [] e = refl
member_new name v (y ∷ xs) e =
    let first = none_step (bytes_eq y.0 name) (index_in name (members_of xs)) e in
    rw first.0 (ap (member y.0 y.1) (member_new name v xs first.1))

-- the value of the pair at an index
abbrev pub with_value : Pairs → ℕ → Json → Pairs
with_value [] p v = []
with_value (y ∷ xs) zero v = (y.0, v) ∷ xs
with_value (y ∷ xs) (suc p) v = y ∷ with_value xs p v

index_step : {R : Type 0} (t : Bool) (o : Option ℕ) (p : ℕ) → (if t then Some 0 else option_map suc o) ≡ Some p → (t ≡ true → 0 ≡ p → R) → (t ≡ false → (k : ℕ) → o ≡ Some k → suc k ≡ p → R) → R
index_step true o p e here later = here refl (same_Some 0 p e)
index_step false None p e here later = absurd (none-some p e)
index_step false (Some k) p e here later = later refl k refl (same_Some (suc k) p e)

-- where it stands, it keeps its index and its name
pub member_at : (name : List ℕ) (v : Json) (xs : Pairs) (p : ℕ) → index_in name (members_of xs) ≡ Some p → with_member name v (members_of xs) ≡ members_of (with_value xs p v)
member_at name v [] p e = absurd (none-some p e)
member_at name v (y ∷ xs) p e =
    index_step (bytes_eq y.0 name) (index_in name (members_of xs)) p e
    (λ t z. rw (t, ← z) refl)
    (λ t k is z. rw (t, ← z) (ap (member y.0 y.1) (member_at name v xs k is)))

pub index_within : (name : List ℕ) (xs : Pairs) (p : ℕ) → index_in name (members_of xs) ≡ Some p → p < length xs
index_within name [] p e = absurd (none-some p e)
index_within name (y ∷ xs) p e =
    index_step (bytes_eq y.0 name) (index_in name (members_of xs)) p e
    (λ t z. omega arith)
    (λ t k is z. omega (arith, index_within name xs k is))

-- a new value moves no name
pub indices_stay : (q : List ℕ) (v : Json) (xs : Pairs) (p : ℕ) → index_in q (members_of (with_value xs p v)) ≡ index_in q (members_of xs)
indices_stay q v [] p = refl
indices_stay q v (y ∷ xs) zero = refl
indices_stay q v (y ∷ xs) (suc p) = ap (λ o. if bytes_eq y.0 q then Some 0 else option_map suc o) (indices_stay q v xs p)

-- ---- member by member

pub members_push : (old : Members) (xs : Pairs) (x : List ℕ × Json) → with_members old (members_of (xs ++ x ∷ [])) ≡ with_member x.0 x.1 (with_members old (members_of xs))
members_push old [] x = refl
members_push old (y ∷ xs) x = members_push (with_member y.0 y.1 old) xs x

-- ---- the same of the members themselves

abbrev pub seen : List Member → Members
seen ms = members_of (map member_view ms)

view_set : (ms : List Member) (p : ℕ) (new old : Member) (v : Json) → p < length ms → old ≡ get_or ms p old → member_view new ≡ ((member_view old).0, v) → map member_view (slice_set ms p new) ≡ with_value (map member_view ms) p v
view_set [] p new old v l is e = absurd (omega arith)
view_set (m ∷ ms) zero new old v l is e = ap (λ z. z ∷ map member_view ms) (e ∙ ap (λ (z : Member). ((member_view z).0, v)) is)
view_set (m ∷ ms) (suc p) new old v l is e = ap (λ z. member_view m ∷ z) (view_set ms p new old v (omega arith) is e)

pub seen_within : (name : List ℕ) (ms : List Member) (p : ℕ) → index_in name (seen ms) ≡ Some p → p < length ms
seen_within name ms p e = let l = index_within name (map member_view ms) p e in omega (arith, length-map ms member_view)

-- a member takes a value
pub set_puts : (name : List ℕ) (ms : List Member) (p : ℕ) (new old : Member) (v : Json) → index_in name (seen ms) ≡ Some p → old ≡ get_or ms p old → member_view new ≡ ((member_view old).0, v) → seen (slice_set ms p new) ≡ with_member name v (seen ms)
set_puts name ms p new old v at is e = ap members_of (view_set ms p new old v (seen_within name ms p at) is e) ∙ sym (member_at name v (map member_view ms) p at)

pub set_indices : (indices : BTreeMap (List ℕ) ℕ) (name : List ℕ) (ms : List Member) (p : ℕ) (new old : Member) (v : Json) → HasIndices indices (seen ms) → index_in name (seen ms) ≡ Some p → old ≡ get_or ms p old
    → member_view new ≡ ((member_view old).0, v) → HasIndices indices (seen (slice_set ms p new))
set_indices indices name ms p new old v has at is e = λ q.
    has q ∙ sym (indices_stay q v (map member_view ms) p) ∙ sym (ap (λ z. index_in q (members_of z)) (view_set ms p new old v (seen_within name ms p at) is e))

-- a member comes last
pub push_puts : (held items : List Member) (m : Member) → items ≡ held ++ m ∷ [] → index_in (member_view m).0 (seen held) ≡ None → seen items ≡ with_member (member_view m).0 (member_view m).1 (seen held)
push_puts held items m e none =
    ap seen e ∙ ap members_of (map-append member_view held (m ∷ [])) ∙ sym (member_new (member_view m).0 (member_view m).1 (map member_view held) none)

index_more : (q : List ℕ) (held items : List Member) (m : Member) (n : ℕ) → items ≡ held ++ m ∷ [] → n ≡ length held → index_in q (seen items) ≡ or_index (index_in q (seen held)) (if bytes_eq (member_view m).0 q then Some n else None)
index_more q held items m n e l =
    ap (λ z. index_in q (seen z)) e ∙ ap (λ z. index_in q (members_of z)) (map-append member_view held (m ∷ [])) ∙ index_push q (map member_view held) (member_view m)
    ∙ ap (λ k. or_index (index_in q (seen held)) (if bytes_eq (member_view m).0 q then Some k else None)) (length-map held member_view ∙ sym l)

new_index : (b : Bool) (o : Option ℕ) (n : ℕ) → (b ≡ true → o ≡ None) → cond b (Some n) o ≡ or_index o (if b then Some n else None)
new_index true o n none = sym (ap (λ z. or_index z (Some n)) (none refl))
new_index false None n none = refl
new_index false (Some p) n none = refl

old_index : (b : Bool) (o : Option ℕ) (n : ℕ) → (b ≡ true → is_some o ≡ true) → o ≡ or_index o (if b then Some n else None)
old_index b (Some p) n some = refl
old_index false None n some = refl
old_index true None n some = cc (some refl)

pub push_indices : (indices new : BTreeMap (List ℕ) ℕ) (held items : List Member) (m : Member) (name : List ℕ) (n : ℕ) → name ≡ (member_view m).0 → items ≡ held ++ m ∷ [] → HasIndices indices (seen held)
    → index_in (member_view m).0 (seen held) ≡ None → n ≡ length held → ((q : List ℕ) → get (slice_cmp nat_cmp) new q ≡ cond (is_eq (slice_cmp nat_cmp name q)) (Some n) (get (slice_cmp nat_cmp) indices q))
    → HasIndices new (seen items)
push_indices indices new held items m name n named e has none l updates = λ q.
    updates q ∙ ap (λ o. cond (is_eq (slice_cmp nat_cmp name q)) (Some n) o) (has q)
    ∙ ap (λ b. cond b (Some n) (index_in q (seen held))) (is_eq-slice_cmp name q ∙ ap (λ z. bytes_eq z q) named)
    ∙ new_index (bytes_eq (member_view m).0 q) (index_in q (seen held)) n (λ t. ap (λ z. index_in z (seen held)) (sym (same_text (member_view m).0 q (sym t))) ∙ none)
    ∙ sym (index_more q held items m n e l)

pub kept_indices : (indices : BTreeMap (List ℕ) ℕ) (held items : List Member) (m : Member) → items ≡ held ++ m ∷ [] → HasIndices indices (seen held) → is_some (index_in (member_view m).0 (seen held)) ≡ true → HasIndices indices (seen items)
kept_indices indices held items m e has some = λ q.
    has q ∙ old_index (bytes_eq (member_view m).0 q) (index_in q (seen held)) (length held) (λ t. ap (λ z. is_some (index_in z (seen held))) (sym (same_text (member_view m).0 q (sym t))) ∙ some)
    ∙ sym (index_more q held items m (length held) e refl)

-- ---- as many members as were looked at

taken_length : (ms : List Member) (i : ℕ) → i < length ms → i ≡ length (take i ms)
taken_length ms i l = grind (arith, common_steps)

taken_more : (ms : List Member) (i : ℕ) (m : Member) → i < length ms → m ≡ get_or ms i m → take (i + 1) ms ≡ take i ms ++ m ∷ []
taken_more ms i m l is = (take_at_read ms i m l).1 ∙ ap (λ z. take i ms ++ z ∷ []) (sym is)

absent : (b : Bool) (o : Option ℕ) → b ≡ is_some o → b ≡ false → o ≡ None
absent b None e n = refl
absent true (Some p) e n = cc n
absent false (Some p) e n = cc e

pub index_comes : (indices new : BTreeMap (List ℕ) ℕ) (ms : List Member) (i : ℕ) (m : Member) (name : List ℕ) (b : Bool) → i < length ms → m ≡ get_or ms i m → name ≡ (member_view m).0 → HasIndices indices (seen (take i ms))
    → b ≡ is_some (get (slice_cmp nat_cmp) indices (member_view m).0) → b ≡ false
    → ((q : List ℕ) → get (slice_cmp nat_cmp) new q ≡ cond (is_eq (slice_cmp nat_cmp name q)) (Some i) (get (slice_cmp nat_cmp) indices q)) → HasIndices new (seen (take (i + 1) ms))
index_comes indices new ms i m name b l is named has e n updates =
    push_indices indices new (take i ms) (take (i + 1) ms) m name i named (taken_more ms i m l is) has (sym (has (member_view m).0) ∙ absent b _ e n) (taken_length ms i l) updates

pub index_stands : (indices : BTreeMap (List ℕ) ℕ) (ms : List Member) (i : ℕ) (m : Member) (b : Bool) → i < length ms → m ≡ get_or ms i m → HasIndices indices (seen (take i ms))
    → b ≡ is_some (get (slice_cmp nat_cmp) indices (member_view m).0) → b ≡ true → HasIndices indices (seen (take (i + 1) ms))
index_stands indices ms i m b l is has e n = kept_indices indices (take i ms) (take (i + 1) ms) m (taken_more ms i m l is) has (ap is_some (sym (has (member_view m).0)) ∙ sym e ∙ n)

pub seen_push : (old : Members) (ms : List Member) (m : Member) → with_members old (seen (ms ++ m ∷ [])) ≡ with_member (member_view m).0 (member_view m).1 (with_members old (seen ms))
seen_push old ms m = ap (λ z. with_members old (members_of z)) (map-append member_view ms (m ∷ [])) ∙ members_push old (map member_view ms) (member_view m)
