-- The walk along references backwards: a set of positions, what one step notes in it, and what is found at the end.
use Rattle.std.proofs.Common.{◌≡◌, ◌<◌, ◌≤◌, ◌+◌, ◌==◌, ◌&&◌, ◌||◌, ◌⊎◌, ℕ, List, [], ◌∷◌, ◌++◌, length, take, get_or, nat_lt, refl, sym, ◌∙◌, ap, subst, inl, inr, arith, Option, Some, Bool, true, false, not, cond, slice_get, position, bytes_eq, nat_cmp, BTreeSet, Less}
use Rattle.std.specs.BTreeMap.{is_at}
use Rattle.std.specs.BTreeSet.{UpdatesBy, contains}
use Rattle.std.specs.Cmp.{unsigned_tied}
use Rattle.std.specs.List.{AllByRecursion, list_any}
use Rattle.std.specs.List.Sorted.{IsStrictlySortedBy}
use Rattle.std.specs.Option.{option_map_or}
use Rattle.std.proofs.lemmas.Bool.{and_from, and_parts, and_right, eqb-true, lt-ltb, ltb-true, or_cases, or_from, or_left, or_parts, or_right}
use Rattle.std.proofs.lemmas.Cmp.{nat_eq_equiv, nat_list_eq_equiv, ranked}
use Rattle.std.proofs.lemmas.List.{length-take-le, take_all}
use Rattle.std.proofs.lemmas.List.Folds.{list_any-append, list_any_more}
use Rattle.std.proofs.lemmas.List.Quantifiers.{position-Some}
use Rattle.std.proofs.lemmas.Option.{option_and_then_some, slice_get-get_or}
use Rattle.lrs_json.specs.View.{view}
use Rattle.lrs_json.proofs.Sets.{cond_or, not_false}
use Rattle.xapi_index.specs.Index.{IsPosting}
use Rattle.xapi_index.specs.XapiStatementStatements.{position_referred, referred_at}
use Rattle.xapi_index.proofs.Firsts.{get_first}
use Rattle.xapi_index.specs.XapiPostingsAscending.{IsAscending, is_in}
use Rattle.xapi_search.specs.Candidates.{Reaches}
use Rattle.xapi_search.specs.Walks.{IsWalked, Notes}
use Rattle.xapi_search.proofs.Narrowed.{in_posting}
use Rattle.xapi_index.specs.XapiStatementStatement.{target_of}
use Rattle.xapi_index.specs.XapiStatementStored.{StoredStatement}
use Rattle.xapi_index.specs.XapiStatementKeysKeys.{refers_to}
use Rattle.xapi_index.specs.XapiStatementKeysKeyKeyTheVariants as key

-- ---- a set of positions

has_in : (ks : List ℕ) (k : ℕ) → list_any (is_at (nat_cmp k)) ks ≡ is_in ks k
has_in [] k = refl
has_in (x ∷ xs) k =
    ap (λ b. b || list_any (is_at (nat_cmp k)) xs) (unsigned_tied k x ∙ nat_eq_equiv.symm k x) ∙ ap (λ b. (x == k) || b) (has_in xs k)

-- a set that took a position has it and those before
in_more : (position : ℕ) (old new : BTreeSet ℕ) → UpdatesBy nat_cmp (nat_cmp position) old new true → (k : ℕ) → is_in new.keys k ≡ ((position == k) || is_in old.keys k)
in_more position old new updates k =
    sym (has_in new.keys k)
    ∙ (updates.0 k
    ∙ (ap (λ b. cond b true (list_any (is_at (nat_cmp k)) old.keys)) (unsigned_tied position k)
    ∙ (cond_or (position == k) (list_any (is_at (nat_cmp k)) old.keys) ∙ ap (λ b. (position == k) || b) (has_in old.keys k))))

above : (x : ℕ) (ys : List ℕ) → AllByRecursion (λ y. nat_cmp x y ≡ Less) ys → AllByRecursion (λ y. x < y) ys
above x [] each = tt
above x (y ∷ ys) each = (ranked x y Less (sym each.0), above x ys each.1)

-- its positions ascend
pub ascending_keys : (ks : List ℕ) → IsStrictlySortedBy nat_cmp ks → IsAscending ks
unfolding IsStrictlySortedBy
ascending_keys [] sorted = tt
ascending_keys (x ∷ xs) sorted = (above x xs sorted.0, ascending_keys xs sorted.1)

-- ---- what is noted

-- a position that is there already
pub noted_before : (position : ℕ) (old new : BTreeSet ℕ) (left : List ℕ) → UpdatesBy nat_cmp (nat_cmp position) old new true → false ≡ not (contains nat_cmp old position) → Notes (λ k. position == k) old.keys new.keys left left
noted_before position old new left updates known = record {
  kept = λ k is. in_more position old new updates k ∙ or_right (position == k) (is_in old.keys k) is;
  noted = λ k is. in_more position old new updates k ∙ or_left (position == k) (is_in old.keys k) is;
  left = λ k is out. (by_case k (or_cases (position == k) (is_in old.keys k) (sym (in_more position old new updates k) ∙ is)), out);
}
  where
    there : is_in old.keys position ≡ true
    there = sym (has_in old.keys position) ∙ not_false (contains nat_cmp old position) known

    by_case : (k : ℕ) → ((position == k) ≡ true) ⊎ (is_in old.keys k ≡ true) → is_in old.keys k ≡ true
    by_case k (inl same) = subst (λ j. is_in old.keys j ≡ true) (eqb-true position k same) there
    by_case k (inr old_one) = old_one

-- a position that is put at the end of those that are left
pub noted_now : (position : ℕ) (old new : BTreeSet ℕ) (before after : List ℕ) → UpdatesBy nat_cmp (nat_cmp position) old new true → after ≡ before ++ position ∷ [] → Notes (λ k. position == k) old.keys new.keys before after
noted_now position old new before after updates put = record {
  kept = λ k is. in_more position old new updates k ∙ or_right (position == k) (is_in old.keys k) is;
  noted = λ k is. in_more position old new updates k ∙ or_left (position == k) (is_in old.keys k) is;
  left = λ k is out.
      let parts = apart k out in
      (by_case k parts.1 (or_cases (position == k) (is_in old.keys k) (sym (in_more position old new updates k) ∙ is)), parts.0);
}
  where
    apart : (k : ℕ) → is_in after k ≡ false → (is_in before k ≡ false) × ((position == k) || false ≡ false)
    apart k out =
        or_parts (is_in before k) ((position == k) || false)
        (sym (list_any-append (λ j. j == k) before (position ∷ [])) ∙ (sym (ap (λ (ks : List ℕ). is_in ks k) put) ∙ out))

    by_case : (k : ℕ) → (position == k) || false ≡ false → ((position == k) ≡ true) ⊎ (is_in old.keys k ≡ true) → is_in old.keys k ≡ true
    by_case k other (inl same) = let both : true ≡ false = sym (ap (λ b. b || false) same) ∙ other in cc both
    by_case k other (inr old_one) = old_one

-- nothing is noted
pub notes_none : (wanted : ℕ → Bool) (found left : List ℕ) → ((k : ℕ) → wanted k ≡ false) → Notes wanted found found left left
notes_none wanted found left none = record {
  kept = λ k is. is;
  noted = λ k is. let out = none k in cc (out, is);
  left = λ k is out. (is, out);
}

-- one after the other
pub notes_both : (first second both : ℕ → Bool) (a b c x y z : List ℕ) → Notes first a b x y → Notes second b c y z → ((k : ℕ) → both k ≡ true → (first k ≡ true) ⊎ (second k ≡ true)) → Notes both a c x z
notes_both first second both a b c x y z one two of = record {
  kept = λ k is. two.kept k (one.kept k is);
  noted = λ k is. by_case k (of k is);
  left = λ k is out. let before = two.left k is out in one.left k before.0 before.1;
}
  where
    by_case : (k : ℕ) → (first k ≡ true) ⊎ (second k ≡ true) → is_in c k ≡ true
    by_case k (inl is) = two.kept k (one.noted k is)
    by_case k (inr is) = two.noted k is

pub notes_so : (first wanted : ℕ → Bool) (a b x y : List ℕ) → Notes first a b x y → ((k : ℕ) → wanted k ≡ true → first k ≡ true) → Notes wanted a b x y
notes_so first wanted a b x y one of = record { kept = one.kept; noted = λ k is. one.noted k (of k is); left = one.left }

-- of the first positions of a list with one more, those below n
wanted_more : (n : ℕ) (ks : List ℕ) (i k : ℕ) → i < length ks → nat_lt k n && is_in (take (i + 1) ks) k ≡ true → (nat_lt k n ≡ true) × ((is_in (take i ks) k ≡ true) ⊎ ((get_or ks i 0 == k) ≡ true))
wanted_more n ks i k lt both =
    let parts = and_parts (nat_lt k n) (is_in (take (i + 1) ks) k) both in
    (parts.0, or_cases (is_in (take i ks) k) (get_or ks i 0 == k) (sym (list_any_more (λ j. j == k) ks i 0 lt) ∙ parts.1))

pub wanted_next : (n : ℕ) (ks : List ℕ) (i k : ℕ) → i < length ks → nat_lt k n && is_in (take (i + 1) ks) k ≡ true → (nat_lt k n && is_in (take i ks) k ≡ true) ⊎ ((get_or ks i 0 == k) ≡ true)
wanted_next n ks i k lt both = let parts = wanted_more n ks i k lt both in by_case parts.0 parts.1
  where
    by_case : nat_lt k n ≡ true → (is_in (take i ks) k ≡ true) ⊎ ((get_or ks i 0 == k) ≡ true) → (nat_lt k n && is_in (take i ks) k ≡ true) ⊎ ((get_or ks i 0 == k) ≡ true)
    by_case low (inl is) = inl (and_from (nat_lt k n) (is_in (take i ks) k) low is)
    by_case low (inr same) = inr same

-- the next one isn't below n
pub wanted_past : (n : ℕ) (ks : List ℕ) (i k : ℕ) → i < length ks → n ≤ get_or ks i 0 → nat_lt k n && is_in (take (i + 1) ks) k ≡ true → nat_lt k n && is_in (take i ks) k ≡ true
wanted_past n ks i k lt past both = let parts = wanted_more n ks i k lt both in by_case parts.0 parts.1
  where
    by_case : nat_lt k n ≡ true → (is_in (take i ks) k ≡ true) ⊎ ((get_or ks i 0 == k) ≡ true) → nat_lt k n && is_in (take i ks) k ≡ true
    by_case low (inl is) = and_from (nat_lt k n) (is_in (take i ks) k) low is
    by_case low (inr same) =
        let less : k < n = ltb-true k n low in
        let is : get_or ks i 0 ≡ k = eqb-true (get_or ks i 0) k same in
        absurd (omega arith)

pub wanted_none : (n : ℕ) (k : ℕ) → nat_lt k n && is_in [] k ≡ false
wanted_none n k = and_right (nat_lt k n) false refl

pub wanted_all : (n : ℕ) (ks : List ℕ) (i k : ℕ) → length ks ≤ i → nat_lt k n && is_in ks k ≡ true → nat_lt k n && is_in (take i ks) k ≡ true
wanted_all n ks i k past both = ap (λ (js : List ℕ). nat_lt k n && is_in js k) (take_all i ks past) ∙ both

-- ---- references

-- the statement at one position refers to the one at another
record IsReference (held : List StoredStatement) (j k : ℕ) : Type 0 where
  one : StoredStatement
  other : StoredStatement
  at_one : slice_get held j ≡ Some one
  at_other : slice_get held k ≡ Some other
  refers : refers_to other.id one ≡ true

reference : (held : List StoredStatement) (n j k : ℕ) → n ≤ length held → j < n → referred_at (take n held) j ≡ Some k → IsReference held j k
reference held n j k within lt is =
    option_and_then_some (position_referred (take n held)) (slice_get (take n held) j) k is (λ s at_s more.
    option_and_then_some (λ (id : List ℕ). position (λ (t : StoredStatement). bytes_eq t.id id) (take n held)) (target_of (view s.received)) k more (λ id target there.
    let found = position-Some (λ (t : StoredStatement). bytes_eq t.id id) (take n held) k s there in
    by_index s id (get_or (take n held) k s) at_s target found.0 (slice_get-get_or (take n held) k s found.0) found.1))
  where
    by_index : (s : StoredStatement) (id : List ℕ) (t : StoredStatement) → slice_get (take n held) j ≡ Some s → target_of (view s.received) ≡ Some id → k < length (take n held) → slice_get (take n held) k ≡ Some t → bytes_eq t.id id ≡ true → IsReference held j k
    by_index s id t at_s target below at_t same =
        let long : length (take n held) ≡ n = length-take-le n held within in
        record {
          one = s;
          other = t;
          at_one = sym (get_first n held j lt) ∙ at_s;
          at_other = sym (get_first n held k (omega arith)) ∙ at_t;
          refers = ap (λ (o : Option (List ℕ)). option_map_or (λ (own : List ℕ). bytes_eq own t.id) o false) target ∙ (nat_list_eq_equiv.symm id t.id ∙ same);
        }

-- what refers to it is found under its id
referring_in : (held : List StoredStatement) (n coming j k : ℕ) (referring : List ℕ) → n ≤ length held → j < n → referred_at (take n held) j ≡ Some k
    → ((s : StoredStatement) → slice_get held k ≡ Some s → IsPosting held coming (key.Reference s.id) referring) → is_in referring j ≡ true
referring_in held n coming j k referring within lt is posting =
    let link = reference held n j k within lt is in
    in_posting held coming (key.Reference link.other.id) referring (posting link.other link.at_other) j link.one link.at_one ∙ link.refers

-- ---- the walk

-- what is found at first is left to be walked from
pub walk_begun : (held : List StoredStatement) (n : ℕ) (wanted : ℕ → Bool) (none found before left : List ℕ) → none ≡ [] → Notes wanted none found before left → IsWalked held n found left
walk_begun held n wanted none found before left empty notes = λ j k lt at is out.
    let was : false ≡ true = sym (ap (λ (ks : List ℕ). is_in ks k) empty) ∙ (notes.left k is out).0 in cc was

-- one step: what refers to a position is noted, and the position isn't left any more
pub walk_on : (held : List StoredStatement) (n coming position : ℕ) (referring old new left rest after : List ℕ) → n ≤ length held → left ≡ rest ++ position ∷ []
    → ((s : StoredStatement) → slice_get held position ≡ Some s → IsPosting held coming (key.Reference s.id) referring)
    → Notes (λ k. nat_lt k n && is_in referring k) old new rest after → IsWalked held n old left → IsWalked held n new after
walk_on held n coming position referring old new left rest after within last posting notes walked = λ j k lt at is out.
    let before = notes.left k is out in
    by_test j k lt at before.0 before.1 (position == k) refl
  where
    by_test : (j k : ℕ) → j < n → referred_at (take n held) j ≡ Some k → is_in old k ≡ true → is_in rest k ≡ false → (b : Bool) → (position == k) ≡ b → is_in new j ≡ true
    by_test j k lt at is out true same =
        let here : referred_at (take n held) j ≡ Some position = at ∙ ap (λ i. Some i) (sym (eqb-true position k same)) in
        notes.noted j (and_from (nat_lt j n) (is_in referring j) (lt-ltb j n lt) (referring_in held n coming j position referring within lt here posting))
    by_test j k lt at is out false other =
        notes.kept j (walked j k lt at is
        (ap (λ (ks : List ℕ). is_in ks k) last ∙ (list_any-append (λ i. i == k) rest (position ∷ [])
        ∙ or_from (is_in rest k) ((position == k) || false) out (ap (λ b. b || false) other))))

is_nil : (ks : List ℕ) → length ks ≡ 0 → ks ≡ []
is_nil [] none = refl
is_nil (k ∷ ks) none = absurd (omega arith)

-- none is left
pub walk_ended : (held : List StoredStatement) (n : ℕ) (found left : List ℕ) (count : ℕ) → count ≡ length left → count ≡ 0 → IsWalked held n found left → IsWalked held n found []
walk_ended held n found left count counted none walked =
    subst (λ (ks : List ℕ). IsWalked held n found ks) (is_nil left (sym counted ∙ none)) walked

pub reached : (held : List StoredStatement) (n : ℕ) (ends none first found list before left : List ℕ) → Notes (λ k. nat_lt k n && is_in ends k) none first before left
    → ((k : ℕ) → is_in first k ≡ true → is_in found k ≡ true) → IsWalked held n found [] → list ≡ found → IsAscending list → Reaches held n ends list
reached held n ends none first found list before left notes kept walked same ascends = record {
  ascending = ascends;
  ends = λ k lt is. there k ∙ kept k (notes.noted k (and_from (nat_lt k n) (is_in ends k) (lt-ltb k n lt) is));
  referring = λ j k lt at is. there j ∙ walked j k lt at (sym (there k) ∙ is) refl;
}
  where
    there : (k : ℕ) → is_in list k ≡ is_in found k
    there k = ap (λ (ks : List ℕ). is_in ks k) same
