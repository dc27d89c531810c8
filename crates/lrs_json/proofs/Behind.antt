-- What is left behind a beginning.
use Rattle.std.proofs.Common.{◌≡◌, ◌≢◌, ◌↔◌, ℕ, ◌+◌, ◌==◌, eqb, length, List, [], ◌∷◌, ◌++◌, Bool, true, false, IsTrue, Option, Some, None, take, drop, refl, sym, ap, ◌∙◌, arith}
use Rattle.std.proofs.lemmas.Grind.{common_steps}
use Rattle.std.specs.Option.{option_and_then, option_copied, MatchOption}
use Rattle.std.proofs.lemmas.Slice.Eq.{strip_prefix_is}
use Rattle.std.proofs.lemmas.List.{append-nil, append_cancel_left}
use Rattle.std.proofs.lemmas.Bool.Decides.{Decides-eqb}
use Rattle.std.specs.Cmp.Lexicographic.{pointwise}
use denote.Ref.{Bor}
use Rattle.lrs_json.specs.Behind.{left_behind}

pub behind_nothing : (bytes : List ℕ) → left_behind [] bytes ≡ Some bytes
unfolding left_behind
behind_nothing bytes = refl

behind_whole : (word left : List ℕ) → left_behind word (word ++ left) ≡ Some left
unfolding left_behind
behind_whole [] left = refl
behind_whole (x ∷ word) left = let same : (x == x) ≡ true = grind (arith, common_steps) in rw same (behind_whole word left)

behind_both_at : (x y : ℕ) (a b bytes : List ℕ) (same : Bool) → (x == y) ≡ same
    → left_behind (a ++ b) bytes ≡ option_and_then (left_behind b) (left_behind a bytes)
    → left_behind ((x ∷ a) ++ b) (y ∷ bytes) ≡ option_and_then (left_behind b) (left_behind (x ∷ a) (y ∷ bytes))
unfolding left_behind
behind_both_at x y a b bytes true is more = rw (is) more
behind_both_at x y a b bytes false is more = rw (is) refl

-- one beginning after the other
pub behind_both : (a b bytes : List ℕ) → left_behind (a ++ b) bytes ≡ option_and_then (left_behind b) (left_behind a bytes)
unfolding left_behind
behind_both [] b bytes = refl
behind_both (x ∷ a) b [] = refl
behind_both (x ∷ a) b (y ∷ bytes) = behind_both_at x y a b bytes (x == y) refl (behind_both a b bytes)

-- the bytes don't begin with the first of two beginnings
pub none_behind : (a b bytes : List ℕ) (r : Option (Bor (List ℕ))) → option_copied r ≡ left_behind a bytes → r ≡ None → left_behind (a ++ b) bytes ≡ None
none_behind a b bytes r left is = rw (behind_both a b bytes, ← left, is) refl

-- or they do
pub some_behind : (a b bytes : List ℕ) (r : Option (Bor (List ℕ))) (x : Bor (List ℕ)) → option_copied r ≡ left_behind a bytes → r ≡ Some x → left_behind (a ++ b) bytes ≡ left_behind b x.now
some_behind a b bytes r x left is = rw (behind_both a b bytes, ← left, is) refl

left_at : (x y : ℕ) (word bytes left : List ℕ) (same : Bool) → (x == y) ≡ same → (left_behind word bytes ≡ Some left → bytes ≡ word ++ left)
    → left_behind (x ∷ word) (y ∷ bytes) ≡ Some left → y ∷ bytes ≡ x ∷ (word ++ left)
unfolding left_behind
left_at x y word bytes left true is more e =
    let e2 : left_behind word bytes ≡ Some left = rw (is) at e in
    let same : y ≡ x = grind (arith, common_steps) in
    cc (same, more e2)
left_at x y word bytes left false is more e = absurd (let e2 : ◌≡◌ {A = Option (List ℕ)} None (Some left) = rw (is) at e in cc e2)

-- what is left makes the bytes whole
pub left_is : (word bytes left : List ℕ) → left_behind word bytes ≡ Some left → bytes ≡ word ++ left
unfolding left_behind
left_is [] bytes left e = cc e
left_is (x ∷ word) [] left e = absurd (cc e)
left_is (x ∷ word) (y ∷ bytes) left e = left_at x y word bytes left (x == y) refl (left_is word bytes left) e

not_left : (word bytes : List ℕ) (found : Option (List ℕ)) → left_behind word bytes ≡ found → ((left : List ℕ) → bytes ≢ word ++ left) → None ≡ left_behind word bytes
not_left word bytes None is never = sym is
not_left word bytes (Some left) is never = absurd (never left (left_is word bytes left is))

stripped_at : (word bytes : List ℕ) (r : Option (Bor (List ℕ))) → MatchOption r ((left : List ℕ) → bytes ≢ word ++ left) (λ x. bytes ≡ word ++ x.now) → option_copied r ≡ left_behind word bytes
stripped_at word bytes None never = not_left word bytes (left_behind word bytes) refl never
stripped_at word bytes (Some x) is = rw (is) (sym (behind_whole word x.now))

-- what `strip_prefix` gives
pub stripped : (word bytes : List ℕ) (r : Option (Bor (List ℕ))) → MatchOption r (pointwise eqb (take (length word) bytes) word ≡ false) (λ x. (pointwise eqb (take (length word) bytes) word ≡ true) × (x.now ≡ drop (length word) bytes) × (length x.now + length word ≡ length bytes))
    → option_copied r ≡ left_behind word bytes
stripped word bytes r cases = stripped_at word bytes r (strip_prefix_is Decides-eqb bytes word r cases)

pub empty_at : (xs : List ℕ) (empty : Bool) → empty ≡ (length xs == 0) → IsTrue empty → xs ≡ []
empty_at [] empty is holds = refl
empty_at (x ∷ xs) empty is holds = grind (arith, common_steps)

at_empty : (xs : List ℕ) (empty : Bool) → empty ≡ (length xs == 0) → xs ≡ [] → IsTrue empty
at_empty xs empty is none = is ∙ ap (λ z. length z == 0) none

-- the bytes are the word, exactly if nothing is left of them
pub is_nothing_left : (word bytes : List ℕ) (r : Option (Bor (List ℕ))) (x : Bor (List ℕ)) (empty : Bool) → option_copied r ≡ left_behind word bytes → r ≡ Some x → empty ≡ (length x.now == 0) → IsTrue empty ↔ (word ≡ bytes)
is_nothing_left word bytes r x empty left some is =
    let whole : bytes ≡ word ++ x.now = left_is word bytes x.now (sym left ∙ ap option_copied some) in (
      λ holds. sym (whole ∙ ap (λ z. word ++ z) (empty_at x.now empty is holds) ∙ append-nil word),
      λ same. at_empty x.now empty is (append_cancel_left word x.now [] (sym whole ∙ sym same ∙ sym (append-nil word))),
    )

-- they are others, if they don't begin with it
pub is_something_else : (word bytes : List ℕ) (r : Option (Bor (List ℕ))) → option_copied r ≡ left_behind word bytes → r ≡ None → IsTrue false ↔ (word ≡ bytes)
is_something_else word bytes r left none =
    let nothing : None ≡ left_behind word bytes = ap option_copied (sym none) ∙ left in (
      λ holds. absurd (cc holds),
      λ same.
          let whole : left_behind word bytes ≡ Some [] = ap (left_behind word) (sym same ∙ sym (append-nil word)) ∙ behind_whole word [] in
          let never : ◌≡◌ {A = Option (List ℕ)} None (Some []) = nothing ∙ whole in absurd (cc never),
    )
