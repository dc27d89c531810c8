-- The steps of the reader between items.
use Rattle.std.proofs.Common.{◌≡◌, ◌≢◌, ◌↔◌, ◌≤◌, ℕ, IsTrue, not, List, [], ◌∷◌, Bool, true, false, length, Result, Ok, Err, IsErrAnd, refl, sym, ap, ◌∙◌, subst, true≢false, arith, length-append}
use Rattle.lrs_json_reader.specs.Grammar.{is_space, Spaces, Comma}
use Rattle.lrs_decimal.specs.Numbers.{Stops}
use Rattle.lrs_json_reader.specs.Steps.{Opens, StepsToNext, StepsOverCommaOr, Closes, Finds, comma_or}
use Rattle.lrs_json_reader.specs.Reading.{has_items}
use Rattle.lrs_json_reader.specs.declared.cursor.Stop.{Stop}
use Rattle.lrs_json_reader.specs.declared.cursor.Stop.TheVariants.{Memory}
use Rattle.lrs_decimal.proofs.Runs.{behind}
use Rattle.lrs_json_reader.proofs.Spaces.{Spaces-behind, behind-Spaces}

pub Spaces-length : (bs rest : List ℕ) → Spaces bs rest → length rest ≤ length bs
Spaces-length bs rest s = omega (arith, length-append s.0 rest, ap length s.2)

pub behind-length : (bs : List ℕ) → length (behind is_space bs) ≤ length bs
behind-length bs = Spaces-length bs _ (Spaces-behind bs)

Opens-Stops : (close : ℕ) (b : List ℕ) → Opens close b → Stops is_space b
Opens-Stops close [] o = tt
Opens-Stops close (x ∷ b) o = o.0

pub not_close : (close : ℕ) (b rest : List ℕ) → Opens close b → b ≡ close ∷ rest → ⊥
not_close close [] rest o e = o
not_close close (x ∷ b) rest o e = o.1 (cc e)

-- what is wanted stands where the white space ends
comma_at : (later : Bool) (old a b : List ℕ) (close : ℕ) → Comma later old a → Spaces a b → Opens close b → later ≡ true → behind is_space old ≡ 44 ∷ a
comma_at true old a b close c s o e = behind-Spaces old (44 ∷ a) c refl
comma_at false old a b close c s o e = absurd (true≢false (sym e))

item_at : (later : Bool) (old a b : List ℕ) (close : ℕ) → Comma later old a → Spaces a b → Opens close b → later ≡ false → behind is_space old ≡ b
item_at false old a b close c s o e = rw c (behind-Spaces a b s (Opens-Stops close b o))
item_at true old a b close c s o e = absurd (true≢false e)

no_more : (later : Bool) (close : ℕ) (old a b new : List ℕ) → Closes close → behind is_space old ≡ close ∷ new → Comma later old a → Spaces a b → Opens close b → ⊥
no_more true close old a b new k e c s o = k.no_comma (cc (e, comma_at true old a b close c s o refl))
no_more false close old a b new k e c s o = not_close close b new o (sym (item_at false old a b close c s o refl) ∙ e)

pub at_end : (later : Bool) (close : ℕ) (old s new : List ℕ) → Closes close → s ≡ behind is_space old → s ≡ close ∷ new → StepsToNext later close old (Ok false) new
at_end later close old s new k es en =
    let e : behind is_space old ≡ close ∷ new = sym es ∙ en in
    let spaces : Spaces old (close ∷ new) = subst (λ z. Spaces old z) e (Spaces-behind old) in
    record {
      goes = λ t. absurd (true≢false (sym t));
      ends = λ _. spaces;
      all_more = λ a b c s o. absurd (no_more later close old a b new k e c s o);
      all_end = λ rest sp. (refl, cc (e, behind-Spaces old (close ∷ rest) sp k.no_space));
      no_longer = let l = Spaces-length old (close ∷ new) spaces in omega (arith, l);
    }

pub at_item : (later : Bool) (close : ℕ) (old new : List ℕ) → Closes close → later ≡ false → new ≡ behind is_space old → ((rest : List ℕ) → new ≡ close ∷ rest → ⊥) → StepsToNext later close old (Ok true) new
at_item later close old new k lf es none =
    record {
      goes = λ _. (old, rw lf refl, rw es (Spaces-behind old));
      ends = λ t. absurd (true≢false t);
      all_more = λ a b c s o. (refl, es ∙ item_at later old a b close c s o lf);
      all_end = λ rest sp. absurd (none rest (es ∙ behind-Spaces old (close ∷ rest) sp k.no_space));
      no_longer = rw es (behind-length old);
    }

pub at_comma : (later : Bool) (close : ℕ) (old s t new : List ℕ) → Closes close → later ≡ true → s ≡ behind is_space old → ((rest : List ℕ) → s ≡ close ∷ rest → ⊥) → s ≡ 44 ∷ t → new ≡ behind is_space t
    → StepsToNext later close old (Ok true) new
at_comma later close old s t new k lt es none et en =
    let comma : Spaces old (44 ∷ t) = subst (λ z. Spaces old z) (sym es ∙ et) (Spaces-behind old) in
    record {
      goes = λ _. (t, rw lt comma, rw en (Spaces-behind t));
      ends = λ h. absurd (true≢false h);
      all_more = λ a b c sp o. (refl, let ta : t ≡ a = cc (es, et, comma_at later old a b close c sp o lt) in en ∙ rw ta (behind-Spaces a b sp (Opens-Stops close b o)));
      all_end = λ rest sp. absurd (none rest (es ∙ behind-Spaces old (close ∷ rest) sp k.no_space));
      no_longer = let l = Spaces-length old (44 ∷ t) comma in let m = behind-length t in rw en (omega (arith, l, m));
    }

pub at_fault : (later : Bool) (close : ℕ) (old s new : List ℕ) {Q : Stop → Type 0} (r : Result Bool Stop) → Closes close → later ≡ true → s ≡ behind is_space old → ((rest : List ℕ) → s ≡ close ∷ rest → ⊥)
    → IsErrAnd r Q → ((y : Stop) (rest : List ℕ) → Q y → s ≡ 44 ∷ rest → y ≡ Memory) → StepsToNext later close old r new
at_fault later close old s new (Ok x) k lt es none q f = absurd q
at_fault later close old s new (Err y) k lt es none q f =
    record {
      goes = tt;
      ends = tt;
      all_more = λ a b c sp o. f y a q (es ∙ comma_at later old a b close c sp o lt);
      all_end = λ rest sp. absurd (none rest (es ∙ behind-Spaces old (close ∷ rest) sp k.no_space));
      no_longer = tt;
    }

-- ---- a comma, or the closing bracket

told_alike : (close : ℕ) (goes went : Bool) (new rest : List ℕ) → close ≢ 44 → comma_or close went ∷ new ≡ comma_or close goes ∷ rest → (went ≡ goes) × (new ≡ rest)
told_alike close true true new rest other e = (refl, cc e)
told_alike close true false new rest other e = absurd (other (cc e))
told_alike close false true new rest other e = let comma : close ≡ 44 = cc e in absurd (other comma)
told_alike close false false new rest other e = (refl, cc e)

-- which of the two stands there is told by the answer
pub over_this : (close : ℕ) (goes : Bool) (old new rest : List ℕ) (r : Result Bool Stop) → close ≢ 44 → StepsOverCommaOr close old r new → old ≡ comma_or close goes ∷ rest → Finds r (λ went. (went ≡ goes) × (new ≡ rest))
over_this close goes old new rest (Ok went) other on at = told_alike close goes went new rest other (sym on.found ∙ at)
over_this close goes old new rest (Err y) other on at = on.all goes rest at

-- ---- what was asked of the list so far

some_or_none : {X : Type 0} (b : Bool) (xs : List X) → (IsTrue b ↔ (xs ≡ [])) → not b ≡ has_items xs
some_or_none true [] e = refl
some_or_none true (x ∷ xs) e = cc (e.0 refl)
some_or_none false [] e = absurd (true≢false (sym (e.1 refl)))
some_or_none false (x ∷ xs) e = refl

-- the cursor was asked with whether something stands before
pub goes_later : {X : Type 0} {b : Bool} {xs : List X} {close : ℕ} {old new : List ℕ} {r : Result Bool Stop} → (IsTrue b ↔ (xs ≡ [])) → StepsToNext (not b) close old r new → StepsToNext (has_items xs) close old r new
goes_later {b = b} {xs = xs} {close = close} {old = old} {new = new} {r = r} e go = subst (λ z. StepsToNext z close old r new) (some_or_none b xs e) go

pub goes_at : {a later b : Bool} {close : ℕ} {old new : List ℕ} → a ≡ b → StepsToNext later close old (Ok a) new → StepsToNext later close old (Ok b) new
goes_at {later = later} {close = close} {old = old} {new = new} e go = subst (λ z. StepsToNext later close old (Ok z) new) e go
