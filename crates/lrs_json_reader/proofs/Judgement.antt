-- The reader's answer, by what was read.
use Rattle.std.proofs.Common.{◌≡◌, ◌≤◌, ◌↔◌, ◌-◌, ℕ, max, List, [], ◌∷◌, length, Option, Some, None, true, false, Result, Ok, Err, IfOk, inl, refl, sym, ap, ◌∙◌, subst, true≢false, IsTrue}
use Rattle.lrs_json.specs.Json.{Json}
use Rattle.lrs_json.specs.View.{view}
use Rattle.lrs_json_reader.specs.Located.{Located, plain}
use Rattle.lrs_json_reader.specs.Flaws.{earlier, earliest, repeated_names, out_of_range_numbers}
use Rattle.lrs_json_reader.specs.Grammar.{IsText}
use Rattle.lrs_json.specs.Depth.{depth}
use Rattle.lrs_json_reader.specs.Refusals.{is_too_deep, Spells, IsBad, RepeatedAt, OutOfRangeAt, Gives, Refuses}
use Rattle.lrs_json_reader.specs.Reading.{IsRead, Judged, Judges}
use Rattle.lrs_json_reader.specs.declared.reading.ReadRefused.{ReadRefused}
use Rattle.lrs_json_reader.specs.declared.reading.ReadRefused.TheVariants.{TooDeep, Bad, Repeated, NumberRange}
use Rattle.lrs_json_reader.specs.declared.reader.Flaws.{Flaws}
use Rattle.lrs_json.specs.declared.tree.Tree.{Tree}
use Rattle.std.proofs.lemmas.Result.{MatchResult-weaker}
use Rattle.std.proofs.lemmas.Option.{same_Some}
use Rattle.lrs_json.specs.Written.{written}
use Rattle.lrs_json.specs.Fits.{IsReadable}
use Rattle.lrs_json.proofs.Back.{same_tree}
use Rattle.lrs_json_reader.proofs.WrittenLemmas.{Spells-IsReadable, written-Spells}
use Rattle.lrs_json_reader.proofs.Scan.{shallow-scan, scan-shallow}

abbrev Answer : Type 0
Answer = Result Tree ReadRefused

-- all that is said of an answer
pub record IsJudgement (limit : ℕ) (bytes : List ℕ) (r : Answer) : Type 0 where
  pub too_deep : (r ≡ Err TooDeep) ↔ IsTrue (is_too_deep limit bytes)
  pub bad : Refuses r Bad (IsBad limit bytes)
  pub repeated : (offset : ℕ) → Refuses r (Repeated offset) (RepeatedAt limit bytes offset)
  pub number_range : (offset : ℕ) → Refuses r (NumberRange offset) (OutOfRangeAt limit bytes offset)
  pub found : IfOk r (λ t. Spells limit bytes (view t))
  pub all : (j : Json) → Spells limit bytes j → Gives r (λ t. view t ≡ j)

-- a refusal that isn't this one, and whose cause doesn't hold
other : (r : Answer) (e : ReadRefused) (Cause : Type 0) → (r ≡ Err e → ⊥) → (Cause → ⊥) → Refuses r e Cause
other r e Cause apart none = record { only = λ h. absurd (apart h); always = λ c. absurd (none c) }

deep_false : (limit : ℕ) (bytes : List ℕ) → is_too_deep limit bytes ≡ true → is_too_deep limit bytes ≡ false → ⊥
deep_false limit bytes t f = true≢false (sym t ∙ f)

Spells-shallow : (limit : ℕ) (bytes : List ℕ) (j : Json) → Spells limit bytes j → is_too_deep limit bytes ≡ false
Spells-shallow limit bytes j s = shallow-scan limit bytes s.located s.spelled (subst (λ z. depth z ≤ limit) (sym s.is) s.shallow)

not_deep : (limit : ℕ) (bytes : List ℕ) (r : Answer) → (r ≡ Err TooDeep → ⊥) → is_too_deep limit bytes ≡ false → (r ≡ Err TooDeep) ↔ IsTrue (is_too_deep limit bytes)
not_deep limit bytes r apart f = (λ h. absurd (apart h), λ t. absurd (deep_false limit bytes t f))

pub too_deep : (limit : ℕ) (bytes : List ℕ) → is_too_deep limit bytes ≡ true → IsJudgement limit bytes (Err TooDeep)
too_deep limit bytes t =
    record {
      too_deep = (λ _. t, λ _. refl);
      bad = other _ _ _ (λ h. cc h) (λ c. deep_false limit bytes t c.shallow);
      repeated = λ offset. other _ _ _ (λ h. cc h) (λ c. deep_false limit bytes t c.shallow);
      number_range = λ offset. other _ _ _ (λ h. cc h) (λ c. deep_false limit bytes t c.shallow);
      found = tt;
      all = λ j s. absurd (deep_false limit bytes t (Spells-shallow limit bytes j s));
    }

pub no_text : (limit : ℕ) (bytes : List ℕ) → is_too_deep limit bytes ≡ false → ((p : Located) → IsText p bytes → ⊥) → IsJudgement limit bytes (Err Bad)
no_text limit bytes f none =
    record {
      too_deep = not_deep limit bytes _ (λ h. cc h) f;
      bad = record { only = λ _. record { shallow = f; no_text = none }; always = λ _. inl refl };
      repeated = λ offset. other _ _ _ (λ h. cc h) (λ c. none c.located c.spelled);
      number_range = λ offset. other _ _ _ (λ h. cc h) (λ c. none c.located c.spelled);
      found = tt;
      all = λ j s. absurd (none s.located s.spelled);
    }

-- ---- a text was read

none_some : (x : ℕ) → ◌≡◌ {A = Option ℕ} None (Some x) → ⊥
none_some x e = cc e

earlier_some : (a : ℕ) (b : Option ℕ) → earlier (Some a) b ≡ None → ⊥
earlier_some a None e = none_some a (sym e)
earlier_some a (Some b) e = none_some (max a b) (sym e)

-- no earliest offset, no offset
none_empty : (lefts : List ℕ) → earliest lefts ≡ None → lefts ≡ []
none_empty [] e = refl
none_empty (left ∷ lefts) e = absurd (earlier_some left (earliest lefts) e)

-- no offset, and the earliest
empty_some : (lefts : List ℕ) (left : ℕ) → lefts ≡ [] → earliest lefts ≡ Some left → ⊥
empty_some lefts left e s = none_some left (sym (ap earliest e) ∙ s)

repeated_at : (offset a : ℕ) → ◌≡◌ {A = Answer} (Err (Repeated a)) (Err (Repeated offset)) → offset ≡ a
repeated_at offset a e = cc e

out_at : (offset a : ℕ) → ◌≡◌ {A = Answer} (Err (NumberRange a)) (Err (NumberRange offset)) → offset ≡ a
out_at offset a e = cc e

-- what holds of one text of the bytes holds of each
module _ (limit : ℕ) (bytes : List ℕ) (p : Located) (f : is_too_deep limit bytes ≡ false) (spelled : IsText p bytes) (only : (q : Located) → IsText q bytes → q ≡ p) where
  repeated_answer : (left : ℕ) → earliest (repeated_names p) ≡ Some left → IsJudgement limit bytes (Err (Repeated (length bytes - left)))
  repeated_answer left first =
      record {
        too_deep = not_deep limit bytes _ (λ h. cc h) f;
        bad = other _ _ _ (λ h. cc h) (λ c. c.no_text p spelled);
        repeated = λ offset.
            record {
              only = λ h. record { shallow = f; located = p; spelled = spelled; left = left; first = first; at = repeated_at offset (length bytes - left) h };
              always = λ c.
                  let same : left ≡ c.left = same_Some left c.left (sym first ∙ ap (λ z. earliest (repeated_names z)) (sym (only c.located c.spelled)) ∙ c.first) in
                  inl (ap (λ z. Err (Repeated (length bytes - z))) same ∙ ap (λ z. Err (Repeated z)) (sym c.at));
            };
        number_range = λ offset. other _ _ _ (λ h. cc h) (λ c. empty_some (repeated_names p) left (ap repeated_names (sym (only c.located c.spelled)) ∙ c.distinct) first);
        found = tt;
        all = λ j s. absurd (empty_some (repeated_names p) left (ap repeated_names (sym (only s.located s.spelled)) ∙ s.distinct) first);
      }

  number_answer : (left : ℕ) → earliest (repeated_names p) ≡ None → earliest (out_of_range_numbers p) ≡ Some left → IsJudgement limit bytes (Err (NumberRange (length bytes - left)))
  number_answer left none first =
      record {
        too_deep = not_deep limit bytes _ (λ h. cc h) f;
        bad = other _ _ _ (λ h. cc h) (λ c. c.no_text p spelled);
        repeated = λ offset. other _ _ _ (λ h. cc h) (λ c. none_some c.left (sym none ∙ ap (λ z. earliest (repeated_names z)) (sym (only c.located c.spelled)) ∙ c.first));
        number_range = λ offset.
            record {
              only = λ h. record { shallow = f; located = p; spelled = spelled; distinct = none_empty (repeated_names p) none; left = left; first = first; at = out_at offset (length bytes - left) h };
              always = λ c.
                  let same : left ≡ c.left = same_Some left c.left (sym first ∙ ap (λ z. earliest (out_of_range_numbers z)) (sym (only c.located c.spelled)) ∙ c.first) in
                  inl (ap (λ z. Err (NumberRange (length bytes - z))) same ∙ ap (λ z. Err (NumberRange z)) (sym c.at));
            };
        found = tt;
        all = λ j s. absurd (empty_some (out_of_range_numbers p) left (ap out_of_range_numbers (sym (only s.located s.spelled)) ∙ s.in_range) first);
      }

  tree_answer : (tree : Tree) → view tree ≡ plain p → earliest (repeated_names p) ≡ None → earliest (out_of_range_numbers p) ≡ None → IsJudgement limit bytes (Ok tree)
  tree_answer tree sees none out =
      record {
        too_deep = not_deep limit bytes _ (λ h. cc h) f;
        bad = other _ _ _ (λ h. cc h) (λ c. c.no_text p spelled);
        repeated = λ offset. other _ _ _ (λ h. cc h) (λ c. none_some c.left (sym none ∙ ap (λ z. earliest (repeated_names z)) (sym (only c.located c.spelled)) ∙ c.first));
        number_range = λ offset. other _ _ _ (λ h. cc h) (λ c. none_some c.left (sym out ∙ ap (λ z. earliest (out_of_range_numbers z)) (sym (only c.located c.spelled)) ∙ c.first));
        found = record {
          located = p;
          is = sym sees;
          spelled = spelled;
          shallow = subst (λ z. depth z ≤ limit) (sym sees) (scan-shallow limit bytes p spelled f);
          distinct = none_empty (repeated_names p) none;
          in_range = none_empty (out_of_range_numbers p) out;
        };
        all = λ j s. sees ∙ ap plain (sym (only s.located s.spelled)) ∙ s.is;
      }

  judged : (tree : Tree) (a b : Option ℕ) (r : Answer) → view tree ≡ plain p → earliest (repeated_names p) ≡ a → earliest (out_of_range_numbers p) ≡ b → Judged tree a b (length bytes) r → IsJudgement limit bytes r
  judged tree (Some left) b r sees ea eb j = subst (IsJudgement limit bytes) (sym j) (repeated_answer left ea)
  judged tree None (Some left) r sees ea eb j = subst (IsJudgement limit bytes) (sym j) (number_answer left ea eb)
  judged tree None None r sees ea eb j = subst (IsJudgement limit bytes) (sym j) (tree_answer tree sees ea eb)

pub text_read : (limit : ℕ) (bytes : List ℕ) (tree : Tree) (flaws : Flaws) (r : Answer) → is_too_deep limit bytes ≡ false → IsRead bytes tree flaws → Judges tree flaws (length bytes) r → IsJudgement limit bytes r
text_read limit bytes tree flaws r f read j =
    judged limit bytes read.located f read.spelled read.only tree flaws.repeated flaws.out_of_range r read.sees (sym (ap (λ z. z.repeated) read.notes)) (sym (ap (λ z. z.out_of_range) read.notes)) j

-- ---- what is given, read again

pub given_readable : (limit : ℕ) (bytes : List ℕ) (r : Answer) → IfOk r (λ t. Spells limit bytes (view t)) → IfOk r (λ t. IsReadable limit (view t))
given_readable limit bytes (Ok t) s = Spells-IsReadable limit bytes (view t) s
given_readable limit bytes (Err e) s = tt

pub given_again : (limit : ℕ) (bytes : List ℕ) (r : Answer) → ((j : Json) → Spells limit bytes j → Gives r (λ t. view t ≡ j)) → (t : Tree) → IsReadable limit (view t) → bytes ≡ written (view t) → Gives r (λ u. u ≡ t)
given_again limit bytes r all t readable e =
    MatchResult-weaker r (all (view t) (subst (λ z. Spells limit z (view t)) (sym e) (written-Spells limit (view t) readable))) (λ u s. same_tree u t s) (λ y m. m)

-- the written form of a value that can be read nests no deeper than it
pub written-shallow : (limit : ℕ) (j : Json) → IsReadable limit j → is_too_deep limit (written j) ≡ false
written-shallow limit j readable =
    let s = written-Spells limit j readable in
    shallow-scan limit (written j) s.located s.spelled (subst (λ z. depth z ≤ limit) (sym s.is) s.shallow)
