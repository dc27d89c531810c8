-- What is shown of a draft, as it grows.
use Rattle.std.proofs.Common.{◌≡◌, ◌≤◌, ℕ, List, [], ◌∷◌, ◌++◌, length, drop, refl, sym, ap, subst, ◌∙◌, arith, append_assoc}
use Rattle.std.specs.Prelude.{Result, Ok, Err, OnOk}
use Rattle.std.proofs.Math.Seq.{drop-length}
use Rattle.std.proofs.lemmas.Grind.{flat_map-append}
use Rattle.std.proofs.lemmas.List.{append-nil, drop-append-le, take_rest}
use Rattle.lrs_json.specs.Json.{Json, array, element, no_elements}
use Rattle.lrs_json.specs.Spellable.{IsSpellable}
use Rattle.lrs_json.specs.Written.{written}
use Rattle.lrs_json.proofs.Pieces.{behind}
use Rattle.xapi_received.specs.Marking.{AddsText, Marks, shown_text}
use Rattle.xapi_received.specs.Excerpts.{listed}
use Rattle.xapi_received.specs.Received.{AreWithin, bracket_text, excerpt_text, excerpts_text}
use Rattle.xapi_received.specs.declared.draft.Draft.{Draft}
use Rattle.xapi_received.specs.declared.marks.Bracket.{Bracket}
use Rattle.xapi_received.specs.declared.marks.Bracket.TheVariants.{Opening, Closing}
use Rattle.xapi_received.specs.declared.marks.Excerpt.{Excerpt}
use Rattle.xapi_received.proofs.Spans.{longer, excerpt_at, excerpts_grown, within_append, within_more}

-- ---- over plain lists

abbrev Sound : List ℕ → List Excerpt → ℕ → Type 0
Sound text excerpts from = AreWithin from excerpts × (from ≤ length text)

abbrev shown : List ℕ → List Excerpt → ℕ → List ℕ
shown text excerpts from = excerpts_text text excerpts ++ drop from text

abbrev Shows : List ℕ → List ℕ → List Excerpt → ℕ → Type 0
Shows all text excerpts from = Sound text excerpts from × (shown text excerpts from ≡ all)

same_fields : (all text text' : List ℕ) (ps ps' : List Excerpt) (f f' : ℕ) → text' ≡ text → ps' ≡ ps → f' ≡ f → Shows all text ps f → Shows all text' ps' f'
same_fields all text text' ps ps' f f' a b d s =
    subst (λ (t : List ℕ). Shows all t ps' f') (sym a) (subst (λ (q : List Excerpt). Shows all text q f') (sym b) (subst (λ (n : ℕ). Shows all text ps n) (sym d) s))

-- what is written is shown
more_shown : (text more : List ℕ) (excerpts : List Excerpt) (from : ℕ) → Sound text excerpts from → Shows (shown text excerpts from ++ more) (text ++ more) excerpts from
more_shown text more excerpts from s =
    let le : from ≤ length text = s.1 in (
      (s.0, longer text more from le),
      ap (λ (t : List ℕ). t ++ drop from (text ++ more)) (excerpts_grown text more excerpts (within_more from (length text) excerpts le s.0))
          ∙ ap (λ (t : List ℕ). excerpts_text text excerpts ++ t) (drop-append-le from text more le) ∙ sym (append_assoc (excerpts_text text excerpts) (drop from text) more),
    )

-- an excerpt ends
excerpt_ended : (text : List ℕ) (excerpts : List Excerpt) (from : ℕ) (b : Bracket) → Sound text excerpts from
    → Shows (shown text excerpts from ++ bracket_text b) text (excerpts ++ (excerpt_at from (length text) b ∷ [])) (length text)
excerpt_ended text excerpts from b s =
    let p : Excerpt = excerpt_at from (length text) b in
    let before : List ℕ = excerpts_text text excerpts in
    let one : List ℕ = excerpt_text text p in
    let le : from ≤ length text = s.1 in (
      (within_append (length text) excerpts p (within_more from (length text) excerpts le s.0) (le, omega arith), omega arith),
      ap (λ (t : List ℕ). t ++ drop (length text) text) (flat_map-append (excerpt_text text) excerpts (p ∷ []))
          ∙ ap (λ (t : List ℕ). (before ++ (one ++ [])) ++ t) (drop-length text)
          ∙ append-nil (before ++ (one ++ []))
          ∙ ap (λ (t : List ℕ). before ++ t) (append-nil one)
          ∙ ap (λ (t : List ℕ). before ++ (t ++ bracket_text b)) (take_rest text from)
          ∙ sym (append_assoc before (drop from text) (bracket_text b)),
    )

-- what is written after an excerpt ended is not shown
passed_over : (text more : List ℕ) (excerpts : List Excerpt) (from : ℕ) → from ≡ length text → Sound text excerpts from → Shows (shown text excerpts from) (text ++ more) excerpts (length (text ++ more))
passed_over text more excerpts from is s =
    let le : from ≤ length text = s.1 in
    let nothing_left : drop from text ≡ [] = ap (λ (n : ℕ). drop n text) is ∙ drop-length text in (
      (within_more from (length (text ++ more)) excerpts (longer text more from le) s.0, omega arith),
      ap (λ (t : List ℕ). excerpts_text (text ++ more) excerpts ++ t) (drop-length (text ++ more))
          ∙ ap (λ (t : List ℕ). t ++ []) (excerpts_grown text more excerpts (within_more from (length text) excerpts le s.0))
          ∙ ap (λ (t : List ℕ). excerpts_text text excerpts ++ t) (sym nothing_left),
    )

-- ---- over drafts

pub nothing_added : (d : Draft) → AddsText [] [] d d
nothing_added d = record { writes = sym (append-nil d.text.items); shows = λ sound. (sound, sym (append-nil (shown_text d))) }

pub text_added : (old new : Draft) (more : List ℕ) → new.text.items ≡ old.text.items ++ more → listed new.excerpts ≡ listed old.excerpts → new.from ≡ old.from → AddsText more more old new
text_added old new more text excerpts from = record {
  writes = text;
  shows = λ sound. same_fields (shown_text old ++ more) (old.text.items ++ more) new.text.items (listed old.excerpts) (listed new.excerpts) old.from new.from text excerpts from
      (more_shown old.text.items more (listed old.excerpts) old.from sound);
}

-- a value is shown as it is
pub tree_marked : {T E : Type 0} (r : Result T E) (j : Json) (old new : Draft) → listed new.excerpts ≡ listed old.excerpts → new.from ≡ old.from → OnOk r (new.text.items ≡ old.text.items ++ written j) → OnOk r (IsSpellable j)
    → OnOk r (Marks j j old new)
tree_marked (Ok x) j old new excerpts from text spellable = record { spellable = spellable; adds = text_added old new (written j) text excerpts from }
tree_marked (Err e) j old new excerpts from text spellable = text

pub excerpt_added : (old new : Draft) (b : Bracket) → new.text.items ≡ old.text.items → listed new.excerpts ≡ listed old.excerpts ++ (excerpt_at old.from new.from b ∷ []) → new.from ≡ length old.text.items
    → AddsText [] (bracket_text b) old new
excerpt_added old new b text excerpts from =
    let excerpts_are : listed new.excerpts ≡ listed old.excerpts ++ (excerpt_at old.from (length old.text.items) b ∷ []) =
    excerpts ∙ ap (λ (n : ℕ). listed old.excerpts ++ (excerpt_at old.from n b ∷ [])) from in record {
      writes = text ∙ sym (append-nil old.text.items);
      shows = λ sound. same_fields (shown_text old ++ bracket_text b) old.text.items new.text.items ((listed old.excerpts) ++ (excerpt_at old.from (length old.text.items) b ∷ [])) (listed new.excerpts) (length old.text.items) new.from
          text excerpts_are from (excerpt_ended old.text.items (listed old.excerpts) old.from b sound);
    }

pub left_out : (old mid new : Draft) (more : List ℕ) → AddsText [] [] old mid → mid.from ≡ length mid.text.items → new.text.items ≡ mid.text.items ++ more → listed new.excerpts ≡ listed mid.excerpts
    → new.from ≡ length new.text.items → AddsText more [] old new
left_out old mid new more paused ends text excerpts from = record {
  writes = text ∙ ap (λ (t : List ℕ). t ++ more) (paused.writes ∙ append-nil old.text.items);
  shows = λ sound.
      let before = paused.shows sound in
      let after = same_fields (shown_text mid) (mid.text.items ++ more) new.text.items (listed mid.excerpts) (listed new.excerpts) (length (mid.text.items ++ more)) new.from
      text excerpts (from ∙ ap length text) (passed_over mid.text.items more (listed mid.excerpts) mid.from ends before.0) in
      (after.0, after.1 ∙ before.1);
}

-- ---- one after the other

pub adds_both : (old mid new : Draft) (r r' s s' : List ℕ) → AddsText r s old mid → AddsText r' s' mid new → AddsText (r ++ r') (s ++ s') old new
adds_both old mid new r r' s s' first second = record {
  writes = behind old.text.items mid.text.items new.text.items r r' first.writes second.writes;
  shows = λ sound.
      let one = first.shows sound in
      let other = second.shows one.0 in
      (other.0, behind (shown_text old) (shown_text mid) (shown_text new) s s' one.1 other.1);
}

pub adds_as : (old new : Draft) (r r' s s' : List ℕ) → r ≡ r' → s ≡ s' → AddsText r s old new → AddsText r' s' old new
adds_as old new r r' s s' e f a = subst (λ (t : List ℕ). AddsText r' t old new) f (subst (λ (t : List ℕ). AddsText t s old new) e a)

pub in_brackets : (j : Json) (a b d e : Draft) → AddsText [] (bracket_text Opening) a b → Marks j j b d → AddsText [] (bracket_text Closing) d e → Marks j (array (element j no_elements)) a e
in_brackets j a b d e opens n closes = record {
  spellable = n.spellable;
  adds = adds_as a e ([] ++ (written j ++ [])) (written j) (bracket_text Opening ++ (written j ++ bracket_text Closing)) (written (array (element j no_elements))) (append-nil (written j)) refl
      (adds_both a b e [] (written j ++ []) (bracket_text Opening) (written j ++ bracket_text Closing) opens (adds_both b d e (written j) [] (written j) (bracket_text Closing) n.adds closes));
}
