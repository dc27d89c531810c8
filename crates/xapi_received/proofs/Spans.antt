-- Spans and excerpts of a text, as it grows.
use Rattle.std.proofs.Common.{◌≡◌, ◌≤◌, ◌-◌, ℕ, List, [], ◌∷◌, ◌++◌, length, take, drop, Option, Some, None, refl, sym, ap, subst, ◌∙◌, arith, append_assoc}
use Rattle.std.specs.Prelude.{option_map}
use Rattle.std.proofs.Math.Seq.{drop-append_seam}
use Rattle.std.proofs.lemmas.List.{drop-append-le, length-append, length-drop, take-append-le, take_rest}
use Rattle.xapi_received.specs.Received.{AreWithin, HasSpan, IsWithin, bracket_text, bytes_at, excerpt_text, excerpts_text}
use Rattle.xapi_received.specs.declared.marks.Bracket.{Bracket}
use Rattle.xapi_received.specs.declared.marks.Excerpt.{Excerpt}
use Rattle.xapi_received.specs.declared.marks.ByteSpan.{ByteSpan}

abbrev pub span_at : ℕ → ℕ → ByteSpan
span_at start end = record { start = start; end = end }

abbrev pub excerpt_at : ℕ → ℕ → Bracket → Excerpt
excerpt_at start end bracket = record { span = span_at start end; bracket = bracket }

pub longer : (text more : List ℕ) (n : ℕ) → n ≤ length text → n ≤ length (text ++ more)
longer text more n le = subst (λ (m : ℕ). n ≤ m) (sym (length-append text more)) (omega arith)

pub within_more : (n m : ℕ) (excerpts : List Excerpt) → n ≤ m → AreWithin n excerpts → AreWithin m excerpts
within_more n m [] le w = tt
within_more n m (p ∷ ps) le w = let end : p.span.end ≤ n = w.0.1 in ((w.0.0, omega arith), within_more n m ps le w.1)

pub within_append : (n : ℕ) (excerpts : List Excerpt) (excerpt : Excerpt) → AreWithin n excerpts → IsWithin n excerpt.span → AreWithin n (excerpts ++ (excerpt ∷ []))
within_append n [] excerpt w one = (one, tt)
within_append n (p ∷ ps) excerpt w one = (w.0, within_append n ps excerpt w.1 one)

-- ---- what stands there stays

pub span_grown : (text more : List ℕ) (p : ByteSpan) → IsWithin (length text) p → bytes_at (text ++ more) p ≡ bytes_at text p
span_grown text more p w =
    let first : p.start ≤ p.end = w.0 in
    let last : p.end ≤ length text = w.1 in
    let start : p.start ≤ length text = omega arith in
    let few : p.end - p.start ≤ length text - p.start = omega arith in
    let left : p.end - p.start ≤ length (drop p.start text) = subst (λ (n : ℕ). p.end - p.start ≤ n) (sym (length-drop p.start text)) few in
    ap (λ (t : List ℕ). take (p.end - p.start) t) (drop-append-le p.start text more start) ∙ take-append-le (p.end - p.start) (drop p.start text) more left

pub has_grown : (text more : List ℕ) (o : Option ByteSpan) → HasSpan (length text) o → HasSpan (length (text ++ more)) o
has_grown text more None w = tt
has_grown text more (Some p) w = (w.0, longer text more p.end w.1)

pub given_grown : (text more : List ℕ) (o : Option ByteSpan) → HasSpan (length text) o → option_map (bytes_at (text ++ more)) o ≡ option_map (bytes_at text) o
given_grown text more None w = refl
given_grown text more (Some p) w = ap (λ (t : List ℕ). Some t) (span_grown text more p w)

pub excerpts_grown : (text more : List ℕ) (excerpts : List Excerpt) → AreWithin (length text) excerpts → excerpts_text (text ++ more) excerpts ≡ excerpts_text text excerpts
excerpts_grown text more [] w = refl
excerpts_grown text more (p ∷ ps) w =
    ap (λ (t : List ℕ). (t ++ bracket_text p.bracket) ++ excerpts_text (text ++ more) ps) (span_grown text more p.span w.0)
    ∙ ap (λ (t : List ℕ). excerpt_text text p ++ t) (excerpts_grown text more ps w.1)

-- ---- what was written last

span_of_last : (before more : List ℕ) → IsWithin (length (before ++ more)) (span_at (length before) (length (before ++ more)))
span_of_last before more = (longer before more (length before) (omega arith), omega arith)

last_bytes : (before more : List ℕ) → bytes_at (before ++ more) (span_at (length before) (length (before ++ more))) ≡ more
last_bytes before more = take_rest (before ++ more) (length before) ∙ drop-append_seam before more

module _ (before after more : List ℕ) (start end : ℕ) (first : start ≡ length before) (written : after ≡ before ++ more) (last : end ≡ length after) where
  pub last_within : IsWithin (length after) (span_at start end)
  last_within =
      subst (λ (n : ℕ). IsWithin (length after) (span_at start n)) (sym last)
      (subst (λ (n : ℕ). IsWithin (length after) (span_at n (length after))) (sym first)
      (subst (λ (t : List ℕ). IsWithin (length t) (span_at (length before) (length t))) (sym written) (span_of_last before more)))

  pub last_is : bytes_at after (span_at start end) ≡ more
  last_is =
      subst (λ (n : ℕ). bytes_at after (span_at start n) ≡ more) (sym last)
      (subst (λ (n : ℕ). bytes_at after (span_at n (length after)) ≡ more) (sym first)
      (subst (λ (t : List ℕ). bytes_at t (span_at (length before) (length t)) ≡ more) (sym written) (last_bytes before more)))

-- ---- the first excerpt

pub first_put : (text old new : List ℕ) (excerpts left : List Excerpt) (excerpt : Excerpt) → excerpts ≡ excerpt ∷ left → new ≡ old ++ excerpt_text text excerpt → new ++ excerpts_text text left ≡ old ++ excerpts_text text excerpts
first_put text old new excerpts left excerpt is put =
    ap (λ (t : List ℕ). t ++ excerpts_text text left) put ∙ append_assoc old (excerpt_text text excerpt) (excerpts_text text left)
    ∙ ap (λ (ps : List Excerpt). old ++ excerpts_text text ps) (sym is)
