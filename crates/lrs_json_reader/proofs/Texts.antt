-- The loop over the pieces of a string.
use Rattle.std.proofs.Common.{◌≡◌, ◌≤◌, ◌<◌, ℕ, List, [], ◌∷◌, ◌++◌, length, Option, Some, refl, sym, ap, ◌∙◌, subst, IsUtf8, IsTrue, true, nat_eq, take, drop, arith, append_assoc, length-drop}
use Rattle.std.proofs.lemmas.List.{append-nil, take-append-drop}
use Rattle.std.proofs.lemmas.Grind.{flat_map-append, common_steps}
use Rattle.std.specs.List.{flat_map, prefix_len, starts_with}
use Rattle.lrs_decimal.specs.Numbers.{Each}
use Rattle.lrs_json_reader.specs.Grammar.{Chars, Quoted}
use Rattle.lrs_json.specs.Written.{is_plain}
use Rattle.lrs_json_reader.specs.Steps.{IsPlain, Within}
use Rattle.lrs_json_reader.specs.declared.strings.Piece.TheVariants.{Byte}
use Rattle.lrs_json_reader.specs.Strings.{piece_at, next_at, piece_text}
use Rattle.lrs_decimal.proofs.Runs.{Each-run}
use Rattle.lrs_json_reader.proofs.Spaces.{word_here}
use Rattle.lrs_json_reader.specs.declared.strings.Piece.{Piece}

pub record SoFar (text start here : List ℕ) (done : List Piece) : Type 0 where
  pub is_text : text ≡ flat_map piece_text done
  pub sound : (ps : List Piece) (rest : List ℕ) → Chars ps here rest → Chars (done ++ ps) start rest
  pub complete : (ps : List Piece) (rest : List ℕ) → Chars ps start rest → (qs : List Piece) × (ps ≡ done ++ qs) × Chars qs here rest

-- From start on, pieces of this text were read, and here is what follows them.
pub record TextSoFar (text start here : List ℕ) : Type 0 where
  pub done : List Piece
  pub so_far : SoFar text start here done
  pub no_longer : length here ≤ length start

pub text_start : (text start : List ℕ) → text ≡ [] → TextSoFar text start start
text_start text start e =
    record { done = []; so_far = record { is_text = e; sound = λ ps rest ch. ch; complete = λ ps rest ch. (ps, refl, ch) }; no_longer = omega arith }

-- a piece doesn't begin at a quote
no_piece : (bs rest : List ℕ) (p : Piece) (a : List ℕ) → bs ≡ 34 ∷ rest → piece_at bs ≡ Some (p, a) → ⊥
unfolding piece_at next_at
no_piece bs rest p a e h = let k : piece_at (34 ∷ rest) ≡ Some (p, a) = subst (λ z. piece_at z ≡ Some (p, a)) e h in cc

same_pair : {A B : Type 0} (o : Option (A × B)) (a c : A) (b d : B) → o ≡ Some (a, b) → o ≡ Some (c, d) → (a ≡ c) × (b ≡ d)
same_pair {A} {B} o a c b d x y = let e : ◌≡◌ {A = Option (A × B)} (Some (a, b)) (Some (c, d)) = sym x ∙ y in
    let p : ◌≡◌ {A = A × B} (a, b) (c, d) = cc e in (ap (λ z. z.0) p, ap (λ z. z.1) p)

-- what stands where no quote comes
piece_comes : (here next rest : List ℕ) (p : Piece) (ps : List Piece) → ((end : List ℕ) → here ≡ 34 ∷ end → ⊥) → piece_at here ≡ Some (p, next) → Chars ps here rest → (qs : List Piece) × (ps ≡ p ∷ qs) × Chars qs next rest
piece_comes here next rest p [] none at ch = absurd (none rest ch)
piece_comes here next rest p (q ∷ qs) none at ch =
    let same = same_pair (piece_at here) p q next ch.0 at ch.1 in
    (qs, ap (λ z. z ∷ qs) (sym same.0), subst (λ z. Chars qs z rest) (sym same.1) ch.2)

pub text_next : (text new start here taken next : List ℕ) (p : Piece) → TextSoFar text start here → (taken ≡ here) × ((end : List ℕ) → here ≡ 34 ∷ end → ⊥) → piece_at taken ≡ Some (p, next) → new ≡ text ++ piece_text p → length next < length taken
    → TextSoFar new start next
text_next text new start here taken next p so test at' e len' =
    let s = so.so_far in
    let none = test.1 in
    let at = subst (λ z. piece_at z ≡ Some (p, next)) test.0 at' in
    let len = subst (λ z. length next < length z) test.0 len' in
    record {
      done = so.done ++ p ∷ [];
      so_far = record {
        is_text = e ∙ rw (s.is_text, flat_map-append piece_text so.done (p ∷ []), append-nil (piece_text p)) refl;
        sound = λ ps rest ch. rw (append_assoc so.done (p ∷ []) ps) (s.sound (p ∷ ps) rest (next, at, ch));
        complete = λ ps rest ch.
            let m = s.complete ps rest ch in
            let q = piece_comes here next rest p m.0 none at m.2 in
            (q.0, m.1 ∙ ap (λ z. so.done ++ z) q.1 ∙ sym (append_assoc so.done (p ∷ []) q.0), q.2);
      };
      no_longer = let l = so.no_longer in omega (arith, l, len);
    }

pub text_done : (text start here new : List ℕ) → TextSoFar text start here → here ≡ (34 ∷ []) ++ new → IsUtf8 text → Within text start new
text_done text start here new so e utf8 =
    let s = so.so_far in
    (so.done ++ [], s.sound [] new e, s.is_text ∙ ap (flat_map piece_text) (sym (append-nil so.done)), utf8)

end_at : (qs : List Piece) (here new rest : List ℕ) → here ≡ 34 ∷ new → Chars qs here rest → (qs ≡ []) × (new ≡ rest)
end_at [] here new rest e ch = (refl, cc (e, ch))
end_at (q ∷ qs) here new rest e ch = absurd (no_piece here new q ch.0 e ch.1)

-- whatever text stands there is the one that was read
pub text_all : (text start here new other rest : List ℕ) → TextSoFar text start here → here ≡ (34 ∷ []) ++ new → Within other start rest → (text ≡ other) × (new ≡ rest) × IsUtf8 text
text_all text start here new other rest so e q =
    let s = so.so_far in
    let m = s.complete q.0 rest q.1 in
    let d = end_at m.0 here new rest e m.2 in
    let is : text ≡ other = s.is_text ∙ ap (flat_map piece_text) (sym (append-nil so.done) ∙ ap (λ z. so.done ++ z) (sym d.0) ∙ sym m.1) ∙ sym q.2 in
    (is, d.1, rw is q.3)

first_piece : (qs : List Piece) (here rest : List ℕ) → ((end : List ℕ) → here ≡ 34 ∷ end → ⊥) → Chars qs here rest → (p : Piece) × (a : List ℕ) × (piece_at here ≡ Some (p, a))
first_piece [] here rest none ch = absurd (none rest ch)
first_piece (q ∷ qs) here rest none ch = (q, ch.0, ch.1)

-- where no quote comes, some piece does
pub piece_wanted : (text start here other rest taken : List ℕ) → TextSoFar text start here → (taken ≡ here) × ((end : List ℕ) → here ≡ 34 ∷ end → ⊥) → Within other start rest → (p : Piece) × (a : List ℕ) × (piece_at taken ≡ Some (p, a))
piece_wanted text start here other rest taken so test q =
    let m = so.so_far.complete q.0 rest q.1 in
    let f = first_piece m.0 here rest test.1 m.2 in
    (f.0, f.1, ap piece_at test.0 ∙ f.2)

-- ---- the opening quote

pub quoted_from : (t old start new : List ℕ) → old ≡ (34 ∷ []) ++ start → Within t start new → Quoted t old new
quoted_from t old start new e w = (w.0, start, e, w.1, w.2, w.3)

pub quoted_within : (t old start rest : List ℕ) → old ≡ (34 ∷ []) ++ start → Quoted t old rest → Within t start rest
quoted_within t old start rest e q = let same : q.1 ≡ start = cc (e, q.2) in (q.0, subst (λ z. Chars q.0 z rest) same q.3, q.4, q.5)

-- ---- bytes that stand for themselves

plain_piece : (b : ℕ) (bs : List ℕ) → IsTrue (is_plain b) → piece_at (b ∷ bs) ≡ Some (Byte b, bs)
unfolding piece_at next_at
plain_piece b bs p = grind (arith, common_steps)

pieces_of : List ℕ → List Piece
pieces_of [] = []
pieces_of (b ∷ bs) = Byte b ∷ pieces_of bs

plain_Chars : (bs rest : List ℕ) → Each is_plain bs → Chars (pieces_of bs) (bs ++ 34 ∷ rest) rest
unfolding pieces_of
plain_Chars [] rest each = refl
plain_Chars (b ∷ bs) rest each = (bs ++ 34 ∷ rest, plain_piece b (bs ++ 34 ∷ rest) each.0, plain_Chars bs rest each.1)

plain_text : (bs : List ℕ) → bs ≡ flat_map piece_text (pieces_of bs)
unfolding pieces_of
plain_text [] = refl
plain_text (b ∷ bs) = ap (λ z. b ∷ z) (plain_text bs)

plain_no_quote : (b : ℕ) (bs end : List ℕ) → IsTrue (is_plain b) → b ∷ bs ≡ 34 ∷ end → ⊥
plain_no_quote b bs end p e = let q : b ≡ 34 = cc e in grind arith

plain_only : (bs rest end : List ℕ) (ps : List Piece) → Each is_plain bs → Chars ps (bs ++ 34 ∷ rest) end → (bs ≡ flat_map piece_text ps) × (rest ≡ end)
plain_only [] rest end [] each ch = (refl, cc ch)
plain_only [] rest end (p ∷ ps) each ch = absurd (no_piece (34 ∷ rest) rest p ch.0 refl ch.1)
plain_only (b ∷ bs) rest end [] each ch = absurd (plain_no_quote b (bs ++ 34 ∷ rest) end each.0 ch)
plain_only (b ∷ bs) rest end (p ∷ ps) each ch =
    let same = same_pair (piece_at (b ∷ (bs ++ 34 ∷ rest))) (Byte b) p (bs ++ 34 ∷ rest) ch.0 (plain_piece b (bs ++ 34 ∷ rest) each.0) ch.1 in
    let more = plain_only bs rest end ps each.1 (subst (λ z. Chars ps z end) (sym same.1) ch.2) in
    (ap (λ z. b ∷ z) more.0 ∙ ap (λ z. piece_text z ++ flat_map piece_text ps) same.0, more.1)

plain_whole : (n : ℕ) (bs : List ℕ) (p : IsPlain n bs) → bs ≡ take n bs ++ 34 ∷ p.rest
plain_whole n bs p = sym (take-append-drop n bs) ∙ ap (λ z. take n bs ++ z) p.quote

-- read up to the quote, and over it
pub plain_done : (n : ℕ) (start t mid new : List ℕ) → IsPlain n start → t ≡ take n start → mid ≡ drop n start → new ≡ drop 1 mid → IsUtf8 t → Within t start new
plain_done n start t mid new p e m d utf8 =
    let rest : new ≡ p.rest = d ∙ ap (drop 1) (m ∙ p.quote) in
    (pieces_of (take n start), subst (λ z. Chars (pieces_of (take n start)) z new) (sym (plain_whole n start p)) (rw rest (plain_Chars (take n start) p.rest p.plain)), e ∙ plain_text (take n start), utf8)

pub plain_all : (n : ℕ) (start text end : List ℕ) → IsPlain n start → Within text start end → (take n start ≡ text) × (drop 1 (drop n start) ≡ end) × IsUtf8 (take n start)
plain_all n start text end p w =
    let o = plain_only (take n start) p.rest end w.0 p.plain (subst (λ z. Chars w.0 z end) (plain_whole n start p) w.1) in
    let is : take n start ≡ text = o.0 ∙ sym w.2 in
    (is, ap (drop 1) p.quote ∙ o.1, rw is w.3)

pub plain_shorter : (n : ℕ) (start mid new : List ℕ) → mid ≡ drop n start → new ≡ drop 1 mid → length new ≤ length start
plain_shorter n start mid new m d = omega (arith, ap length d, length-drop 1 mid, ap length m, length-drop n start)

pub plain_next : (n : ℕ) (start mid : List ℕ) → IsPlain n start → mid ≡ drop n start → 1 ≤ length mid
plain_next n start mid p m = let l = ap length (m ∙ p.quote) in omega (arith, l)

pub plain_found : (n : ℕ) (bs : List ℕ) → n ≡ prefix_len is_plain bs → n ≤ length bs → true ≡ starts_with nat_eq (drop n bs) (34 ∷ []) → IsPlain n bs
plain_found n bs e within t =
    record {
      within = within;
      plain = subst (λ k. Each is_plain (take k bs)) (sym e) (Each-run is_plain bs);
      rest = drop 1 (drop n bs);
      quote = word_here (drop n bs) (34 ∷ []) t;
    }
