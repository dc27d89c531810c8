-- What a crash leaves of a store, and what it stands for.
use Rattle.std.proofs.Common.{◌≡◌, inl, inr, ℕ, ◌+◌, ◌≤◌, ◌<◌, ◌^◌, List, [], ◌∷◌, ◌++◌, length, take, drop, get_or, refl, sym, ◌∙◌, ap, arith, append_assoc, length-append, length-drop, take-append-drop}
use Rattle.std.proofs.lemmas.Bool.{cases_eq}
use Rattle.std.proofs.lemmas.List.{take_at, drop_at, drop-drop, drop_more, append-nil}
use Rattle.std.specs.Int.{w32, to_be_bytes}
use Rattle.lrs_journal.specs.declared.sizes.Format.{Format}
use Rattle.lrs_journal.specs.declared.sizes.Format.TheVariants as format
use Rattle.lrs_journal.specs.Replay.{IsWholeFrame}
use Rattle.std.specs.List.{AllByRecursion}
use Rattle.lrs_disk.specs.Disk.{written}
use Rattle.lrs_journal.specs.Steps.{AtRest, InDoubt, IsEndOffset}
use Rattle.lrs_journal.specs.Store.{head_of, header_in, number_in, body_in, frames_in, store_in, store, header, frames, body, Stands, IsPayload, IsEnd, IsBeforeOrAfter}

pub frames-push : (f : Format) (k m : ℕ) (ps : List (List ℕ)) (p : List ℕ) → m ≡ k + length ps → frames_in f k (ps ++ p ∷ []) ≡ frames_in f k ps ++ 1 ∷ body_in f m p
frames-push f k m [] p is = let same : k ≡ m = omega (arith, is) in append-nil (1 ∷ body_in f k p) ∙ ap (λ (n : ℕ). 1 ∷ body_in f n p) same
frames-push f k m (q ∷ ps) p is =
    let next : m ≡ k + 1 + length ps = omega (arith, is) in
    ap (λ (l : List ℕ). 1 ∷ body_in f k q ++ l) (frames-push f (k + 1) m ps p next) ∙ sym (append_assoc (1 ∷ body_in f k q) (frames_in f (k + 1) ps) (1 ∷ body_in f m p))

-- a store with one frame more
pub store-push : (f : Format) (limit : ℕ) (ps : List (List ℕ)) (p : List ℕ) → store_in f limit (ps ++ p ∷ []) ≡ store_in f limit ps ++ 1 ∷ body_in f (length ps) p
store-push f limit ps p =
    let first : length ps ≡ 0 + length ps = omega arith in
    ap (λ (l : List ℕ). header_in f limit ++ l) (frames-push f 0 (length ps) ps p first) ∙ sym (append_assoc (header_in f limit) (frames_in f 0 ps) (1 ∷ body_in f (length ps) p))

pub number_le : (f : Format) (k : ℕ) (ps : List (List ℕ)) → length ps ≤ length (frames_in f k ps)
number_le f k [] = omega arith
number_le f k (p ∷ ps) = omega (arith, number_le f (k + 1) ps, length-append (1 ∷ body_in f k p) (frames_in f (k + 1) ps))

pub sizes-push : (ps : List (List ℕ)) (p : List ℕ) → AllByRecursion IsPayload ps → length p < 2 ^ 32 → AllByRecursion IsPayload (ps ++ p ∷ [])
sizes-push [] p all here = (here, tt)
sizes-push (q ∷ ps) p all here = (all.0, sizes-push ps p all.1 here)

pub length-body : (k : ℕ) (p : List ℕ) → length (body k p) ≡ 12 + length p
length-body k p = omega arith

pub length-body-in : (f : Format) (k : ℕ) (p : List ℕ) → 1 + length (body_in f k p) ≡ head_of f + length p
length-body-in format.One k p = omega arith
length-body-in format.Two k p = omega arith

pub head_some : (f : Format) → 1 ≤ head_of f
head_some format.One = omega arith
head_some format.Two = omega arith

-- a closed gate ends the list
pub rest_stands : (limit end : ℕ) (ps : List (List ℕ)) (c : List ℕ) → IsEndOffset limit end ps → AtRest limit ps c → Stands c limit ps
rest_stands limit end ps c placed at_rest = record { least = placed.least; most = placed.most; sizes = placed.sizes; rest = 0 ∷ at_rest.0; split = at_rest.1; ends = closed at_rest.0 }
  where
    closed : (rest : List ℕ) → IsEnd (0 ∷ rest)
    closed [] = tt
    closed (b ∷ rest) = λ e. omega arith

-- a frame after any gate counts or it doesn't
pub doubt_stands : (limit end : ℕ) (ps : List (List ℕ)) (p c : List ℕ) → IsEndOffset limit end ps → length p < 2 ^ 32 → InDoubt limit ps p c → IsBeforeOrAfter limit ps p c
doubt_stands limit end ps p c placed small doubt = elim (cases_eq doubt.0 1) [
  | inl is_open ↦ inr (record {
    least = placed.least;
    most = placed.most;
    sizes = sizes-push ps p placed.sizes small;
    rest = 0 ∷ doubt.1;
    split = doubt.2 ∙ ap (λ (g : ℕ). store limit ps ++ g ∷ body (length ps) p ++ 0 ∷ doubt.1) is_open ∙ ap (λ (l : List ℕ). l ++ 0 ∷ doubt.1) (sym (store-push format.Two limit ps p));
    ends = closed doubt.1;
  })
  | inr shut ↦ inl (record {
    least = placed.least;
    most = placed.most;
    sizes = placed.sizes;
    rest = doubt.0 ∷ body (length ps) p ++ 0 ∷ doubt.1;
    split = doubt.2 ∙ append_assoc (store limit ps) (doubt.0 ∷ body (length ps) p) (0 ∷ doubt.1);
    ends = shut;
  })
]
  where
    closed : (rest : List ℕ) → IsEnd (0 ∷ rest)
    closed [] = tt
    closed (b ∷ rest) = λ e. omega arith

-- a gate lies within
pub gate_within : (limit : ℕ) (ps : List (List ℕ)) (c : List ℕ) → AtRest limit ps c → length (store limit ps) < length c
gate_within limit ps c at_rest = omega (arith, ap length at_rest.1, length-append (store limit ps) (0 ∷ at_rest.0))

pub doubt_within : (limit : ℕ) (ps : List (List ℕ)) (p c : List ℕ) → InDoubt limit ps p c → length (store limit ps) < length c
doubt_within limit ps p c doubt = omega (arith, ap length doubt.2, length-append (store limit ps ++ doubt.0 ∷ body (length ps) p) (0 ∷ doubt.1), length-append (store limit ps) (doubt.0 ∷ body (length ps) p))

-- the parts round the gate
module _ (limit : ℕ) (ps : List (List ℕ)) (p : List ℕ) (end : ℕ) (is : end ≡ length (store limit ps)) where
  front : (c rest : List ℕ) (gate : ℕ) → c ≡ store limit ps ++ gate ∷ rest → take end c ≡ store limit ps
  front c rest gate split = ap (λ (l : List ℕ). take end l) split ∙ take_at (store limit ps) (gate ∷ rest) end (sym is)

  back : (c rest : List ℕ) (gate : ℕ) → c ≡ store limit ps ++ gate ∷ rest → drop (end + 1) c ≡ rest
  back c rest gate split =
      ap (λ (l : List ℕ). drop (end + 1) l) (split ∙ sym (append_assoc (store limit ps) (gate ∷ []) rest))
      ∙ drop_at (store limit ps ++ gate ∷ []) rest (end + 1) (omega (arith, is, length-append (store limit ps) (gate ∷ [])))

  -- in doubt, as a store, a gate and what follows it
  around : (c : List ℕ) (doubt : InDoubt limit ps p c) → c ≡ store limit ps ++ doubt.0 ∷ (body (length ps) p ++ 0 ∷ doubt.1)
  around c doubt = doubt.2 ∙ append_assoc (store limit ps) (doubt.0 ∷ body (length ps) p) (0 ∷ doubt.1)

  -- a torn gate keeps the doubt
  pub gate_keeps : (c d : List ℕ) → InDoubt limit ps p d → take end c ≡ take end d → drop (end + 1) c ≡ drop (end + 1) d → InDoubt limit ps p c
  gate_keeps c d doubt before after =
      let rest = doubt.1 in
      let behind : drop (end + 1) c ≡ body (length ps) p ++ 0 ∷ rest = after ∙ back d (body (length ps) p ++ 0 ∷ rest) doubt.0 (around d doubt) in
      let long : end < length c = omega (arith, ap length behind, length-drop (end + 1) c, length-append (body (length ps) p) (0 ∷ rest)) in
      let gate = get_or c end 0 in
      let ended : drop end c ≡ gate ∷ (body (length ps) p ++ 0 ∷ rest) = drop_more c end 0 long ∙ ap (λ (l : List ℕ). gate ∷ l) behind in
      let whole : c ≡ store limit ps ++ gate ∷ (body (length ps) p ++ 0 ∷ rest) =
      sym (take-append-drop end c) ∙ ap (λ (l : List ℕ). l ++ drop end c) (before ∙ front d (body (length ps) p ++ 0 ∷ rest) doubt.0 (around d doubt)) ∙ ap (λ (l : List ℕ). store limit ps ++ l) ended in
      (gate, rest, whole ∙ sym (append_assoc (store limit ps) (gate ∷ body (length ps) p) (0 ∷ rest)))

  -- an opened gate ends it
  pub gate_opens : (c d : List ℕ) → InDoubt limit ps p d → c ≡ written d end (1 ∷ []) → AtRest limit (ps ++ p ∷ []) c
  gate_opens c d doubt is_written =
      let rest = doubt.1 in
      let whole : c ≡ store limit ps ++ 1 ∷ [] ++ (body (length ps) p ++ 0 ∷ rest) =
      is_written ∙ ap (λ (l : List ℕ). l ++ 1 ∷ [] ++ drop (end + 1) d) (front d (body (length ps) p ++ 0 ∷ rest) doubt.0 (around d doubt))
      ∙ ap (λ (l : List ℕ). store limit ps ++ 1 ∷ [] ++ l) (back d (body (length ps) p ++ 0 ∷ rest) doubt.0 (around d doubt)) in (
        rest,
        whole ∙ append_assoc (store limit ps) (1 ∷ []) (body (length ps) p ++ 0 ∷ rest) ∙ sym (append_assoc (store limit ps) (1 ∷ body (length ps) p) (0 ∷ rest))
            ∙ ap (λ (l : List ℕ). l ++ 0 ∷ rest) (sym (store-push format.Two limit ps p)),
      )

  -- what follows the closed gate is free
  pub behind_free : (c d : List ℕ) → AtRest limit ps d → take (end + 1) c ≡ take (end + 1) d → AtRest limit ps c
  behind_free c d at_rest same =
      let open_end : take (end + 1) d ≡ store limit ps ++ 0 ∷ [] =
      ap (λ (l : List ℕ). take (end + 1) l) (at_rest.1 ∙ sym (append_assoc (store limit ps) (0 ∷ []) at_rest.0))
      ∙ take_at (store limit ps ++ 0 ∷ []) at_rest.0 (end + 1) (omega (arith, is, length-append (store limit ps) (0 ∷ []))) in
      (drop (end + 1) c, sym (take-append-drop (end + 1) c) ∙ ap (λ (l : List ℕ). l ++ drop (end + 1) c) (same ∙ open_end) ∙ append_assoc (store limit ps) (0 ∷ []) (drop (end + 1) c))

  -- a staged frame is in doubt
  pub staged_doubt : (c d : List ℕ) → AtRest limit ps d → c ≡ written d (end + 1) (body (length ps) p ++ 0 ∷ []) → InDoubt limit ps p c
  staged_doubt c d at_rest is_written =
      let far = end + 1 + length (body (length ps) p ++ 0 ∷ []) in
      let open_end : take (end + 1) d ≡ store limit ps ++ 0 ∷ [] =
      ap (λ (l : List ℕ). take (end + 1) l) (at_rest.1 ∙ sym (append_assoc (store limit ps) (0 ∷ []) at_rest.0))
      ∙ take_at (store limit ps ++ 0 ∷ []) at_rest.0 (end + 1) (omega (arith, is, length-append (store limit ps) (0 ∷ []))) in (
        0,
        drop far d,
        is_written ∙ ap (λ (l : List ℕ). l ++ (body (length ps) p ++ 0 ∷ []) ++ drop far d) open_end
            ∙ ap (λ (l : List ℕ). l ++ drop far d) (append_assoc (store limit ps) (0 ∷ []) (body (length ps) p ++ 0 ∷ []) ∙ sym (append_assoc (store limit ps) (0 ∷ body (length ps) p) (0 ∷ [])))
            ∙ append_assoc (store limit ps ++ 0 ∷ body (length ps) p) (0 ∷ []) (drop far d),
      )

-- there are no more frames than bytes
pub number_small : (limit end : ℕ) (ps : List (List ℕ)) → IsEndOffset limit end ps → length ps ≤ end
number_small limit end ps placed = omega (arith, placed.behind, number_le format.Two 0 ps, length-append (header limit) (frames ps))

-- one frame more
pub placed_push : (limit end len : ℕ) (ps : List (List ℕ)) (p : List ℕ) → IsEndOffset limit end ps → len ≡ length p → len < 2 ^ 32 → IsEndOffset limit (end + (13 + len)) (ps ++ p ∷ [])
placed_push limit end len ps p placed is small = record {
  least = placed.least;
  most = placed.most;
  sizes = sizes-push ps p placed.sizes (omega arith);
  behind = omega (arith, placed.behind, ap length (store-push format.Two limit ps p), length-append (store limit ps) (1 ∷ body (length ps) p), length-body (length ps) p);
}

-- what follows a frame's head
head_dropped : (f : Format) (k len : ℕ) (behind : List ℕ) → drop (head_of f) (1 ∷ to_be_bytes w32 len ++ number_in f k ++ behind) ≡ behind
head_dropped format.One k len behind = refl
head_dropped format.Two k len behind = refl

-- a frame that was read: its head, and its payload
pub frame_read : (f : Format) (limit offset : ℕ) (ps : List (List ℕ)) (bytes into : List ℕ) (len : ℕ) → bytes ≡ store_in f limit ps ++ drop offset bytes
    → IsWholeFrame f (length ps) (drop offset bytes) len → length into ≡ len → into ≡ take len (drop (offset + head_of f) bytes)
    → bytes ≡ store_in f limit (ps ++ into ∷ []) ++ drop (offset + (head_of f + len)) bytes
frame_read f limit offset ps bytes into len split whole long is =
    let k = length ps in
    let rest = drop (offset + (head_of f + len)) bytes in
    let behind : drop (offset + head_of f) bytes ≡ whole.0 = sym (drop-drop (head_of f) offset bytes) ∙ ap (λ (l : List ℕ). drop (head_of f) l) whole.1 ∙ head_dropped f k len whole.0 in
    let payload : take len whole.0 ≡ into = sym (is ∙ ap (λ (l : List ℕ). take len l) behind) in
    let far : offset + head_of f + len ≡ offset + (head_of f + len) = omega arith in
    let last : drop len whole.0 ≡ rest = ap (λ (l : List ℕ). drop len l) (sym behind) ∙ drop-drop len (offset + head_of f) bytes ∙ ap (λ (n : ℕ). drop n bytes) far in
    let parts : whole.0 ≡ into ++ rest = sym (take-append-drop len whole.0) ∙ ap (λ (l : List ℕ). l ++ drop len whole.0) payload ∙ ap (λ (l : List ℕ). into ++ l) last in
    let spelled : 1 ∷ to_be_bytes w32 len ++ number_in f k ++ into ≡ 1 ∷ body_in f k into = ap (λ (n : ℕ). 1 ∷ to_be_bytes w32 n ++ number_in f k ++ into) (sym long) in
    let found : drop offset bytes ≡ 1 ∷ body_in f k into ++ rest =
    whole.1 ∙ ap (λ (l : List ℕ). 1 ∷ to_be_bytes w32 len ++ number_in f k ++ l) parts ∙ sym (append_assoc (1 ∷ to_be_bytes w32 len ++ number_in f k) into rest) ∙ ap (λ (l : List ℕ). l ++ rest) spelled in
    split ∙ ap (λ (l : List ℕ). store_in f limit ps ++ l) found ∙ sym (append_assoc (store_in f limit ps) (1 ∷ body_in f k into) rest)
    ∙ ap (λ (l : List ℕ). l ++ rest) (sym (store-push f limit ps into))
