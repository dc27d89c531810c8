-- What is read of a piece is what is read of the whole.
use Rattle.std.proofs.Common.{◌≡◌, ◌∙◌, ◌≤◌, ◌+◌, ◌-◌, ℕ, List, [], Option, Some, None, IfSome, length, take, drop, min, refl, sym, ap, arith, length-take, length-drop}
use Rattle.std.proofs.lemmas.List.{drop-drop, drop-take, take-take, take_min}
use Rattle.lrs_edge.specs.Ahead.{IsPiece}

if_some : {A : Type 0} (o : Option A) (P : A → Type 0) → ((x : A) → o ≡ Some x → P x) → IfSome o P
if_some None P holds = tt
if_some (Some x) P holds = holds x refl

-- ---- pieces

-- no bytes are one, from any offset on
pub no_piece : (told : Option (List ℕ)) (start : ℕ) (piece : List ℕ) → piece ≡ [] → IsPiece told start piece
no_piece told start piece none = record {
  front = λ b told_b. none ∙ ap (λ (l : List ℕ). take (length l) (drop start b)) (sym none);
}

-- so is what was read, as much as there was
pub piece_read : (told : Option (List ℕ)) (offset most : ℕ) (piece : List ℕ) → ((b : List ℕ) → told ≡ Some b → piece ≡ take most (drop offset b)) → IsPiece told offset piece
piece_read told offset most piece read = record {
  front = λ b told_b.
      let rest : List ℕ = drop offset b in
      let all : piece ≡ take most rest = read b told_b in
      let size : take (length piece) rest ≡ take most rest =
      ap (λ (l : List ℕ). take (length l) rest) all ∙ ap (λ (k : ℕ). take k rest) (length-take most rest) ∙ take_min most rest in
      all ∙ sym size;
}

-- the bytes that were read of those that were asked for
pub part_read : (most n offset : ℕ) (piece into b : List ℕ) → piece ≡ take n into → n ≡ min most (length b - offset) → take n into ≡ take n (drop offset b) → piece ≡ take most (drop offset b)
part_read most n offset piece into b first number same =
    let size : n ≡ min most (length (drop offset b)) = omega (arith, number, length-drop offset b) in
    first ∙ same ∙ ap (λ (k : ℕ). take k (drop offset b)) size ∙ take_min most (drop offset b)

-- ---- reads of a piece

-- at its front, of no more bytes than were asked for
pub read_front : (told : Option (List ℕ)) (offset count most : ℕ) (piece : List ℕ) → count ≤ most → ((b : List ℕ) → told ≡ Some b → piece ≡ take most (drop offset b))
    → (b : List ℕ) → told ≡ Some b → take count (drop 0 piece) ≡ take count (drop offset b)
read_front told offset count most piece few read b told_b = ap (λ (l : List ℕ). take count l) (read b told_b) ∙ take-take count most (drop offset b) few

-- of bytes that are all in it
read_within : (start within offset count rest : ℕ) (piece b : List ℕ) → piece ≡ take (length piece) (drop start b) → start + within ≡ offset → length piece ≡ within + rest → count ≤ rest
    → take count (drop within piece) ≡ take count (drop offset b)
read_within start within offset count rest piece b front offset_is size few =
    let behind : drop within (drop start b) ≡ drop offset b = drop-drop within start b ∙ ap (λ (k : ℕ). drop k b) offset_is in
    let there : drop within piece ≡ take rest (drop offset b) =
    ap (λ (l : List ℕ). drop within l) front
    ∙ ap (λ (k : ℕ). drop within (take k (drop start b))) size
    ∙ drop-take within rest (drop start b)
    ∙ ap (λ (l : List ℕ). take rest l) behind in
    ap (λ (l : List ℕ). take count l) there ∙ take-take count rest (drop offset b) few

pub read_inside : (told : Option (List ℕ)) (start within offset count : ℕ) (piece : List ℕ) → IsPiece told start piece → start + within ≡ offset → within + count ≤ length piece
    → (b : List ℕ) → told ≡ Some b → take count (drop within piece) ≡ take count (drop offset b)
read_inside told start within offset count piece is offset_is fits b told_b =
    read_within start within offset count (length piece - within) piece b (is.front b told_b) offset_is (omega (arith, fits)) (omega (arith, fits))

-- ---- what was copied of a piece

pub copied_number : (told : Option (List ℕ)) (within offset count n : ℕ) (piece : List ℕ) → n ≡ min count (length piece - within)
    → ((b : List ℕ) → told ≡ Some b → take count (drop within piece) ≡ take count (drop offset b)) → IfSome told (λ b. n ≡ min count (length b - offset))
copied_number told within offset count n piece number same =
    if_some told (λ b. n ≡ min count (length b - offset))
    (λ b told_b.
    let size : length (take count (drop within piece)) ≡ length (take count (drop offset b)) = ap length (same b told_b) in
    omega (arith, number, size, length-take count (drop within piece), length-take count (drop offset b), length-drop within piece, length-drop offset b))

pub copied_bytes : (told : Option (List ℕ)) (within offset count n : ℕ) (piece into : List ℕ) → n ≡ min count (length piece - within) → take n into ≡ take n (drop within piece)
    → ((b : List ℕ) → told ≡ Some b → take count (drop within piece) ≡ take count (drop offset b)) → IfSome told (λ b. take n into ≡ take n (drop offset b))
copied_bytes told within offset count n piece into number copied same =
    let few : n ≤ count = omega (arith, number) in
    if_some told (λ b. take n into ≡ take n (drop offset b))
    (λ b told_b.
    copied
    ∙ sym (take-take n count (drop within piece) few)
    ∙ ap (λ (l : List ℕ). take n l) (same b told_b)
    ∙ take-take n count (drop offset b) few)
