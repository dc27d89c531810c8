-- Writes one after the other, and torn writes.
use Rattle.std.proofs.Common.{◌≡◌, ℕ, ◌+◌, ◌≤◌, ◌<◌, List, [], ◌∷◌, ◌++◌, length, take, drop, sym, ◌∙◌, ap, arith, append_assoc, length-append, length-take}
use Rattle.std.proofs.lemmas.List.{take_all, take_at, drop_all, drop_at, drop-drop, take-take, append-nil}
use Rattle.lrs_disk.specs.Disk.{written, Torn}
use Rattle.lrs_journal.specs.Steps.{KeepsUpTo, IsAtGate}
use Rattle.lrs_journal.specs.Store.{body}
use Rattle.std.specs.Int.{w32, w64, to_be_bytes}

-- the front of what was written
pub written_front : (b : List ℕ) (p : ℕ) (xs : List ℕ) → p ≤ length b → length (take p b ++ xs) ≡ p + length xs
written_front b p xs le = omega (arith, length-append (take p b) xs, length-take p b)

-- two writes, the second right after the first, are one
pub written_on : (b : List ℕ) (p q : ℕ) (xs ys : List ℕ) → p ≤ length b → q ≡ p + length xs → written (written b p xs) q ys ≡ written b p (xs ++ ys)
written_on b p q xs ys le is =
    let size : length (take p b ++ xs) ≡ q = written_front b p xs le ∙ sym is in
    let front : take q (written b p xs) ≡ take p b ++ xs = take_at (take p b ++ xs) (drop (p + length xs) b) q size in
    let behind : drop q (written b p xs) ≡ drop (p + length xs) b = drop_at (take p b ++ xs) (drop (p + length xs) b) q size in
    let offset : p + length xs + length ys ≡ p + length (xs ++ ys) = omega (arith, length-append xs ys) in
    let back : drop (q + length ys) (written b p xs) ≡ drop (p + length (xs ++ ys)) b =
    sym (drop-drop (length ys) q (written b p xs)) ∙ ap (λ (l : List ℕ). drop (length ys) l) behind ∙ drop-drop (length ys) (p + length xs) b ∙ ap (λ (n : ℕ). drop n b) offset in
    ap (λ (l : List ℕ). l ++ ys ++ drop (q + length ys) (written b p xs)) front
    ∙ ap (λ (l : List ℕ). take p b ++ xs ++ ys ++ l) back
    ∙ ap (λ (l : List ℕ). l ++ drop (p + length (xs ++ ys)) b) (append_assoc (take p b) xs ys)

-- the same up to an offset is the same up to a lower one
pub same_front : (m n : ℕ) (c d : List ℕ) → m ≤ n → take n c ≡ take n d → take m c ≡ take m d
same_front m n c d le same = sym (take-take m n c le) ∙ ap (λ (l : List ℕ). take m l) same ∙ take-take m n d le

-- a torn write after an offset keeps what is before it
pub torn_behind : (offset at n : ℕ) (old : List ℕ → Type 0) → offset ≤ at → (d c : List ℕ) → KeepsUpTo offset old d → Torn at n d c → KeepsUpTo offset old c
torn_behind offset at n old le d c was torn = (was.0, was.1, same_front offset at c d le torn.before ∙ was.2)

pub torn_gate : (offset : ℕ) (old : List ℕ → Type 0) (d c : List ℕ) → IsAtGate offset old d → Torn offset 1 d c → IsAtGate offset old c
torn_gate offset old d c was torn = (was.0, was.1, torn.before ∙ was.2, torn.after ∙ was.3)

-- a head, a payload and a closed gate, written one after the other
pub staged_is : (b b1 b2 b3 : List ℕ) (p number : ℕ) (payload : List ℕ) → p < length b → b1 ≡ written b (p + 1) (to_be_bytes w32 (length payload) ++ to_be_bytes w64 number)
    → b2 ≡ written b1 (p + 13) payload → b3 ≡ written b2 (p + 13 + length payload) (0 ∷ []) → b3 ≡ written b (p + 1) (body number payload ++ 0 ∷ [])
staged_is b b1 b2 b3 p number payload lt is1 is2 is3 =
    let word = to_be_bytes w32 (length payload) ++ to_be_bytes w64 number in
    let two : b2 ≡ written b (p + 1) (body number payload) = is2 ∙ ap (λ (l : List ℕ). written l (p + 13) payload) is1 ∙ written_on b (p + 1) (p + 13) word payload (omega arith) (omega arith) in
    is3 ∙ ap (λ (l : List ℕ). written l (p + 13 + length payload) (0 ∷ [])) two
    ∙ written_on b (p + 1) (p + 13 + length payload) (body number payload) (0 ∷ []) (omega arith) (omega (arith, length-append word payload))

-- what is written at the end comes after all
pub at_end : (b : List ℕ) (p : ℕ) (xs : List ℕ) → p ≡ length b → written b p xs ≡ b ++ xs
at_end b p xs is =
    ap (λ (l : List ℕ). l ++ xs ++ drop (p + length xs) b) (take_all p b (omega (arith, is)))
    ∙ ap (λ (l : List ℕ). b ++ xs ++ l) (drop_all (p + length xs) b (omega (arith, is))) ∙ append-nil (b ++ xs)

-- an open gate, a head and a payload, written at the end
pub laid_is : (b b1 b2 : List ℕ) (p number : ℕ) (payload : List ℕ) → p ≡ length b → b1 ≡ written b p (1 ∷ to_be_bytes w32 (length payload) ++ to_be_bytes w64 number)
    → b2 ≡ written b1 (p + 13) payload → b2 ≡ b ++ 1 ∷ body number payload
laid_is b b1 b2 p number payload is is1 is2 =
    let head = 1 ∷ to_be_bytes w32 (length payload) ++ to_be_bytes w64 number in
    is2 ∙ ap (λ (l : List ℕ). written l (p + 13) payload) is1 ∙ written_on b p (p + 13) head payload (omega (arith, is)) (omega arith) ∙ at_end b p (head ++ payload) is
