-- What is read of a store's bytes is what they stand for.
use Rattle.std.proofs.Common.{◌≡◌, ℕ, zero, suc, ◌+◌, ◌≤◌, List, [], ◌∷◌, ◌++◌, length, take, drop, refl, ◌∙◌, ap, arith, append_assoc, length-append, Bool, true, false, if◌then◌else◌}
use Rattle.std.specs.Prelude.{◌==◌, nat_le}
use Rattle.std.specs.List.{AllByRecursion}
use Rattle.std.proofs.lemmas.Bool.{le-leb, lt-leb, ne_eqb, and_left, and_right}
use Rattle.std.proofs.lemmas.List.{take_at, drop_at}
use Rattle.std.proofs.lemmas.Nat.{from_be_bytes-to_be_bytes_4}
use Rattle.lrs_journal.specs.Store.{store, header, frames_in, frames, body, Stands, IsEnd, IsPayload, length_at, begins_open, payloads_within, payloads_in}
use Rattle.lrs_journal.specs.declared.sizes.Format.TheVariants as format
use Rattle.lrs_journal.proofs.Doubt.{number_le}
use Rattle.lrs_journal.specs.declared.sizes.TheConstants.{HEADER}

-- no open frame begins at an end
shut_end : (rest : List ℕ) → IsEnd rest → begins_open rest ≡ false
shut_end [] ends = refl
shut_end (gate ∷ []) ends = and_right (gate == 1) (nat_le (13 + length_at (gate ∷ [])) 1) (lt-leb (13 + length_at (gate ∷ [])) 1 (omega arith))
shut_end (gate ∷ next ∷ rest) ends = and_left (gate == 1) (nat_le (13 + length_at (gate ∷ next ∷ rest)) (length (gate ∷ next ∷ rest))) (ne_eqb gate 1 ends)

none_within : (n : ℕ) (rest : List ℕ) → IsEnd rest → payloads_within n rest ≡ []
none_within zero rest ends = refl
none_within (suc n) rest ends =
    ap (λ (t : Bool). if t then take (length_at rest) (drop 13 rest) ∷ payloads_within n (drop (13 + length_at rest) rest) else []) (shut_end rest ends)

-- an open frame in front
module _ (k : ℕ) (payload behind : List ℕ) (small : IsPayload payload) where
  spelled : length_at (1 ∷ body k payload ++ behind) ≡ length payload
  spelled = from_be_bytes-to_be_bytes_4 (length payload) small

  opens : begins_open (1 ∷ body k payload ++ behind) ≡ true
  opens = le-leb (13 + length_at (1 ∷ body k payload ++ behind)) (length (1 ∷ body k payload ++ behind)) (omega (arith, spelled, length-append (1 ∷ body k payload) behind))

  first : take (length_at (1 ∷ body k payload ++ behind)) (drop 13 (1 ∷ body k payload ++ behind)) ≡ payload
  first = ap (λ (n : ℕ). take n (payload ++ behind)) spelled ∙ take_at payload behind (length payload) refl

  others : drop (13 + length_at (1 ∷ body k payload ++ behind)) (1 ∷ body k payload ++ behind) ≡ behind
  others = ap (λ (n : ℕ). drop (13 + n) (1 ∷ body k payload ++ behind)) spelled ∙ drop_at (1 ∷ body k payload) behind (13 + length payload) (omega arith)

pub within_are : (n k : ℕ) (ps : List (List ℕ)) (rest : List ℕ) → length ps ≤ n → AllByRecursion IsPayload ps → IsEnd rest → payloads_within n (frames_in format.Two k ps ++ rest) ≡ ps
within_are n k [] rest le sizes ends = none_within n rest ends
within_are zero k (p ∷ ps) rest le sizes ends = absurd (omega (arith, le))
within_are (suc n) k (p ∷ ps) rest le sizes ends =
    let others_then = frames_in format.Two (k + 1) ps ++ rest in
    let bytes = 1 ∷ body k p ++ others_then in
    ap (λ (l : List ℕ). payloads_within (suc n) l) (append_assoc (1 ∷ body k p) (frames_in format.Two (k + 1) ps) rest)
    ∙ ap (λ (t : Bool). if t then take (length_at bytes) (drop 13 bytes) ∷ payloads_within n (drop (13 + length_at bytes) bytes) else []) (opens k p others_then sizes.0)
    ∙ ap (λ (l : List ℕ). l ∷ payloads_within n (drop (13 + length_at bytes) bytes)) (first k p others_then sizes.0)
    ∙ ap (λ (l : List (List ℕ)). p ∷ l) (ap (λ (l : List ℕ). payloads_within n l) (others k p others_then sizes.0) ∙ within_are n (k + 1) ps rest (omega (arith, le)) sizes.1 ends)

-- the payloads that are read of a store's bytes are those for which they stand
pub stands_read : (bytes : List ℕ) (limit : ℕ) (payloads : List (List ℕ)) → Stands bytes limit payloads → payloads_in bytes ≡ payloads
stands_read bytes limit payloads stands =
    let long : length payloads ≤ length bytes = omega (arith, number_le format.Two 0 payloads, ap length stands.split, length-append (store limit payloads) stands.rest, length-append (header limit) (frames payloads)) in
    ap (λ (l : List ℕ). payloads_within (length bytes) (drop HEADER l)) stands.split ∙ within_are (length bytes) 0 payloads stands.rest long stands.sizes stands.ends
