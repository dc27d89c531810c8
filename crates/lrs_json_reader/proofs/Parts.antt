-- The cursor's small steps, over plain lists.
use Rattle.std.proofs.Common.{◌≡◌, ◌<◌, ℕ, zero, suc, Some, List, [], ◌∷◌, ◌++◌, length, take, drop, Result, Ok, Err, IfOk, IsErrAnd, IsTrue, IsUtf8, refl, sym, ◌∙◌, arith}
use Rattle.std.proofs.lemmas.List.{append_cancel_left, take-append-drop}
use Rattle.std.proofs.lemmas.Str.{IsUtf8-from_ascii}
use Rattle.std.specs.Str.{IsAscii}
use Rattle.std.proofs.lemmas.Option.{same_Some}
use Rattle.lrs_decimal.specs.Numbers.{Each, IsNumber}
use Rattle.lrs_decimal.proofs.NumberLemmas.{is_numeric, IsNumber-numeric}
use Rattle.lrs_decimal.proofs.Runs.{drop_front, take_front}
use Rattle.lrs_json_reader.specs.Steps.{Finds}
use Rattle.lrs_json_reader.specs.declared.cursor.Stop.{Stop}
use Rattle.lrs_json_reader.specs.declared.cursor.Stop.TheVariants.{Memory}

-- what is Ok with P, and is found with Q, is found with what both imply
pub Finds-from : {T : Type 0} (r : Result T Stop) (P Q R : T → Type 0) → IfOk r P → Finds r Q → ((x : T) → P x → Q x → R x) → Finds r R
Finds-from (Ok x) P Q R p q f = f x p q
Finds-from (Err e) P Q R p q f = q

-- what follows a word is told by the word
pub word_rest : (bs word a b : List ℕ) → bs ≡ word ++ a → bs ≡ word ++ b → a ≡ b
word_rest bs word a b x y = append_cancel_left word a b (sym x ∙ y)

numeric_small : (b : ℕ) → IsTrue (is_numeric b) → b < 128
numeric_small b d = grind arith

numeric_ascii : (s : List ℕ) → Each is_numeric s → IsAscii s
numeric_ascii [] each i = omega arith
numeric_ascii (b ∷ s) each zero = numeric_small b each.0
numeric_ascii (b ∷ s) each (suc i) = numeric_ascii s each.1 i

-- a number's spelling is a text
pub number_utf8 : (s : List ℕ) → IsNumber s → IsUtf8 s
number_utf8 s n = IsUtf8-from_ascii s (numeric_ascii s (IsNumber-numeric s n))

pub number_found_at : (bs : List ℕ) (n : ℕ) (t rest : List ℕ) → IsNumber (take n bs) → t ≡ take n bs → rest ≡ drop n bs → (bs ≡ t ++ rest) × IsNumber t
number_found_at bs n t rest num te re = (sym (take-append-drop n bs) ∙ rw (te, re) refl, rw te num)

-- the length of the number at the front tells it, and what follows it
pub number_all_at : (bs : List ℕ) (n : ℕ) (s rest : List ℕ) → bs ≡ s ++ rest → Some n ≡ Some (length s) → (take n bs ≡ s) × (drop n bs ≡ rest)
number_all_at bs n s rest is e = let len : n ≡ length s = same_Some n (length s) e in rw (len, is) (take_front s rest, drop_front s rest)

-- what a `?` hands on is that memory ran out
pub err_finds : {T : Type 0} {Q : Stop → Type 0} (r : Result T Stop) (P : T → Type 0) → IsErrAnd r Q → ((y : Stop) → Q y → y ≡ Memory) → Finds r P
err_finds (Ok x) P h f = absurd h
err_finds (Err y) P h f = f y h
