-- On a spelled text the scan reaches the limit exactly where the value nests so deep.
use Rattle.std.proofs.Common.{◌≡◌, ◌≢◌, ◌≤◌, ◌<◌, ℕ, suc, drop, cond, ◌+◌, ◌-◌, ◌==◌, ◌||◌, max, nat_le, codes, nat_lt, ◌*◌, if◌then◌else◌, Option, Some, None, List, [], ◌∷◌, ◌++◌, Bool, true, false, refl, sym, ap, ◌∙◌, IsTrue, not, ◌&&◌, arith}
use Rattle.std.proofs.lemmas.Option.{option_and_then_some, same_Some}
use Rattle.std.proofs.lemmas.Grind.{common_steps}
use Rattle.lrs_decimal.specs.Numbers.{Each, is_digit}
use Rattle.lrs_decimal.proofs.NumberLemmas.{is_numeric, IsNumber-numeric}
use Rattle.lrs_json_reader.specs.Located.{Located, null, boolean, number, string, array, object, Elements, no_elements, element, Members, no_members, member, plain, plain_elements, plain_members}
use Rattle.lrs_json_reader.specs.Grammar.{is_space, Spaces, Comma, Chars, Quoted, Value, Listed, Paired, IsText}
use Rattle.lrs_decimal.specs.Fronts.{◌>>=◌}
use Rattle.lrs_json_reader.specs.Strings.{piece_at, next_at, digit_at, unit_at, byte_at, low_at, unicode_at, escape_at, letter_of, hex_value_of, is_high, is_low}
use Rattle.lrs_json_reader.specs.declared.strings.Piece.{Piece}
use Rattle.lrs_json_reader.specs.declared.strings.Piece.TheVariants.{Byte, Char}
use Rattle.lrs_json_reader.specs.Refusals.{is_too_deep}
use Rattle.std.specs.List.{prefix_len}
use Rattle.lrs_json.specs.Written.{is_plain}
use Rattle.lrs_json.specs.Depth.{depth, depth_of_elements, depth_of_members}
use Rattle.lrs_json_reader.specs.Brackets.{opens, closes, reaches}
use Rattle.lrs_json_reader.specs.declared.depth.ScanState.{ScanState}
use Rattle.lrs_json_reader.specs.declared.depth.ScanState.TheVariants.{Outside, Inside, Escaped}

-- a byte that the scan passes over outside strings
abbrev pub is_quiet : ℕ → Bool
is_quiet b = not (opens b) && not (closes b) && not (b == 34)

other : (d limit : ℕ) → d < limit → (d == limit) ≡ false
other d limit l = grind (arith, common_steps)

quiet : (limit d b : ℕ) (bs : List ℕ) → d < limit → IsTrue (is_quiet b) → reaches limit d Outside (b ∷ bs) ≡ reaches limit d Outside bs
quiet limit d b bs l q =
    let o : opens b ≡ false = grind arith in
    let k : closes b ≡ false = grind arith in
    let n : (b == 34) ≡ false = grind arith in
    rw (o, k, n, other d limit l) refl

quiet_run : (limit d : ℕ) (xs bs : List ℕ) → d < limit → Each is_quiet xs → reaches limit d Outside (xs ++ bs) ≡ reaches limit d Outside bs
quiet_run limit d [] bs l each = refl
quiet_run limit d (x ∷ xs) bs l each = quiet limit d x (xs ++ bs) l each.0 ∙ quiet_run limit d xs bs l each.1

space_quiet : (b : ℕ) → IsTrue (is_space b) → IsTrue (is_quiet b)
space_quiet b s = grind arith

digit_quiet : (b : ℕ) → IsTrue (is_digit b) → IsTrue (is_quiet b)
digit_quiet b s = grind arith

each_to : (p q : ℕ → Bool) (xs : List ℕ) → ((b : ℕ) → IsTrue (p b) → IsTrue (q b)) → Each p xs → Each q xs
each_to p q [] f each = tt
each_to p q (x ∷ xs) f each = (f x each.0, each_to p q xs f each.1)

spaces_quiet : (limit d : ℕ) (bs rest : List ℕ) → d < limit → Spaces bs rest → reaches limit d Outside bs ≡ reaches limit d Outside rest
spaces_quiet limit d bs rest l s = rw s.2 (quiet_run limit d s.0 rest l (each_to is_space is_quiet s.0 space_quiet s.1))

-- ---- inside strings

no_mark : (limit d b : ℕ) (bs : List ℕ) → d < limit → b ≢ 34 → b ≢ 92 → reaches limit d Inside (b ∷ bs) ≡ reaches limit d Inside bs
no_mark limit d b bs l q k =
    let n : (b == 34) ≡ false = grind (arith, common_steps) in
    let m : (b == 92) ≡ false = grind (arith, common_steps) in
    rw (n, m, other d limit l) refl

plain_inside_at : (limit d b : ℕ) (bs : List ℕ) (plain : Bool) → is_plain b ≡ plain → d < limit → reaches limit d Inside (drop (prefix_len is_plain bs) bs) ≡ reaches limit d Inside bs
    → reaches limit d Inside (drop (cond plain (1 + prefix_len is_plain bs) 0) (b ∷ bs)) ≡ reaches limit d Inside (b ∷ bs)
plain_inside_at limit d b bs true p l rest =
    let one : 1 + prefix_len is_plain bs ≡ suc (prefix_len is_plain bs) = omega arith in
    let q : b ≢ 34 = grind (arith, common_steps) in
    let k : b ≢ 92 = grind (arith, common_steps) in
    rw one (rest ∙ sym (no_mark limit d b bs l q k))
plain_inside_at limit d b bs false p l rest = refl

plain_inside : (limit d : ℕ) (bs : List ℕ) → d < limit → reaches limit d Inside (drop (prefix_len is_plain bs) bs) ≡ reaches limit d Inside bs
plain_inside limit d [] l = refl
plain_inside limit d (b ∷ bs) l = plain_inside_at limit d b bs (is_plain b) refl l (plain_inside limit d bs l)

-- bytes that stand for themselves are passed over
pub plain_passed : (mode : ScanState) (bytes left : List ℕ) (n : ℕ) → mode ≡ Inside → n ≡ prefix_len is_plain bytes → left ≡ drop n bytes → (limit d : ℕ) → d < limit → reaches limit d mode left ≡ reaches limit d mode bytes
plain_passed mode bytes left n inside is passed limit d l = rw (inside, passed, is) (plain_inside limit d bytes l)

pub next_is : (bytes : List ℕ) (b : ℕ) (a : List ℕ) → next_at bytes ≡ Some (b, a) → bytes ≡ b ∷ a
unfolding next_at
next_is [] b a e = cc
next_is (x ∷ bytes) b a e = let p : ◌≡◌ {A = ℕ × List ℕ} (x, bytes) (b, a) = cc e in let h = ap (λ z. z.0) p in let t = ap (λ z. z.1) p in cc (h, t)

hex_not_quote : (b v : ℕ) → b ≡ 34 → hex_value_of b ≡ Some v → ⊥
unfolding hex_value_of
hex_not_quote b v q e = grind (arith, common_steps)

hex_not_slash : (b v : ℕ) → b ≡ 92 → hex_value_of b ≡ Some v → ⊥
unfolding hex_value_of
hex_not_slash b v q e = grind (arith, common_steps)

hex_no_mark : (b v : ℕ) → hex_value_of b ≡ Some v → (b ≢ 34) × (b ≢ 92)
hex_no_mark b v e = (λ q. hex_not_quote b v q e, λ q. hex_not_slash b v q e)

some_tail : {A : Type 0} (x y : A × List ℕ) → Some x ≡ Some y → x.1 ≡ y.1
some_tail x y e = ap (λ z. z.1) (same_Some x y e)

digit_inside : (limit d : ℕ) (bytes : List ℕ) (x : ℕ × List ℕ) → d < limit → digit_at bytes ≡ Some x → reaches limit d Inside bytes ≡ reaches limit d Inside x.1
unfolding digit_at
digit_inside limit d bytes x l e =
    option_and_then_some _ (next_at bytes) x e (λ b nb e2. option_and_then_some _ (hex_value_of b.0) x e2 (λ w hw e3.
    let m = hex_no_mark b.0 w hw in
    ap (reaches limit d Inside) (next_is bytes b.0 b.1 nb) ∙ no_mark limit d b.0 b.1 l m.0 m.1 ∙ ap (reaches limit d Inside) (some_tail (w, b.1) x e3)))

unit_inside : (limit d : ℕ) (bytes : List ℕ) (x : ℕ × List ℕ) → d < limit → unit_at bytes ≡ Some x → reaches limit d Inside bytes ≡ reaches limit d Inside x.1
unfolding unit_at
unit_inside limit d bytes x l e =
    option_and_then_some _ (digit_at bytes) x e (λ a na e1. option_and_then_some _ (digit_at a.1) x e1 (λ b nb e2. option_and_then_some _ (digit_at b.1) x e2 (λ c nc e3. option_and_then_some _ (digit_at c.1) x e3 (λ f nf e4.
    digit_inside limit d bytes a l na ∙ digit_inside limit d a.1 b l nb ∙ digit_inside limit d b.1 c l nc ∙ digit_inside limit d c.1 f l nf ∙ ap (reaches limit d Inside) (some_tail _ x e4)))))

byte_found : (t : Bool) (b k : ℕ) (y x : ℕ × List ℕ) → (b == k) ≡ t → (if t then Some y else None) ≡ Some x → (b ≡ k) × (y ≡ x)
byte_found true b k y x t e = let h : b ≡ k = grind (arith, common_steps) in (h, same_Some y x e)
byte_found false b k y x t e = cc

byte_is : (k : ℕ) (bytes : List ℕ) (x : ℕ × List ℕ) → byte_at k bytes ≡ Some x → bytes ≡ k ∷ x.1
unfolding byte_at
byte_is k bytes x e =
    option_and_then_some _ (next_at bytes) x e (λ b nb e2.
    let f = byte_found (b.0 == k) b.0 k b x refl e2 in
    next_is bytes b.0 b.1 nb ∙ ap (λ z. z ∷ b.1) f.0 ∙ ap (λ z. k ∷ z.1) f.1)

if_some : {X : Type 0} (t : Bool) (o : Option X) (x : X) → (if t then o else None) ≡ Some x → o ≡ Some x
if_some true o x e = e
if_some false o x e = cc

low_inside : (limit d : ℕ) (bytes : List ℕ) (x : ℕ × List ℕ) → d < limit → low_at bytes ≡ Some x → reaches limit d Inside bytes ≡ reaches limit d Inside x.1
unfolding low_at
low_inside limit d bytes x l e =
    option_and_then_some _ (byte_at 92 bytes) x e (λ s ns e1. option_and_then_some _ (byte_at 117 s.1) x e1 (λ u nu e2. option_and_then_some _ (unit_at u.1) x e2 (λ y ny e3.
    let whole : bytes ≡ 92 ∷ 117 ∷ u.1 = byte_is 92 bytes s ns ∙ ap (λ z. 92 ∷ z) (byte_is 117 s.1 u nu) in
    let n : (d == limit) ≡ false = other d limit l in
    let over : reaches limit d Inside (92 ∷ 117 ∷ u.1) ≡ reaches limit d Inside u.1 = rw n refl in
    ap (reaches limit d Inside) whole ∙ over ∙ unit_inside limit d u.1 y l ny ∙ ap (reaches limit d Inside) (some_tail y x (if_some (is_low y.0) (Some y) x e3)))))

after_unit : (limit d : ℕ) (y : ℕ × List ℕ) (x : Piece × List ℕ) → d < limit → (high low : Bool)
    → (if high then low_at y.1 >>= (λ z. Some (Char (0x10000 + (y.0 - 0xd800) * 1024 + (z.0 - 0xdc00)), z.1)) else (if low then None else Some (Char y.0, y.1))) ≡ Some x
    → reaches limit d Inside y.1 ≡ reaches limit d Inside x.1
after_unit limit d y x l true low e = option_and_then_some _ (low_at y.1) x e (λ z nz e1. low_inside limit d y.1 z l nz ∙ ap (reaches limit d Inside) (some_tail _ x e1))
after_unit limit d y x l false true e = cc
after_unit limit d y x l false false e = ap (reaches limit d Inside) (some_tail _ x e)

unicode_inside : (limit d : ℕ) (bytes : List ℕ) (x : Piece × List ℕ) → d < limit → unicode_at bytes ≡ Some x → reaches limit d Inside bytes ≡ reaches limit d Inside x.1
unfolding unicode_at
unicode_inside limit d bytes x l e = option_and_then_some _ (unit_at bytes) x e (λ y ny e1. unit_inside limit d bytes y l ny ∙ after_unit limit d y x l (is_high y.0) (is_low y.0) e1)

after_escape : (limit d : ℕ) (b : ℕ × List ℕ) (x : Piece × List ℕ) → d < limit → (t : Bool) → (if t then unicode_at b.1 else (letter_of b.0 >>= (λ c. Some (Byte c, b.1)))) ≡ Some x
    → reaches limit d Inside b.1 ≡ reaches limit d Inside x.1
after_escape limit d b x l true e = unicode_inside limit d b.1 x l e
after_escape limit d b x l false e = option_and_then_some _ (letter_of b.0) x e (λ c nc e1. ap (reaches limit d Inside) (some_tail _ x e1))

escape_inside : (limit d : ℕ) (bytes : List ℕ) (x : Piece × List ℕ) → d < limit → escape_at bytes ≡ Some x → reaches limit d Escaped bytes ≡ reaches limit d Inside x.1
unfolding escape_at
escape_inside limit d bytes x l e =
    option_and_then_some _ (next_at bytes) x e (λ b nb e1.
    let n : (d == limit) ≡ false = other d limit l in
    let over : reaches limit d Escaped (b.0 ∷ b.1) ≡ reaches limit d Inside b.1 = rw n refl in
    ap (reaches limit d Escaped) (next_is bytes b.0 b.1 nb) ∙ over ∙ after_escape limit d b x l (b.0 == 117) e1)

after_first : (limit d : ℕ) (b : ℕ × List ℕ) (x : Piece × List ℕ) → d < limit → (slash bad : Bool) → (b.0 == 92) ≡ slash → (nat_lt b.0 32 || b.0 == 34) ≡ bad
    → (if slash then escape_at b.1 else (if bad then None else Some (Byte b.0, b.1))) ≡ Some x → reaches limit d Inside (b.0 ∷ b.1) ≡ reaches limit d Inside x.1
after_first limit d b x l true bad s t e =
    let n : (d == limit) ≡ false = other d limit l in
    let q : (b.0 == 34) ≡ false = grind (arith, common_steps) in
    let over : reaches limit d Inside (b.0 ∷ b.1) ≡ reaches limit d Escaped b.1 = rw (q, s, n) refl in
    over ∙ escape_inside limit d b.1 x l e
after_first limit d b x l false true s t e = cc
after_first limit d b x l false false s t e =
    let q : b.0 ≢ 34 = grind (arith, common_steps) in
    let k : b.0 ≢ 92 = grind (arith, common_steps) in
    no_mark limit d b.0 b.1 l q k ∙ ap (reaches limit d Inside) (some_tail _ x e)

piece_inside : (limit d : ℕ) (bytes : List ℕ) (x : Piece × List ℕ) → d < limit → piece_at bytes ≡ Some x → reaches limit d Inside bytes ≡ reaches limit d Inside x.1
unfolding piece_at
piece_inside limit d bytes x l e = option_and_then_some _ (next_at bytes) x e (λ b nb e1. ap (reaches limit d Inside) (next_is bytes b.0 b.1 nb) ∙ after_first limit d b x l (b.0 == 92) (nat_lt b.0 32 || b.0 == 34) refl refl e1)

chars_inside : (limit d : ℕ) (ps : List Piece) (bytes rest : List ℕ) → d < limit → Chars ps bytes rest → reaches limit d Inside bytes ≡ reaches limit d Outside rest
chars_inside limit d [] bytes rest l ch = let n : (d == limit) ≡ false = other d limit l in rw (ch, n) refl
chars_inside limit d (p ∷ ps) bytes rest l ch = piece_inside limit d bytes (p, ch.0) l ch.1 ∙ chars_inside limit d ps ch.0 rest l ch.2

quoted_quiet : (limit d : ℕ) (s bs rest : List ℕ) → d < limit → Quoted s bs rest → reaches limit d Outside bs ≡ reaches limit d Outside rest
quoted_quiet limit d s bs rest l q =
    let n : (d == limit) ≡ false = other d limit l in
    rw (q.2, n) (chars_inside limit d q.0 q.1 rest l q.3)

pub numeric_quiet : (b : ℕ) → IsTrue (is_numeric b) → IsTrue (is_quiet b)
numeric_quiet b s = grind arith

comma_quiet : (limit d : ℕ) (later : Bool) (bs rest : List ℕ) → d < limit → Comma later bs rest → reaches limit d Outside bs ≡ reaches limit d Outside rest
comma_quiet limit d true bs rest l c = spaces_quiet limit d bs (44 ∷ rest) l c ∙ quiet limit d 44 rest l refl
comma_quiet limit d false bs rest l c = rw c refl

colon_quiet : (limit d : ℕ) (bs rest : List ℕ) → d < limit → Spaces bs (58 ∷ rest) → reaches limit d Outside bs ≡ reaches limit d Outside rest
colon_quiet limit d bs rest l s = spaces_quiet limit d bs (58 ∷ rest) l s ∙ quiet limit d 58 rest l refl

-- a closing bracket takes one off
close_one : (limit d : ℕ) (rest : List ℕ) → suc d < limit → reaches limit (suc d) Outside (93 ∷ rest) ≡ reaches limit d Outside rest
close_one limit d rest l = let e : suc d - 1 ≡ d = omega arith in let n : (d == limit) ≡ false = other d limit (omega arith) in rw (e, n) refl

close_two : (limit d : ℕ) (rest : List ℕ) → suc d < limit → reaches limit (suc d) Outside (125 ∷ rest) ≡ reaches limit d Outside rest
close_two limit d rest l = let e : suc d - 1 ≡ d = omega arith in let n : (d == limit) ≡ false = other d limit (omega arith) in rw (e, n) refl

below : (limit d n : ℕ) → limit ≤ d + n → nat_le limit (d + n) ≡ true
below limit d n l = grind (arith, common_steps)

above : (limit d n : ℕ) → d + n < limit → nat_le limit (d + n) ≡ false
above limit d n l = grind (arith, common_steps)

-- one value and what follows it
abbrev Over : ℕ → ℕ → ℕ → List ℕ → List ℕ → Type 0
Over limit d n bs rest = reaches limit d Outside bs ≡ (nat_le limit (d + n) || reaches limit d Outside rest)

leaf : (limit d : ℕ) (bs rest : List ℕ) → d < limit → reaches limit d Outside bs ≡ reaches limit d Outside rest → Over limit d 0 bs rest
leaf limit d bs rest l e = let a = above limit d 0 (omega arith) in rw a e

both : (limit d m n : ℕ) (r : Bool) → (nat_le limit (d + m) || (nat_le limit (d + n) || r)) ≡ (nat_le limit (d + max m n) || r)
both limit d m n r = grind (arith, common_steps)

nested_at : (limit d n b : ℕ) (a rest : List ℕ) (t : Bool) → (d + 1 == limit) ≡ t → d < limit → (b == 34) ≡ false
    → (suc d < limit → reaches limit (suc d) Outside a ≡ (nat_le limit (suc d + n) || reaches limit d Outside rest))
    → (t || reaches limit (d + 1) Outside a) ≡ (nat_le limit (d + suc n) || reaches limit d Outside rest)
nested_at limit d n b a rest true e l q inner =
    let h : d + 1 ≡ limit = grind (arith, common_steps) in
    let k = below limit d (suc n) (omega arith) in
    rw k refl
nested_at limit d n b a rest false e l q inner =
    let h : d + 1 ≡ limit → ⊥ = grind (arith, common_steps) in
    let one : d + 1 ≡ suc d = omega arith in
    let sum : suc d + n ≡ d + suc n = omega arith in
    let in_it = inner (omega arith) in
    rw (one, in_it, sum) refl

-- brackets round what is one deeper
nested : (limit d n b : ℕ) (a bs rest : List ℕ) → d < limit → bs ≡ b ∷ a → opens b ≡ true → (b == 34) ≡ false
    → (suc d < limit → reaches limit (suc d) Outside a ≡ (nat_le limit (suc d + n) || reaches limit d Outside rest)) → Over limit d (suc n) bs rest
nested limit d n b a bs rest l e o q inner = rw (e, o, q) (nested_at limit d n b a rest (d + 1 == limit) refl l q inner)

at_close : (limit d : ℕ) (rest : List ℕ) → suc d < limit → reaches limit d Outside rest ≡ (nat_le limit (suc d + 0) || reaches limit d Outside rest)
at_close limit d rest l = let a = above limit (suc d) 0 (omega arith) in rw a refl

mutual
  pub over-Value : (j : Located) (limit d : ℕ) (bs rest : List ℕ) → d < limit → Value j bs rest → Over limit d (depth (plain j)) bs rest
  over-Value null limit d bs rest l v = leaf limit d bs rest l (rw v (quiet_run limit d (codes "null") rest l (refl, (refl, (refl, (refl, tt))))))
  over-Value (boolean true) limit d bs rest l v = leaf limit d bs rest l (rw v (quiet_run limit d (codes "true") rest l (refl, (refl, (refl, (refl, tt))))))
  over-Value (boolean false) limit d bs rest l v = leaf limit d bs rest l (rw v (quiet_run limit d (codes "false") rest l (refl, (refl, (refl, (refl, (refl, tt)))))))
  over-Value (number left s) limit d bs rest l v = leaf limit d bs rest l (rw v.0 (quiet_run limit d s rest l (each_to is_numeric is_quiet s numeric_quiet (IsNumber-numeric s v.1))))
  over-Value (string s) limit d bs rest l v = leaf limit d bs rest l (quoted_quiet limit d s bs rest l v)
  over-Value (array js) limit d bs rest l v = nested limit d (depth_of_elements (plain_elements js)) 91 v.0 bs rest l v.1 refl refl (λ m. over-Listed js false limit d v.0 rest m v.2)
  over-Value (object ms) limit d bs rest l v = nested limit d (depth_of_members (plain_members ms)) 123 v.0 bs rest l v.1 refl refl (λ m. over-Paired ms false limit d v.0 rest m v.2)

  over-Listed : (js : Elements) (later : Bool) (limit d : ℕ) (bs rest : List ℕ) → suc d < limit → Listed later js bs rest
      → reaches limit (suc d) Outside bs ≡ (nat_le limit (suc d + depth_of_elements (plain_elements js)) || reaches limit d Outside rest)
  over-Listed no_elements later limit d bs rest l v = spaces_quiet limit (suc d) bs (93 ∷ rest) l v ∙ close_one limit d rest l ∙ at_close limit d rest l
  over-Listed (element j js) later limit d bs rest l v =
      comma_quiet limit (suc d) later bs v.0 l v.3 ∙ spaces_quiet limit (suc d) v.0 v.1 l v.4 ∙ over-Value j limit (suc d) v.1 v.2 l v.5
      ∙ ap (λ r. nat_le limit (suc d + depth (plain j)) || r) (over-Listed js true limit d v.2 rest l v.6) ∙ both limit (suc d) (depth (plain j)) (depth_of_elements (plain_elements js)) (reaches limit d Outside rest)

  over-Paired : (ms : Members) (later : Bool) (limit d : ℕ) (bs rest : List ℕ) → suc d < limit → Paired later ms bs rest
      → reaches limit (suc d) Outside bs ≡ (nat_le limit (suc d + depth_of_members (plain_members ms)) || reaches limit d Outside rest)
  over-Paired no_members later limit d bs rest l v = spaces_quiet limit (suc d) bs (125 ∷ rest) l v ∙ close_two limit d rest l ∙ at_close limit d rest l
  over-Paired (member left k j ms) later limit d bs rest l v =
      comma_quiet limit (suc d) later bs v.0 l v.6 ∙ spaces_quiet limit (suc d) v.0 v.1 l v.7 ∙ quoted_quiet limit (suc d) k v.1 v.2 l v.8 ∙ colon_quiet limit (suc d) v.2 v.3 l v.9
      ∙ spaces_quiet limit (suc d) v.3 v.4 l v.10 ∙ over-Value j limit (suc d) v.4 v.5 l v.11
      ∙ ap (λ r. nat_le limit (suc d + depth (plain j)) || r) (over-Paired ms true limit d v.5 rest l v.12) ∙ both limit (suc d) (depth (plain j)) (depth_of_members (plain_members ms)) (reaches limit d Outside rest)

or_false : (b : Bool) → (b || false) ≡ b
or_false true = refl
or_false false = refl

-- the scan of a text tells the depth of its value
reaches-IsText : (limit : ℕ) (bytes : List ℕ) (p : Located) → 0 < limit → IsText p bytes → reaches limit 0 Outside bytes ≡ nat_le limit (depth (plain p))
reaches-IsText limit bytes p l s =
    let z : 0 + depth (plain p) ≡ depth (plain p) = omega arith in
    spaces_quiet limit 0 bytes s.0 l s.2 ∙ over-Value p limit 0 s.0 s.1 l s.3 ∙ rw (spaces_quiet limit 0 s.1 [] l s.4, z) (or_false (nat_le limit (depth (plain p))))

not_le : (limit n : ℕ) → n < limit → nat_le limit n ≡ false
not_le limit n l = grind (arith, common_steps)

lt_of : (limit n : ℕ) → nat_le limit n ≡ false → n < limit
lt_of limit n e = grind (arith, common_steps)

pub shallow-scan : (limit : ℕ) (bytes : List ℕ) (p : Located) → IsText p bytes → depth (plain p) ≤ limit → is_too_deep limit bytes ≡ false
shallow-scan limit bytes p s l = reaches-IsText (suc limit) bytes p (omega arith) s ∙ not_le (suc limit) (depth (plain p)) (omega (arith, l))

pub scan-shallow : (limit : ℕ) (bytes : List ℕ) (p : Located) → IsText p bytes → is_too_deep limit bytes ≡ false → depth (plain p) ≤ limit
scan-shallow limit bytes p s e = let l = lt_of (suc limit) (depth (plain p)) (sym (reaches-IsText (suc limit) bytes p (omega arith) s) ∙ e) in omega (arith, l)

-- what the scan told
pub scan_told : (limit : ℕ) (bytes : List ℕ) (seen : Bool) → seen ≡ reaches (limit + 1) 0 Outside bytes → seen ≡ is_too_deep limit bytes
scan_told limit bytes seen told = let one : limit + 1 ≡ suc limit = omega arith in told ∙ ap (λ n. reaches n 0 Outside bytes) one
