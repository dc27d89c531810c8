-- An IRI with more letters, digits and slashes behind it is one.
use Rattle.std.proofs.Common.{◌≡◌, ℕ, zero, suc, ◌+◌, ◌<◌, ◌^◌, ◌%◌, ◌==◌, ◌&&◌, nat_lt, Bool, true, false, List, [], ◌∷◌, ◌++◌, length, take, drop, IsUtf8, codes, refl, ap, ◌∙◌, append_assoc, arith}
use Rattle.std.specs.Fmt.{decimal}
use Rattle.std.specs.List.{list_all, position_or_len, before_first, after_first}
use Rattle.std.specs.Str.{IsAscii, chars}
use Rattle.std.proofs.lemmas.Bool.{agree_below_at, false≢true}
use Rattle.std.proofs.lemmas.Bool.Decides.{nat_tests}
use Rattle.std.proofs.lemmas.Fmt.{IsAscii-decimal, decimal_by_steps}
use Rattle.std.proofs.lemmas.List.{take-append-le, drop-append-le}
use Rattle.std.proofs.lemmas.List.Folds.{list_all-append, prefix_len-append}
use Rattle.std.proofs.lemmas.Str.{IsAscii-append, chars-IsAscii, chars-append}
use Rattle.std.proofs.lemmas.Str.Ascii.{IsAscii-cons, IsAscii-nil}
use Rattle.std.specs.Cmp.{first_so, second_so}
use Rattle.lrs_names.specs.Iris.{has_some, is_colon, is_iri, is_iri_character, is_scheme}
use Rattle.cmi5_launch.specs.Activities.{activity_text}
use Rattle.cmi5_launch.proofs.FirstBytes.{other}

-- ---- what stands before and behind the first colon

all_three : (p q r : Bool) → p ≡ true → q ≡ true → r ≡ true → (p && q && r) ≡ true
all_three p q r a b c = rw (a, b, c) refl

is_inside : (n : ℕ) (xs : List ℕ) → has_some (drop n xs) ≡ true → n < length xs
is_inside zero [] some = absurd (false≢true some)
is_inside zero (x ∷ xs) some = omega arith
is_inside (suc n) [] some = absurd (false≢true some)
is_inside (suc n) (x ∷ xs) some = let inside : n < length xs = is_inside n xs some in omega arith

some_longer : (xs ys : List ℕ) → has_some xs ≡ true → has_some (xs ++ ys) ≡ true
some_longer [] ys some = absurd (false≢true some)
some_longer (x ∷ xs) ys some = refl

position-append : (p : ℕ → Bool) (xs ys : List ℕ) → position_or_len p xs < length xs → position_or_len p (xs ++ ys) ≡ position_or_len p xs
position-append p xs ys inside =
    let not_all : (position_or_len p xs == length xs) ≡ false = other (length xs) (position_or_len p xs) (λ e. omega arith) in
    rw (prefix_len-append, not_all) refl

-- ---- with more behind it

pub longer : (base tail : List ℕ) → IsUtf8 base → IsAscii tail → list_all is_iri_character tail ≡ true → is_iri base ≡ true → is_iri (base ++ tail) ≡ true
unfolding is_iri
longer base tail utf8 ascii plain iri =
    let scheme : is_scheme (before_first is_colon base) ≡ true = first_so _ _ (first_so _ _ iri) in
    let rest : has_some (after_first is_colon base) ≡ true = second_so (is_scheme (before_first is_colon base)) _ (first_so _ _ iri) in
    let characters : list_all is_iri_character (chars base) ≡ true = second_so (is_scheme (before_first is_colon base) && has_some (after_first is_colon base)) _ iri in
    let inside : position_or_len is_colon base + 1 < length base = is_inside (position_or_len is_colon base + 1) base rest in
    let found_at : position_or_len is_colon (base ++ tail) ≡ position_or_len is_colon base = position-append is_colon base tail (omega arith) in
    let before : before_first is_colon (base ++ tail) ≡ before_first is_colon base =
    ap (λ n. take n (base ++ tail)) found_at ∙ take-append-le (position_or_len is_colon base) base tail (omega arith) in
    let behind : after_first is_colon (base ++ tail) ≡ after_first is_colon base ++ tail =
    ap (λ n. drop (n + 1) (base ++ tail)) found_at ∙ drop-append-le (position_or_len is_colon base + 1) base tail (omega arith) in
    let all : list_all is_iri_character (chars (base ++ tail)) ≡ true =
    ap (list_all is_iri_character) (chars-append base tail utf8 ∙ ap (λ t. chars base ++ t) (chars-IsAscii tail ascii)) ∙ list_all-append is_iri_character (chars base) tail
    ∙ ap (λ b. b && list_all is_iri_character tail) characters ∙ plain in
    all_three _ _ _ (ap is_scheme before ∙ scheme) (ap has_some behind ∙ some_longer (after_first is_colon base) tail rest) all

-- ---- the numbers of a course and of its node

digit_character : (d : ℕ) → d < 10 → is_iri_character (48 + d) ≡ true
digit_character d below = agree_below_at (λ n. is_iri_character (48 + n)) (λ n. true) 10 d refl below

digit_alone : (d : ℕ) → d < 10 → list_all is_iri_character ((48 + d) ∷ []) ≡ true
digit_alone d below = ap (λ b. b && true) (digit_character d below)

plain_decimal : (n : ℕ) → n < 2 ^ 64 → list_all is_iri_character (decimal n) ≡ true
plain_decimal n fits =
    decimal_by_steps (λ m ds. list_all is_iri_character ds ≡ true) digit_alone
    (λ m ds many so_far. list_all-append is_iri_character ds _ ∙ ap (λ b. b && list_all is_iri_character ((48 + m % 10) ∷ [])) so_far ∙ digit_alone (m % 10) (omega arith)) n fits

below_128 : (b : ℕ) → nat_lt b 128 ≡ true → b < 128
below_128 b e = grind (arith, nat_tests)

ascii_word : (word : List ℕ) → list_all (λ b. nat_lt b 128) word ≡ true → IsAscii word
ascii_word [] small = IsAscii-nil
ascii_word (b ∷ bs) small =
    IsAscii-cons b bs (below_128 b (first_so (nat_lt b 128) _ small)) (ascii_word bs (second_so (nat_lt b 128) _ small))

both_plain : (xs ys : List ℕ) → list_all is_iri_character xs ≡ true → list_all is_iri_character ys ≡ true → list_all is_iri_character (xs ++ ys) ≡ true
both_plain xs ys a b = list_all-append is_iri_character xs ys ∙ ap (λ t. t && list_all is_iri_character ys) a ∙ b

pub pieces : (base a b c d : List ℕ) → base ++ a ++ b ++ c ++ d ≡ base ++ (a ++ (b ++ (c ++ d)))
pieces base a b c d = simp append_assoc

pub activity_is_iri : (base : List ℕ) (course node : ℕ) → IsUtf8 base → course < 2 ^ 64 → node < 2 ^ 64 → is_iri base ≡ true → is_iri (activity_text base course node) ≡ true
activity_is_iri base course node utf8 few_courses few_nodes iri =
    let last : List ℕ = codes "/" ++ decimal node in
    let tail : List ℕ = codes "activities/" ++ (decimal course ++ last) in
    let last_ascii : IsAscii last = IsAscii-append (codes "/") (decimal node) (ascii_word (codes "/") refl) (IsAscii-decimal node few_nodes) in
    let ascii : IsAscii tail =
    IsAscii-append (codes "activities/") (decimal course ++ last) (ascii_word (codes "activities/") refl) (IsAscii-append (decimal course) last (IsAscii-decimal course few_courses) last_ascii) in
    let plain : list_all is_iri_character tail ≡ true =
    both_plain (codes "activities/") (decimal course ++ last) refl (both_plain (decimal course) last (plain_decimal course few_courses) (both_plain (codes "/") (decimal node) refl (plain_decimal node few_nodes))) in
    ap is_iri (pieces base (codes "activities/") (decimal course) (codes "/") (decimal node)) ∙ longer base tail utf8 ascii plain iri
