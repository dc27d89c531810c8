-- What fields say, one after the other.
use Rattle.std.proofs.Common.{◌≡◌, ℕ, ◌+◌, ◌<◌, ◌≤◌, Bool, true, false, cond, List, [], ◌∷◌, length, take, drop, get_or, Option, Some, None, Result, Err, refl, sym, ap, ◌∙◌, arith, inl, inr, ⊎_elim, add-one, drop-cons}
use Rattle.std.specs.Prelude.{IsTrue, ◌↔◌, map, codes, nat_lt, ◌&&◌, ◌||◌, IsUtf8}
use Rattle.std.specs.List.{list_all, list_any, slice_split, position_or_len}
use Rattle.std.proofs.lemmas.List.Splits.{slice_split_first}
use Rattle.std.specs.Str.{str_eq_ignore_ascii_case, is_utf8}
use Rattle.std.specs.Char.{to_ascii_lowercase, is_ascii_digit, digit_value}
use Rattle.std.specs.Str.Parse.{AllDigits}
use Rattle.std.proofs.lemmas.Str.{IsUtf8-from_is_utf8}
use Rattle.std.proofs.lemmas.Bool.{cases_Bool, cases_lt, and_parts}
use Rattle.std.proofs.lemmas.Bool.Decides.{nat_tests}
use Rattle.httparse.specs.declared.spans.HeaderSpan.{HeaderSpan}
use Rattle.httparse.specs.Spans.{header_bytes}
use Rattle.lrs_http.specs.declared.fields.TheConstants.{MOST_LENGTH_DIGITS}
use Rattle.lrs_http.specs.declared.request.RequestRefused.{RequestRefused}
use Rattle.lrs_http.specs.declared.request.RequestRefused.TheVariants as refused
use Rattle.lrs_http.specs.Fields.{NameAndValue, is_named, first_value, count_named, is_length, is_text, is_close, is_comma, asks_to_close}
use Rattle.lrs_http.specs.Head.{HeadParts, announced, has_texts, body_length, method_of}
use Rattle.lrs_http.specs.Reading.{IsNoText}
use Rattle.lrs_media.proofs.Trimming.{named_is}
use Rattle.std.specs.Prelude.{nat_le, ◌⊎◌}
use Rattle.std.specs.List.{fold}
use Rattle.std.proofs.lemmas.List.{length-map, length-take, take_all}
use Rattle.lrs_http.specs.declared.heads.TheConstants.{MOST_FIELDS}

pub first_here : (name : List ℕ) (field : NameAndValue) (fields : List NameAndValue) → is_named name field ≡ true → first_value name (field ∷ fields) ≡ Some field.1
unfolding first_value
first_here name field fields is = rw is refl

pub first_later : (name : List ℕ) (field : NameAndValue) (fields : List NameAndValue) → is_named name field ≡ false → first_value name (field ∷ fields) ≡ first_value name fields
unfolding first_value
first_later name field fields is = rw is refl

pub first_none : (name : List ℕ) → first_value name [] ≡ None
unfolding first_value
first_none name = refl

-- ---- values that are no texts

and_middle : (a b c : Bool) → b ≡ false → (a && (b && c)) ≡ false
and_middle true b c e = rw e refl
and_middle false b c e = refl

and_last : (a b c : Bool) → c ≡ false → (a && (b && c)) ≡ false
and_last true true c e = e
and_last true false c e = refl
and_last false b c e = refl

no_texts : (refusal : RequestRefused) (one all : Bool) → (one ≡ false → all ≡ false) → IsNoText one refusal → IsNoText all refusal
no_texts refusal one all so why = ⊎_elim (λ memory. inl memory) (λ bad. inr (bad.0, so bad.1)) why

pub no_media : (fields : List NameAndValue) (value : Option (List ℕ)) (refusal : RequestRefused) → value ≡ first_value (codes "content-type") fields
    → IsNoText (is_text value) refusal → IsNoText (has_texts fields) refusal
unfolding has_texts
no_media fields value refusal is why =
    no_texts refusal (is_text value) (has_texts fields) (λ e. and_middle (is_text (first_value (codes "authorization") fields)) (is_text (first_value (codes "content-type") fields))
    (is_text (first_value (codes "x-experience-api-version") fields)) (ap is_text (sym is) ∙ e)) why

pub no_version : (fields : List NameAndValue) (value : Option (List ℕ)) (refusal : RequestRefused) → value ≡ first_value (codes "x-experience-api-version") fields
    → IsNoText (is_text value) refusal → IsNoText (has_texts fields) refusal
unfolding has_texts
no_version fields value refusal is why =
    no_texts refusal (is_text value) (has_texts fields) (λ e. and_last (is_text (first_value (codes "authorization") fields)) (is_text (first_value (codes "content-type") fields))
    (is_text (first_value (codes "x-experience-api-version") fields)) (ap is_text (sym is) ∙ e)) why

-- ---- counts

sum_from : (f : NameAndValue → ℕ) (a : ℕ) (xs : List NameAndValue) → fold (λ n x. n + f x) a xs ≡ a + fold (λ n x. n + f x) 0 xs
sum_from f a [] = omega arith
sum_from f a (x ∷ xs) = sum_from f (a + f x) xs ∙ (let more = sum_from f (0 + f x) xs in omega (arith, more))

pub count_here : (name : List ℕ) (field : NameAndValue) (fields : List NameAndValue) → is_named name field ≡ true → count_named name (field ∷ fields) ≡ count_named name fields + 1
unfolding count_named
count_here name field fields is = rw is (sum_from (λ (f : NameAndValue). cond (is_named name f) 1 0) 1 fields ∙ omega arith)

pub count_later : (name : List ℕ) (field : NameAndValue) (fields : List NameAndValue) → is_named name field ≡ false → count_named name (field ∷ fields) ≡ count_named name fields
unfolding count_named
count_later name field fields is = rw is refl

pub count_none : (name : List ℕ) → count_named name [] ≡ 0
unfolding count_named
count_none name = refl

-- the span of an index past the end
abbrev pub blank_span : HeaderSpan
blank_span = record { name = record { start = 0; end = 0 }; value = record { start = 0; end = 0 } }

-- the fields from an index on
pub fields_from : (bytes : List ℕ) (fields : List HeaderSpan) (i : ℕ) (d : HeaderSpan) → i < length fields
    → map (header_bytes bytes) (drop i fields) ≡ header_bytes bytes (get_or fields i d) ∷ map (header_bytes bytes) (drop (i + 1) fields)
fields_from bytes fields i d lt =
    ap (λ (l : List HeaderSpan). map (header_bytes bytes) l) (drop-cons fields i d lt)
    ∙ ap (λ n. header_bytes bytes (get_or fields i d) ∷ map (header_bytes bytes) (drop n fields)) (sym (add-one i))

-- the comparison of a field's name
pub named_at : (r : Bool) (a name : List ℕ) (field : NameAndValue) → (IsTrue r ↔ (map to_ascii_lowercase a ≡ map to_ascii_lowercase name)) → a ≡ field.0 → r ≡ is_named name field
named_at r a name field same is = named_is r a name same ∙ ap (λ (l : List ℕ). str_eq_ignore_ascii_case l name) is

-- ---- the number of a length

test_digit : (b : ℕ) → is_ascii_digit b ≡ true → digit_value b < 10
test_digit b h = grind arith

-- bytes that pass the test are digits
pub digits_from_test : (ds : List ℕ) → list_all is_ascii_digit ds ≡ true → AllDigits 10 ds
digits_from_test [] all = tt
digits_from_test (d ∷ ds) all =
    let parts = and_parts (is_ascii_digit d) (list_all is_ascii_digit ds) all in
    (test_digit d parts.0, digits_from_test ds parts.1)

pub length_parts : (value : List ℕ) → is_length value ≡ true → (length value ≤ MOST_LENGTH_DIGITS) × AllDigits 10 value
unfolding is_length
length_parts value is =
    let one = and_parts (nat_lt 0 (length value)) (nat_le (length value) MOST_LENGTH_DIGITS && list_all is_ascii_digit value) is in
    let two = and_parts (nat_le (length value) MOST_LENGTH_DIGITS) (list_all is_ascii_digit value) one.1 in
    let few : length value ≤ MOST_LENGTH_DIGITS = grind (arith, nat_tests, two.0) in
    (few, digits_from_test value two.1)

-- ---- what a head announces

pub announced_in_order : (parts : HeadParts) → length parts.fields ≤ MOST_FIELDS → has_texts parts.fields ≡ true → announced parts ≡ body_length (method_of parts.method) parts.fields
unfolding announced
announced_in_order parts few texts = let test : nat_lt MOST_FIELDS (length parts.fields) ≡ false = grind (arith, nat_tests, few) in rw (test, texts) refl

pub announced_no_text : (parts : HeadParts) → length parts.fields ≤ MOST_FIELDS → has_texts parts.fields ≡ false → announced parts ≡ Err (refused.Malformed 1)
unfolding announced
announced_no_text parts few texts = let test : nat_lt MOST_FIELDS (length parts.fields) ≡ false = grind (arith, nat_tests, few) in rw (test, texts) refl

pub refused_text : (parts : HeadParts) (e : RequestRefused) → length parts.fields ≤ MOST_FIELDS → IsNoText (has_texts parts.fields) e → (e ≡ refused.Memory) ⊎ (announced parts ≡ Err e)
refused_text parts e few why = ⊎_elim (λ is. inl is) (λ is. inr (announced_no_text parts few is.1 ∙ ap (λ (r : RequestRefused). let o : Result ℕ RequestRefused = Err r in o) (sym is.0))) why

pub few_taken : (bytes : List ℕ) (fields : List HeaderSpan) (n : ℕ) → n ≤ MOST_FIELDS → length (map (header_bytes bytes) (take n fields)) ≤ MOST_FIELDS
few_taken bytes fields n few =
    let one = length-map (take n fields) (header_bytes bytes) in
    let two = length-take n fields in
    omega (arith, one, two, few)

pub no_utf8 : (bytes : List ℕ) → ¬ (IsUtf8 bytes) → is_utf8 bytes ≡ false
no_utf8 bytes not = elim (cases_Bool (is_utf8 bytes)) [
  | inl is ↦ absurd (not (IsUtf8-from_is_utf8 bytes is))
  | inr other ↦ other
]

-- ---- the elements of a list

split_whole : (xs : List ℕ) → position_or_len is_comma xs ≡ length xs → slice_split is_comma xs ≡ xs ∷ []
split_whole [] e = refl
split_whole (x ∷ xs) e = elim (cases_Bool (is_comma x)) [
  | inl is ↦ let first : 0 ≡ length (x ∷ xs) = rw is at e in absurd (omega (arith, first))
  | inr not ↦
      let rest : position_or_len is_comma xs ≡ length xs = let more = rw not at e in omega (arith, more) in
      let known = split_whole xs rest in
      rw (not, known) refl
]

pub closes_last : (xs : List ℕ) → position_or_len is_comma xs ≡ length xs → asks_to_close xs ≡ is_close xs
unfolding asks_to_close
closes_last xs e = rw (split_whole xs e) (or_false (is_close xs))
  where
    or_false : (b : Bool) → (b || false) ≡ b
    or_false true = refl
    or_false false = refl

pub closes_first : (xs : List ℕ) (at : ℕ) → at ≡ position_or_len is_comma xs → at < length xs → asks_to_close xs ≡ (is_close (take at xs) || asks_to_close (drop (at + 1) xs))
unfolding asks_to_close
closes_first xs at is less =
    let within : position_or_len is_comma xs < length xs = omega (arith, is, less) in
    let split = slice_split_first is_comma xs 0 within in
    ap (λ (l : List (List ℕ)). list_any is_close l) split
    ∙ ap (λ (n : ℕ). is_close (take n xs) || list_any is_close (slice_split is_comma (drop (n + 1) xs))) (sym is)

pub closes_true : (xs : List ℕ) (at : ℕ) → at ≡ position_or_len is_comma xs → at ≤ length xs → is_close (take at xs) ≡ true → asks_to_close xs ≡ true
closes_true xs at is within close = ⊎_elim
    (λ less. closes_first xs at is less ∙ ap (λ (b : Bool). b || asks_to_close (drop (at + 1) xs)) close)
    (λ full.
    let whole : take at xs ≡ xs = take_all at xs full in
    let last : position_or_len is_comma xs ≡ length xs = omega (arith, is, within, full) in
    closes_last xs last ∙ ap is_close (sym whole) ∙ close)
    (cases_lt at (length xs))

pub closes_none : (xs : List ℕ) (at : ℕ) → at ≡ position_or_len is_comma xs → at ≡ length xs → is_close (take at xs) ≡ false → asks_to_close xs ≡ false
closes_none xs at is full not =
    let whole : take at xs ≡ xs = take_all at xs (omega (arith, full)) in
    closes_last xs (sym is ∙ full) ∙ ap is_close (sym whole) ∙ not

pub closes_later : (xs : List ℕ) (at : ℕ) → at ≡ position_or_len is_comma xs → at < length xs → is_close (take at xs) ≡ false → asks_to_close xs ≡ asks_to_close (drop (at + 1) xs)
closes_later xs at is less not = closes_first xs at is less ∙ ap (λ (b : Bool). b || asks_to_close (drop (at + 1) xs)) not
