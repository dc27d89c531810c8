-- Pairs that stand only where there is a text to give: which names they have, and what is given under each.
use Rattle.std.proofs.Common.{◌≡◌, ℕ, ◌&&◌, ◌||◌, Bool, true, false, not, if◌then◌else◌, List, [], ◌∷◌, ◌++◌, map, Option, Some, None, is_some, MatchOption, IsUtf8, All, refl, ap, ◌∙◌}
use Rattle.std.specs.Str.{bytes_eq}
use Rattle.std.proofs.lemmas.Bool.{and_parts, not-true, or_parts}
use Rattle.std.proofs.lemmas.List.Elements.{All-cons, All-nil}
use Rattle.lrs_names.specs.Members.{is_one_of}
use Rattle.form_urlencoded.proofs.FormLemmas.{IsBytePair}
use Rattle.xapi_query.specs.Links.{pair_if}
use Rattle.xapi_parameters.specs.Pairs.{AreTexts, IsText}
use Rattle.xapi_parameters.specs.Parameters.{are_among, are_distinct, given}
use Rattle.xapi_parameters.specs.declared.pair.Pair.{Pair}
use Rattle.xapi_parameters.proofs.Bytes.{utf8_bytes}

abbrev pub Slot : Type 0
Slot = List ℕ × Option (List ℕ)

abbrev pub as_pair : List ℕ × List ℕ → Pair
as_pair raw = record { name = raw.0; value = raw.1 }

abbrev pub raw_of : List Slot → List (List ℕ × List ℕ)
raw_of [] = []
raw_of (slot ∷ slots) = pair_if slot.0 slot.1 ++ raw_of slots

abbrev pub pairs_from : List Slot → List Pair
pairs_from slots = map as_pair (raw_of slots)

abbrev pub first_of : Option (List ℕ) → Option (List ℕ) → Option (List ℕ)
first_of None rest = rest
first_of (Some text) rest = Some text

pub first_none : (o : Option (List ℕ)) → first_of o None ≡ o
first_none None = refl
first_none (Some text) = refl

abbrev pub find : List ℕ → List Slot → Option (List ℕ)
find name [] = None
find name (slot ∷ slots) = if bytes_eq slot.0 name then first_of slot.1 (find name slots) else find name slots

same_either : (b : Bool) (o : Option (List ℕ)) → o ≡ (if b then o else o)
same_either true o = refl
same_either false o = refl

pub given_in : (name : List ℕ) (slots : List Slot) → given name (pairs_from slots) ≡ find name slots
given_in name [] = refl
given_in name ((n, None) ∷ slots) = given_in name slots ∙ same_either (bytes_eq n name) (find name slots)
given_in name ((n, Some text) ∷ slots) = ap (λ (o : Option (List ℕ)). if bytes_eq n name then Some text else o) (given_in name slots)

-- ---- names

abbrev pub is_named : List ℕ → List Slot → Bool
is_named name [] = false
is_named name (slot ∷ slots) = bytes_eq slot.0 name || is_named name slots

unnamed : (name : List ℕ) (slots : List Slot) → is_named name slots ≡ false → find name slots ≡ None
unnamed name [] is = refl
unnamed name (slot ∷ slots) is =
    let parts = or_parts (bytes_eq slot.0 name) (is_named name slots) is in
    let other = parts.0 in
    rw other (unnamed name slots parts.1)

abbrev pub are_apart : List Slot → Bool
are_apart [] = true
are_apart (slot ∷ slots) = not (is_named slot.0 slots) && are_apart slots

pub distinct_in : (slots : List Slot) → are_apart slots ≡ true → are_distinct (pairs_from slots) ≡ true
distinct_in [] apart = refl
distinct_in ((n, None) ∷ slots) apart = distinct_in slots (and_parts (not (is_named n slots)) (are_apart slots) apart).1
distinct_in ((n, Some text) ∷ slots) apart =
    let parts = and_parts (not (is_named n slots)) (are_apart slots) apart in
    let none : given n (pairs_from slots) ≡ None = given_in n slots ∙ unnamed n slots (not-true _ parts.0) in
    let rest = distinct_in slots parts.1 in
    ap (λ (o : Option (List ℕ)). not (is_some o) && are_distinct (pairs_from slots)) none ∙ rest

abbrev pub have_names : List (List ℕ) → List Slot → Bool
have_names names [] = true
have_names names (slot ∷ slots) = is_one_of names slot.0 && have_names names slots

pub among_in : (names : List (List ℕ)) (slots : List Slot) → have_names names slots ≡ true → are_among names (pairs_from slots) ≡ true
among_in names [] have = refl
among_in names ((n, None) ∷ slots) have = among_in names slots (and_parts (is_one_of names n) (have_names names slots) have).1
among_in names ((n, Some text) ∷ slots) have =
    let parts = and_parts (is_one_of names n) (have_names names slots) have in
    let rest = among_in names slots parts.1 in
    ap (λ (b : Bool). b && are_among names (pairs_from slots)) parts.0 ∙ rest

-- ---- texts

abbrev pub IsTextIf : Option (List ℕ) → Type 0
IsTextIf o = MatchOption o (Unit {0}) IsUtf8

abbrev pub AreTextSlots : List Slot → Type 0
AreTextSlots [] = Unit {0}
AreTextSlots (slot ∷ slots) = IsUtf8 slot.0 × IsTextIf slot.1 × AreTextSlots slots

pub texts_in : (slots : List Slot) → AreTextSlots slots → AreTexts (pairs_from slots)
texts_in [] texts = All-nil IsText
texts_in ((n, None) ∷ slots) texts = texts_in slots texts.2
texts_in ((n, Some text) ∷ slots) texts = All-cons IsText (as_pair (n, text)) (pairs_from slots) (texts.0, texts.1) (texts_in slots texts.2)

pub bytes_in : (slots : List Slot) → AreTextSlots slots → All IsBytePair (raw_of slots)
bytes_in [] texts = All-nil IsBytePair
bytes_in ((n, None) ∷ slots) texts = bytes_in slots texts.2
bytes_in ((n, Some text) ∷ slots) texts = All-cons IsBytePair (n, text) (raw_of slots) (utf8_bytes n texts.0, utf8_bytes text texts.1) (bytes_in slots texts.2)
