-- The parts of a written form.
use Rattle.std.proofs.Common.{◌≡◌, ℕ, ◌-◌, length, take, drop, Some, List, ◌∷◌, ◌++◌, true, false, refl, ap, ◌∙◌, arith, length-append, append_assoc}
use Rattle.lrs_decimal.specs.Numbers.{without}
use Rattle.lrs_json.specs.Json.{Json, Elements, no_elements, element, Members, no_members, member}
use Rattle.lrs_json.specs.Written.{elements_text, members_text, quoted, written}
use Rattle.lrs_json_reader.proofs.Parts.{number_all_at}
use Rattle.lrs_json_slices.specs.Scanning.{behind_front}
use Rattle.lrs_json_slices.specs.Spelled.{IsSpelled}
use Rattle.lrs_json_slices.proofs.Fronts.{items_stop, members_stop, name_left, spelled_left}

-- the bytes are cut before what is behind their front
pub cut : (bytes behind front rest : List ℕ) (n : ℕ) → n ≡ length bytes - length behind → behind ≡ rest → bytes ≡ front ++ rest → (take n bytes ≡ front) × (drop n bytes ≡ rest)
cut bytes behind front rest n is left whole =
    let sum : length bytes ≡ length (front ++ rest) = ap length whole in
    let len : n ≡ length front = omega (arith, is, ap length left, sum, length-append front rest) in
    number_all_at bytes n front rest whole (ap Some len)

-- what `split` says
abbrev pub SplitsSo : List ℕ → List ℕ → List ℕ → Type 0
SplitsSo bytes taken behind = (front rest : List ℕ) → bytes ≡ front ++ rest → behind_front bytes ≡ rest → (taken ≡ front) × (behind ≡ rest)

items_comma : (js : Elements) → without 44 (elements_text true js) ≡ elements_text false js
items_comma no_elements = refl
items_comma (element j js) = refl

members_comma : (ms : Members) → without 44 (members_text true ms) ≡ members_text false ms
members_comma no_members = refl
members_comma (member k j ms) = refl

pub item_split : (bytes taken behind left : List ℕ) → SplitsSo bytes taken behind → left ≡ without 44 behind → (j : Json) (js : Elements) → IsSpelled j → bytes ≡ elements_text false (element j js) → (taken ≡ written j) × (left ≡ elements_text false js)
item_split bytes taken behind left split is j js s whole =
    let parts = split (written j) (elements_text true js) whole (ap behind_front whole ∙ spelled_left j (elements_text true js) s (items_stop js)) in
    (parts.0, is ∙ ap (without 44) parts.1 ∙ items_comma js)

pub value_split : (bytes taken behind left : List ℕ) → SplitsSo bytes taken behind → left ≡ without 44 behind → (j : Json) (ms : Members) → IsSpelled j → bytes ≡ written j ++ members_text true ms → (taken ≡ written j) × (left ≡ members_text false ms)
value_split bytes taken behind left split is j ms s whole =
    let parts = split (written j) (members_text true ms) whole (ap behind_front whole ∙ spelled_left j (members_text true ms) s (members_stop ms)) in
    (parts.0, is ∙ ap (without 44) parts.1 ∙ members_comma ms)

name_parts : (k : List ℕ) (j : Json) (ms : Members) → members_text false (member k j ms) ≡ quoted k ++ 58 ∷ (written j ++ members_text true ms)
name_parts k j ms = simp append_assoc

pub member_split : (bytes name colon mid value left : List ℕ) → SplitsSo bytes name colon → mid ≡ drop 1 colon → ((j : Json) (ms : Members) → IsSpelled j → mid ≡ written j ++ members_text true ms → (value ≡ written j) × (left ≡ members_text false ms))
    → (k : List ℕ) (j : Json) (ms : Members) → IsSpelled j → bytes ≡ members_text false (member k j ms) → (name ≡ quoted k) × (value ≡ written j) × (left ≡ members_text false ms)
member_split bytes name colon mid value left split is rest k j ms s whole =
    let more = 58 ∷ (written j ++ members_text true ms) in
    let parts = split (quoted k) more (whole ∙ name_parts k j ms) (ap behind_front (whole ∙ name_parts k j ms) ∙ name_left k more) in
    let behind = rest j ms s (is ∙ ap (drop 1) parts.1) in
    (parts.0, behind.0, behind.1)
