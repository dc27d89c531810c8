-- The next item and the next member.
use Rattle.std.proofs.Common.{◌≡◌, ◌<◌, ℕ, List, [], ◌∷◌, ◌++◌, Bool, true, false, refl, sym, ap, ◌∙◌, true≢false, arith}
use Rattle.std.specs.List.{flat_map, list_all}
use Rattle.std.specs.Str.{bytes_eq}
use Rattle.std.proofs.lemmas.Grind.{common_steps}
use Rattle.std.proofs.lemmas.Slice.Eq.{bytes_eq-Decides}
use Rattle.std.proofs.Math.Logic.{∥∥₁_map}
use Rattle.std.proofs.lemmas.Bool.{and_parts}
use Rattle.lrs_json.specs.Json.{Json, Elements, no_elements, element, Members, no_members, member}
use Rattle.lrs_json.specs.Parts.{count_items, count_members}
use Rattle.lrs_json.specs.Spellable.{AreSpellableElements, AreSpellableMembers}
use Rattle.lrs_json.specs.Written.{elements_text, escaped, is_plain, members_text, quoted, written}
use Rattle.lrs_json_reader.proofs.Escapes.{same_quoted}
use Rattle.lrs_json_slices.specs.Single.{ItemsFrom-prop, MembersFrom-prop, TextFrom-prop, WrittenFrom-prop}
use Rattle.lrs_json_slices.specs.Spelled.{IsSpelled, ItemsFrom, MembersFrom, TextFrom, WrittenFrom}

-- ---- items

-- what `split_item` says of items
abbrev pub SplitsItem : List ℕ → List ℕ → List ℕ → Type 0
SplitsItem bytes taken left = (j : Json) (js : Elements) → IsSpelled j → bytes ≡ elements_text false (element j js) → (taken ≡ written j) × (left ≡ elements_text false js)

-- an item, and those behind it
abbrev pub NextItem : Elements → List ℕ → List ℕ → Type 0
NextItem all taken left = (w : WrittenFrom taken) × (more : ItemsFrom left) × (all ≡ element w.0 more.0)

item_at : (js : Elements) (bytes taken left : List ℕ) → ∥ AreSpellableElements js ∥₁ → bytes ≡ elements_text false js → ((rest : List ℕ) → bytes ≡ 93 ∷ rest → ⊥) → SplitsItem bytes taken left → NextItem js taken left
item_at no_elements bytes taken left s is never split = absurd (never [] is)
item_at (element j js) bytes taken left s is never split =
    let one : IsSpelled j = ∥∥₁_map s (λ f. f.0) in
    let parts = split j js one is in
    ((j, (one, parts.0)), (js, (∥∥₁_map s (λ f. f.1), parts.1)), refl)

pub next_item : (bytes taken left : List ℕ) (w : ItemsFrom bytes) → ((rest : List ℕ) → bytes ≡ 93 ∷ rest → ⊥) → SplitsItem bytes taken left → NextItem w.0 taken left
next_item bytes taken left w never split = item_at w.0 bytes taken left w.1.0 w.1.1 never split

pub item_seen : (bytes taken left : List ℕ) (w : ItemsFrom bytes) → ((rest : List ℕ) → bytes ≡ 93 ∷ rest → ⊥) → SplitsItem bytes taken left → (j : WrittenFrom taken) (more : ItemsFrom left) → w.0 ≡ element j.0 more.0
item_seen bytes taken left w never split j more =
    let n = next_item bytes taken left w never split in
    n.2 ∙ ap (λ (u : WrittenFrom taken). element u.0 n.1.0) (WrittenFrom-prop taken n.0 j) ∙ ap (λ (u : ItemsFrom left). element j.0 u.0) (ItemsFrom-prop left n.1 more)

pub fewer_items : (old : Elements) (j : Json) (new : Elements) → old ≡ element j new → count_items new < count_items old
fewer_items old j new e = rw e (omega arith)

-- ---- members

-- what `split_member` says
abbrev pub SplitsMember : List ℕ → List ℕ → List ℕ → List ℕ → Type 0
SplitsMember bytes name value left =
    (k : List ℕ) (j : Json) (ms : Members) → IsSpelled j → bytes ≡ members_text false (member k j ms) → (name ≡ quoted k) × (value ≡ written j) × (left ≡ members_text false ms)

-- a member, and those behind it
abbrev pub NextMember : Members → List ℕ → List ℕ → List ℕ → Type 0
NextMember all name value left = (t : TextFrom name) × (w : WrittenFrom value) × (more : MembersFrom left) × (all ≡ member t.0 w.0 more.0)

member_at : (ms : Members) (bytes name value left : List ℕ) → ∥ AreSpellableMembers ms ∥₁ → bytes ≡ members_text false ms → ((rest : List ℕ) → bytes ≡ 125 ∷ rest → ⊥) → SplitsMember bytes name value left → NextMember ms name value left
member_at no_members bytes name value left s is never split = absurd (never [] is)
member_at (member k j ms) bytes name value left s is never split =
    let one : IsSpelled j = ∥∥₁_map s (λ f. f.1) in
    let parts = split k j ms one is in
    ((k, parts.0), (j, (one, parts.1)), (ms, (∥∥₁_map s (λ f. f.2), parts.2)), refl)

pub next_member : (bytes name value left : List ℕ) (w : MembersFrom bytes) → ((rest : List ℕ) → bytes ≡ 125 ∷ rest → ⊥) → SplitsMember bytes name value left → NextMember w.0 name value left
next_member bytes name value left w never split = member_at w.0 bytes name value left w.1.0 w.1.1 never split

pub member_seen : (bytes name value left : List ℕ) (w : MembersFrom bytes) → ((rest : List ℕ) → bytes ≡ 125 ∷ rest → ⊥) → SplitsMember bytes name value left → (k : TextFrom name) (j : WrittenFrom value) (more : MembersFrom left) → w.0 ≡ member k.0 j.0 more.0
member_seen bytes name value left w never split k j more =
    let n = next_member bytes name value left w never split in
    n.3 ∙ ap (λ (u : TextFrom name). member u.0 n.1.0 n.2.0) (TextFrom-prop name n.0 k) ∙ ap (λ (u : WrittenFrom value). member k.0 u.0 n.2.0) (WrittenFrom-prop value n.1 j)
    ∙ ap (λ (u : MembersFrom left). member k.0 j.0 u.0) (MembersFrom-prop left n.2 more)

pub fewer_members : (old : Members) (k : List ℕ) (j : Json) (new : Members) → old ≡ member k j new → count_members new < count_members old
fewer_members old k j new e = rw e (omega arith)

-- ---- texts between quotes

-- a text that has no byte to be escaped stands between its quotes as it is
escaped_itself : (b : ℕ) → is_plain b ≡ true → escaped b ≡ b ∷ []
unfolding escaped
escaped_itself b p = grind (arith, common_steps)

plain_itself : (text : List ℕ) → list_all is_plain text ≡ true → flat_map escaped text ≡ text
plain_itself [] p = refl
plain_itself (b ∷ text) p =
    let plain = and_parts (is_plain b) (list_all is_plain text) p in
    rw (escaped_itself b plain.0, plain_itself text plain.1) refl

-- so what stands between the quotes tells whether a text is that one
not_one : (k text inside : List ℕ) → list_all is_plain text ≡ true → inside ≡ flat_map escaped k → bytes_eq inside text ≡ false → (same : Bool) → bytes_eq k text ≡ same → false ≡ bytes_eq k text
not_one k text inside p is e true same =
    let one : k ≡ text = (bytes_eq-Decides k text).0 same in
    let alike : inside ≡ text = is ∙ ap (flat_map escaped) one ∙ plain_itself text p in
    absurd (true≢false (sym ((bytes_eq-Decides inside text).1 alike) ∙ e))
not_one k text inside p is e false same = sym same

told : (k text inside : List ℕ) → list_all is_plain text ≡ true → inside ≡ flat_map escaped k → (same : Bool) → bytes_eq inside text ≡ same → same ≡ bytes_eq k text
told k text inside p is true e =
    let one : inside ≡ text = (bytes_eq-Decides inside text).0 e in
    let quotes : quoted k ++ [] ≡ quoted text ++ [] = ap (λ t. (34 ∷ (t ++ 34 ∷ [])) ++ []) (sym is ∙ one ∙ sym (plain_itself text p)) in
    sym ((bytes_eq-Decides k text).1 (same_quoted k text [] [] quotes).0)
told k text inside p is false e = not_one k text inside p is e (bytes_eq k text) refl

pub told_inside : (k text inside : List ℕ) → list_all is_plain text ≡ true → inside ≡ flat_map escaped k → bytes_eq inside text ≡ bytes_eq k text
told_inside k text inside p is = told k text inside p is (bytes_eq inside text) refl
