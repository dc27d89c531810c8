-- Bytes that are the written form of a value, of the items of an array or of the members of an object.
use Rattle.std.specs.Prelude.{◌≡◌, ℕ, List, false}
use Rattle.lrs_json.specs.Json.{Json, Elements, Members}
use Rattle.lrs_json.specs.Spellable.{IsSpellable, AreSpellableElements, AreSpellableMembers}
use Rattle.lrs_json.specs.Written.{elements_text, members_text, quoted, written}

-- It can be spelled, in whatever way that is seen.
abbrev pub IsSpelled : Json → Type 0
IsSpelled j = ∥ IsSpellable j ∥₁

abbrev pub WrittenFrom : List ℕ → Type 0
WrittenFrom bytes = (j : Json) × (IsSpelled j × (bytes ≡ written j))

abbrev pub ItemsFrom : List ℕ → Type 0
ItemsFrom bytes = (js : Elements) × (∥ AreSpellableElements js ∥₁ × (bytes ≡ elements_text false js))

abbrev pub MembersFrom : List ℕ → Type 0
MembersFrom bytes = (ms : Members) × (∥ AreSpellableMembers ms ∥₁ × (bytes ≡ members_text false ms))

abbrev pub TextFrom : List ℕ → Type 0
TextFrom bytes = (text : List ℕ) × (bytes ≡ quoted text)
