-- The function and the relation agree.
use Rattle.std.specs.Prelude.{◌≡◌, ◌↔◌, ℕ, List, Some}
use Rattle.lrs_json.specs.Json.{Json}
use Rattle.lrs_json_reader.specs.Refusals.{Spells}
use Rattle.lrs_json_spelled.specs.Spelled.{value_in}

-- what is found is spelled, and what is spelled is found
abbrev pub FindsWhatIsSpelled : Type 0
FindsWhatIsSpelled = (limit : ℕ) (bytes : List ℕ) (j : Json) → (value_in limit bytes ≡ Some j) ↔ Spells limit bytes j
