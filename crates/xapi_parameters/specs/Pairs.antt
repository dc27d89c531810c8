-- The pairs that a query spells.
use Rattle.std.specs.Prelude.{◌≡◌, ◌⊎◌, ℕ, List, map, All, IsUtf8, Result, MatchResult}
use Rattle.form_urlencoded.specs.Form.{decode, raw_pairs}
use Rattle.xapi_parameters.specs.declared.pair.Pair.{Pair}
use Rattle.xapi_parameters.specs.declared.refused.QueryRefused.{QueryRefused}
use Rattle.xapi_parameters.specs.declared.refused.QueryRefused.TheVariants.{BadParameter, Memory}

-- a name and a value, decoded
abbrev pub pair_of : List ℕ × List ℕ → Pair
pair_of raw = record { name = decode raw.0; value = decode raw.1 }

-- the pairs in their order
abbrev pub pairs_of : List ℕ → List Pair
pairs_of query = map pair_of (raw_pairs query)

abbrev pub IsText : Pair → Type 0
IsText pair = IsUtf8 pair.name × IsUtf8 pair.value

-- each name and each value is UTF-8
abbrev pub AreTexts : List Pair → Type 0
AreTexts pairs = All IsText pairs

-- the text that the bytes decode to, or P1 if they decode to none
abbrev pub Decodes : List ℕ → Result (List ℕ) QueryRefused → Type 0
Decodes bytes result =
    MatchResult result (λ text. (text ≡ decode bytes) × IsUtf8 text)
    (λ refused. (refused ≡ Memory) ⊎ ((refused ≡ BadParameter 1) × (¬ IsUtf8 (decode bytes))))
