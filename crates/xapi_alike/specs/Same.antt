-- When two statements are the same: if what counts of them is alike.
use Rattle.std.specs.Prelude.{◌≡◌, Bool, true}
use Rattle.lrs_json.specs.Json.{Json}
use Rattle.lrs_json.specs.Fits.{Fits}
use Rattle.xapi_alike.specs.Normal.{normal}
use Rattle.xapi_alike.specs.Alike.{alike}
use Rattle.xapi_alike.specs.declared.role.Role.TheVariants.{Statement}

-- two statements as they were received
abbrev pub same : Json → Json → Bool
same j k = alike (normal Statement j) (normal Statement k)

-- It is an equivalence of the values that some text spells.
pub record IsSameness : Type 0 where
  pub reflexive : (j : Json) → Fits j → same j j ≡ true
  pub symmetric : (j k : Json) → Fits j → Fits k → same j k ≡ true → same k j ≡ true
  pub transitive : (j k l : Json) → Fits j → Fits k → same j k ≡ true → same k l ≡ true → same j l ≡ true
