-- A statement within a statement (xAPI 1.0.3, part two, section 2.4.4.3).
use Rattle.std.specs.Prelude.{Bool}
use Rattle.lrs_json.specs.Json.{Json}
use Rattle.xapi_values.specs.Kinds.{kind_of, same_kind}
use Rattle.xapi_values.specs.declared.kinds.Kind.{Kind}

abbrev pub is_nested : Json → Bool
is_nested j = same_kind (kind_of j) Kind.SubStatement
