-- The values whose written form is a text of JSON: what is read back from it is the value.
use Rattle.std.specs.Prelude.{IsUtf8}
use Rattle.lrs_decimal.specs.Numbers.{IsNumber}
use Rattle.lrs_json.specs.Json.{Json, null, boolean, number, string, array, object, Elements, no_elements, element}
use Rattle.lrs_json.specs.Json.{Members, no_members, member}

-- Each number in it is one, and each text and each name of an object is UTF-8.
abbrev mutual
  pub IsSpellable : Json → Type 0
  IsSpellable null = Unit {0}
  IsSpellable (boolean b) = Unit {0}
  IsSpellable (number s) = IsNumber s
  IsSpellable (string s) = IsUtf8 s
  IsSpellable (array js) = AreSpellableElements js
  IsSpellable (object ms) = AreSpellableMembers ms

  pub AreSpellableElements : Elements → Type 0
  AreSpellableElements no_elements = Unit {0}
  AreSpellableElements (element j js) = IsSpellable j × AreSpellableElements js

  pub AreSpellableMembers : Members → Type 0
  AreSpellableMembers no_members = Unit {0}
  AreSpellableMembers (member k j ms) = IsUtf8 k × IsSpellable j × AreSpellableMembers ms
