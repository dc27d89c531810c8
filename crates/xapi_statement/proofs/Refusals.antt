-- A value that isn't refused breaks no rule.
use Rattle.std.proofs.Common.{◌≡◌, ℕ, Bool, true, false, Option, Some, None, option_map, refl}
use Rattle.std.specs.Prelude.{IsTrue, is_none, if◌then◌else◌}
use Rattle.lrs_json.specs.Json.{Json}
use Rattle.xapi_properties.specs.XapiRulesRules.{broken_rule}
use Rattle.xapi_statement.specs.Statement.{is_statement, is_too_long, refusal}
use Rattle.xapi_statement.specs.declared.refused.StatementRefused.TheVariants.{TooLong, Broken}

no_rule : (long : Bool) (rule : Option ℕ) → if◌then◌else◌ long (Some TooLong) (option_map Broken rule) ≡ None → is_none rule ≡ true
no_rule true rule e = cc
no_rule false None e = refl
no_rule false (Some r) e = cc

pub not_refused : (j : Json) → refusal j ≡ None → IsTrue (is_statement j)
unfolding refusal is_statement
not_refused j e = no_rule (is_too_long j) (broken_rule j) e
