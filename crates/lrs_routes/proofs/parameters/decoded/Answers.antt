use Rattle.std.proofs.Common.{◌≡◌, Option, List, ℕ, subst, sym}
use Rattle.std.specs.Prelude.{MatchResult}
use Rattle.xapi_parameters.specs.Pairs.{AreTexts}
use Rattle.lrs_rules.specs.declared.rule.Rule.TheVariants as rule
use Rattle.lrs_routes.specs.Forms.{parameters_of}
use Rattle.lrs_routes.specs.Looks.{IfBroken}
use Rattle.lrs_routes.proofs.parameters.decoded.Goals as goal

pub returns-in-Some : goal.returns-in-Some
returns-in-Some c =
    subst (λ (query : Option (List ℕ)). MatchResult c.pairs_in.result (λ pairs. (pairs.items ≡ parameters_of query) × AreTexts (parameters_of query))
    (λ refused. IfBroken refused (λ r. (r ≡ rule.P 1) × (¬ AreTexts (parameters_of query))))) (sym c.in-Some.is) c.pairs_in.ensures
