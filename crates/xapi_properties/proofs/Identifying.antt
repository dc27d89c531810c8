-- Two identifiers are the same exactly where their kinds and texts are.
use Rattle.std.proofs.Common.{◌≡◌, Bool, true, false, Option, Some, None, sym, ap, ◌∙◌}
use Rattle.std.specs.Cmp.{both_ways}
use Rattle.std.specs.Prelude.{IsTrue, ◌↔◌}
use Rattle.std.specs.Option.{option_map_or}
use Rattle.std.proofs.lemmas.Option.{none-some, same_Some}
use Rattle.lrs_agents.proofs.SameAgents.{ifi_same, same_ifis}
use Rattle.xapi_rules.specs.LrsAgentsIdentifiersIfi.{Ifi}
use Rattle.xapi_rules.specs.LrsAgentsIdentifiers.{same_ifi}

pub same_test : (ifi : Ifi) (o : Option Ifi) (found : Bool) → IsTrue found ↔ (o ≡ Some ifi) → found ≡ option_map_or (same_ifi ifi) o false
same_test ifi None found iff = both_ways found false (λ e. absurd (none-some ifi (iff.0 e))) (λ e. absurd (let bad : false ≡ true = e in cc))
same_test ifi (Some a) found iff =
    both_ways found (same_ifi ifi a) (λ e. ap (same_ifi ifi) (same_Some a ifi (iff.0 e)) ∙ ifi_same ifi) (λ e. iff.1 (ap Some (sym (same_ifis ifi a e))))
