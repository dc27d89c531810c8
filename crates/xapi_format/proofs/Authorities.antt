-- The Agent of an authority has one identifier, its account.
use Rattle.std.proofs.Common.{◌≡◌, ℕ, List}
use Rattle.std.proofs.Math.Bool.{or-false}
use Rattle.lrs_agents.specs.Identifiers.{identifier_of, same_ifi}
use Rattle.lrs_agents.specs.declared.identifiers.Ifi.{Ifi}
use Rattle.lrs_agents.specs.declared.identifiers.Ifi.TheVariants.{Account}
use Rattle.xapi_format.specs.Authorities.{authority_agent, home_page}
use Rattle.xapi_format.specs.Party.{is_identified, is_party}

pub is_authority : (ifi : Ifi) (name account : List ℕ) → is_party ifi (authority_agent name account) ≡ same_ifi ifi (Account home_page account)
unfolding is_party is_identified identifier_of
is_authority ifi name account = or-false (same_ifi ifi (Account home_page account))
