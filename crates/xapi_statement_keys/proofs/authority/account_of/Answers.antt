use Rattle.std.proofs.Common.{ap, ◌∙◌}
use Rattle.lrs_agents.specs.declared.identifiers.Ifi.TheVariants.{Account}
use Rattle.xapi_query.specs.XapiFormatAuthorities.{home_page}
use Rattle.xapi_statement_keys.proofs.authority.account_of.Goals as goal

pub returns : goal.returns
returns c = ap (λ home. Account home c.in_ok-name.name) c.in_ok-home.ensures.copied ∙ ap (λ name. Account home_page name) c.in_ok-name.ensures
