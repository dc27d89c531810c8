use Rattle.lrs_json.specs.View.{view}
use Rattle.xapi_rules.specs.LrsAgentsIdentifiers.{identifier_of}
use Rattle.xapi_format.specs.Party.{is_identified}
use Rattle.xapi_properties.proofs.Identifying.{same_test}
use Rattle.xapi_properties.proofs.parties.is_identified.Goals as goal

pub returns : goal.returns
unfolding is_identified
returns c = same_test c.args.ifi.now (identifier_of (view c.args.tree.now)) c.is_of.result c.is_of.ensures
