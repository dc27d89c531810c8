use Rattle.xapi_search.proofs.Asked.{agent_given, agent_not_given}
use Rattle.xapi_search.proofs.sought.agent_asked.Goals as goal

pub returns-in_ok-ifi-in-Some : goal.returns-in_ok-ifi-in-Some
returns-in_ok-ifi-in-Some c = agent_given c.args.query.now c.in-Some.actor c.in_ok-ifi-in-Some.ifi c.agent_key.result c.in-Some.is c.in_ok-ifi-in-Some.ensures c.agent_key.ensures

pub returns-in-None : goal.returns-in-None
returns-in-None c = agent_not_given c.args.query.now c.in-None.is
