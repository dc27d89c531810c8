-- The learner is lent as the Agent.
use Rattle.std.proofs.Common.{◌≡◌, IfOk, subst}
use Rattle.lrs_history.specs.Cmi5LaunchMade.{said, saying_json}
use Rattle.lrs_agents.specs.declared.agents.Agent.{Agent}
use Rattle.lrs_json.specs.View.{view}
use Rattle.lrs_made.proofs.saying.statement_of.Goals as goal

pub returns : goal.returns
returns c =
    subst (λ (actor : Agent). IfOk c.made_statement.result (λ s. view s.tree
    ≡ saying_json (said c.args.made.now) actor c.args.activity.now c.args.publisher.now c.args.registration.now.id c.args.session.now))
    c.agent.ensures.lent c.made_statement.ensures
