use Rattle.lrs_json.specs.View.{view}
use Rattle.xapi_parameters.proofs.Actors.{at_text, broken_actor, identified, identified_at, no_actor, spelled_at, unspelled_at}
use Rattle.xapi_parameters.proofs.values.actor.Goals as goal

pub returns-in-Some-broken_agent_or_group : goal.returns-in-Some-broken_agent_or_group
returns-in-Some-broken_agent_or_group c =
    let bytes = c.as_bytes.result.now in
    let spelled = spelled_at bytes c.in_ok-tree.field-0 c.in-Some.tree c.in-Some.is c.in_ok-tree.ensures in
    at_text bytes c.args.text.now c.as_bytes.ensures.lent
    (broken_actor bytes (view c.in-Some.tree) c.in-Some-broken_agent_or_group.field-0 spelled.1 c.in-Some-broken_agent_or_group.ensures)

pub returns-in-Some : goal.returns-in-Some
returns-in-Some c =
    let bytes = c.as_bytes.result.now in
    let spelled = spelled_at bytes c.in_ok-tree.field-0 c.in-Some.tree c.in-Some.is c.in_ok-tree.ensures in
    identified_at bytes c.args.text.now c.of.result c.as_bytes.ensures.lent
    (identified bytes (view c.in-Some.tree) c.of.result spelled.0 spelled.1 c.in-None-broken_agent_or_group.ensures c.of.ensures)

pub returns : goal.returns
returns c =
    let bytes = c.as_bytes.result.now in
    at_text bytes c.args.text.now c.as_bytes.ensures.lent (no_actor bytes (unspelled_at bytes c.in_ok-tree.field-0 c.in-None.is c.in_ok-tree.ensures))
