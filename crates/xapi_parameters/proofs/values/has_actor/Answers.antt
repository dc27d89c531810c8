use Rattle.xapi_parameters.proofs.Actors.{passes_as}
use Rattle.xapi_parameters.proofs.values.has_actor.Goals as goal

pub returns-in_ok-actor-in-Some : goal.returns-in_ok-actor-in-Some
returns-in_ok-actor-in-Some c = passes_as _ c.in-Some.text.now c.in_ok-actor-in-Some.field-0 c.is_some.result c.in-Some.ensures c.is_some.ensures c.in_ok-actor-in-Some.ensures
