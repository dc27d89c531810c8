use Rattle.xapi_search.proofs.Asked.{registration_given, registration_not_given}
use Rattle.xapi_search.proofs.sought.registration_asked.Goals as goal

pub returns-in-Some : goal.returns-in-Some
returns-in-Some c = registration_given c.args.query.now c.in-Some.id c.in-Some.is

pub returns-in-None : goal.returns-in-None
returns-in-None c = registration_not_given c.args.query.now c.in-None.is
