use Rattle.std.proofs.Common.{◌∙◌}
use Rattle.xapi_search.proofs.Asked.{verb_given, verb_not_given}
use Rattle.xapi_search.proofs.sought.verb_asked.Goals as goal

pub returns-in_ok-copy-in-Some : goal.returns-in_ok-copy-in-Some
returns-in_ok-copy-in-Some c = verb_given c.args.query.now c.in-Some.id c.into_text.result c.in-Some.is (c.into_text.ensures.given ∙ c.in_ok-copy-in-Some.ensures)

pub returns-in-None : goal.returns-in-None
returns-in-None c = verb_not_given c.args.query.now c.in-None.is
