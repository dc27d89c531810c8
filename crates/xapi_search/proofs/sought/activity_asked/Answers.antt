use Rattle.std.proofs.Common.{◌∙◌}
use Rattle.xapi_search.proofs.Asked.{activity_given, activity_not_given}
use Rattle.xapi_search.proofs.sought.activity_asked.Goals as goal

pub returns-in_ok-copy-in-Some : goal.returns-in_ok-copy-in-Some
returns-in_ok-copy-in-Some c =
    activity_given c.args.query.now c.in-Some.id c.into_text.result c.activity_key.result c.in-Some.is (c.into_text.ensures.given ∙ c.in_ok-copy-in-Some.ensures) c.activity_key.ensures

pub returns-in-None : goal.returns-in-None
returns-in-None c = activity_not_given c.args.query.now c.in-None.is
