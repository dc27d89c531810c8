use Rattle.std.proofs.lemmas.Result.{on_ok_weaker}
use Rattle.lrs_json.specs.View.{view}
use Rattle.xapi_query.specs.XapiStatementParties.{is_party_object}
use Rattle.xapi_query.specs.XapiStatementStatement.{is_activity_of}
use Rattle.xapi_statement_keys.proofs.Named.{party_and_activity}
use Rattle.xapi_statement_keys.proofs.roles.push_object.Goals as goal

pub returns : goal.returns
returns c =
    let j = view c.args.object.now in
    on_ok_weaker c.push_activity.result
    (λ adds. party_and_activity c.args.direct (λ ifi. is_party_object ifi j) (λ id. is_activity_of id j)
    c.args.keys.now.items c.push_party_object.new.keys.items c.push_activity.new.keys.items c.in_ok-push_party_object.ensures adds)
    c.push_activity.ensures
