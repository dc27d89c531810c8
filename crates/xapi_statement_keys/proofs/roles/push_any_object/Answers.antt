-- What it is, and what it is made of if it is a SubStatement.
use Rattle.std.proofs.Common.{Some, false, true, refl}
use Rattle.std.proofs.lemmas.Result.{on_ok_weaker}
use Rattle.lrs_json.specs.View.{view}
use Rattle.xapi_query.specs.XapiStatementParties.{is_party_object, nested_has_agent}
use Rattle.xapi_query.specs.XapiStatementStatement.{is_activity_of, nested_has_activity}
use Rattle.xapi_statement_keys.specs.Adding.{named_keys, object_keys}
use Rattle.xapi_statement_keys.proofs.Growing.{adds_both}
use Rattle.xapi_statement_keys.proofs.roles.push_any_object.Goals as goal

pub returns : goal.returns
returns c =
    let j = view c.args.object.now in
    on_ok_weaker c.push_nested.result
    (λ adds. adds_both c.args.keys.now.items c.push_object.new.keys.items c.push_nested.new.keys.items
    (named_keys true (λ ifi. is_party_object ifi j) (λ id. is_activity_of id j)) (named_keys false (λ ifi. nested_has_agent ifi j) (λ id. nested_has_activity id j))
    (object_keys (Some j)) (λ k. refl) c.in_ok-push_object.ensures adds)
    c.push_nested.ensures
