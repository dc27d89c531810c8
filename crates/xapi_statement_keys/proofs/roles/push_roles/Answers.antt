-- The actor, the object, and the context.
use Rattle.std.proofs.Common.{false, true, codes}
use Rattle.std.proofs.lemmas.Result.{on_ok_weaker}
use Rattle.lrs_json.specs.Find.{find}
use Rattle.lrs_json.specs.View.{view}
use Rattle.lrs_names.specs.Members.{has_member_that}
use Rattle.xapi_query.specs.XapiFormatParty.{is_party}
use Rattle.xapi_query.specs.XapiStatementParties.{has_context_agent}
use Rattle.xapi_query.specs.XapiStatementStatement.{has_some_context_activity}
use Rattle.xapi_statement_keys.specs.Adding.{agent_keys, named_keys, object_keys, role_keys}
use Rattle.xapi_statement_keys.proofs.Growing.{adds_three}
use Rattle.xapi_statement_keys.proofs.Whole.{role_split}
use Rattle.xapi_statement_keys.proofs.roles.push_roles.Goals as goal

pub returns : goal.returns
returns c =
    let j = view c.args.statement.now in
    on_ok_weaker c.push_context.result
    (λ adds. adds_three c.args.keys.now.items c.push_party_at.new.keys.items c.push_object_at.new.keys.items c.push_context.new.keys.items
    (agent_keys true (λ ifi. has_member_that (codes "actor") (is_party ifi) j)) (object_keys (find (codes "object") j)) (named_keys false (λ ifi. has_context_agent ifi j) (λ id. has_some_context_activity id j))
    (role_keys j) (role_split j) c.in_ok-push_party_at.ensures c.in_ok-push_object_at.ensures adds)
    c.push_context.ensures
