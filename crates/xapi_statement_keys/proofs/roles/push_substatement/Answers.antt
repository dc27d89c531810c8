-- The actor, the object, and the context.
use Rattle.std.proofs.Common.{Bool, ◌||◌, false, codes}
use Rattle.std.proofs.lemmas.Result.{on_ok_weaker}
use Rattle.lrs_agents.specs.declared.identifiers.Ifi.{Ifi}
use Rattle.lrs_json.specs.View.{view}
use Rattle.lrs_names.specs.Members.{has_member_that}
use Rattle.xapi_query.specs.XapiFormatParty.{is_party}
use Rattle.xapi_query.specs.XapiStatementParties.{has_context_agent, has_direct_agent, is_party_object}
use Rattle.xapi_query.specs.XapiStatementStatement.{has_some_context_activity, is_about}
use Rattle.xapi_statement_keys.proofs.Named.{more_named, party_and_named}
use Rattle.xapi_statement_keys.proofs.roles.push_substatement.Goals as goal

pub returns : goal.returns
unfolding has_direct_agent
returns c =
    let j = view c.args.nested.now in
    let old = c.args.keys.now.items in
    let mid = c.push_nested_object.new.keys.items in
    let actor : Ifi → Bool = λ ifi. has_member_that (codes "actor") (is_party ifi) j in
    let object : Ifi → Bool = λ ifi. has_member_that (codes "object") (is_party_object ifi) j in
    on_ok_weaker c.push_context.result
    (λ adds. more_named false (λ ifi. actor ifi || object ifi) (λ ifi. has_context_agent ifi j) (λ id. is_about id j) (λ id. has_some_context_activity id j) old mid c.push_context.new.keys.items
    (party_and_named false actor object (λ id. is_about id j) old c.push_party_at.new.keys.items mid c.in_ok-push_party_at.ensures c.in_ok-push_nested_object.ensures) adds)
    c.push_context.ensures
