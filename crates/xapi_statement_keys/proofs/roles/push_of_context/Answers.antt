-- The instructor, the team, and the context activities.
use Rattle.std.proofs.Common.{Bool, ◌||◌, false, codes}
use Rattle.std.proofs.lemmas.Result.{on_ok_weaker}
use Rattle.lrs_agents.specs.declared.identifiers.Ifi.{Ifi}
use Rattle.lrs_json.specs.View.{view}
use Rattle.lrs_names.specs.Members.{has_member_that}
use Rattle.xapi_query.specs.XapiFormatParty.{is_party}
use Rattle.xapi_query.specs.XapiStatementParties.{is_party_of_context}
use Rattle.xapi_statement_keys.specs.Adding.{context_holds_some}
use Rattle.xapi_statement_keys.proofs.Named.{more_agents, party_and_activity}
use Rattle.xapi_statement_keys.proofs.roles.push_of_context.Goals as goal

pub returns : goal.returns
unfolding is_party_of_context
returns c =
    let j = view c.args.context.now in
    let old = c.args.keys.now.items in
    let mid = c.push_party_at-2.new.keys.items in
    let instructor : Ifi → Bool = λ ifi. has_member_that (codes "instructor") (is_party ifi) j in
    let team : Ifi → Bool = λ ifi. has_member_that (codes "team") (is_party ifi) j in
    on_ok_weaker c.push_context_activities.result
    (λ adds. party_and_activity false (λ ifi. instructor ifi || team ifi) (λ id. context_holds_some id j) old mid c.push_context_activities.new.keys.items
    (more_agents false instructor team old c.push_party_at.new.keys.items mid c.in_ok-push_party_at.ensures c.in_ok-push_party_at-2.ensures) adds)
    c.push_context_activities.ensures
