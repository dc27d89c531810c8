-- Its own identifier, and those of its members.
use Rattle.std.proofs.Common.{codes}
use Rattle.std.proofs.lemmas.Result.{on_ok_weaker}
use Rattle.lrs_json.specs.View.{view}
use Rattle.lrs_names.specs.Members.{has_member_that}
use Rattle.xapi_query.specs.XapiFormatParty.{has_identified, is_identified, is_party}
use Rattle.xapi_statement_keys.proofs.Named.{more_agents}
use Rattle.xapi_statement_keys.proofs.parties.push_party.Goals as goal

pub returns : goal.returns
unfolding is_party
returns c =
    let j = view c.args.tree.now in
    on_ok_weaker c.push_members.result
    (λ adds. more_agents c.args.direct (λ ifi. is_identified ifi j) (λ ifi. has_member_that (codes "member") (has_identified ifi) j)
    c.args.keys.now.items c.push_identified.new.keys.items c.push_members.new.keys.items c.in_ok-push_identified.ensures adds)
    c.push_members.ensures
