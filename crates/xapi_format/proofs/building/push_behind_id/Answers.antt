use Rattle.std.proofs.Common.{map, codes, ap, ◌∙◌}
use Rattle.std.proofs.lemmas.Result.{on_ok_weaker}
use Rattle.lrs_json.specs.Json.{no_members, member, string}
use Rattle.lrs_json.specs.View.{view, member_view, members_of}
use Rattle.xapi_format.specs.Completed.{given_or}
use Rattle.xapi_values.specs.Following.{followed_by}
use Rattle.xapi_format.proofs.building.push_behind_id.Goals as goal

pub returns : goal.returns
returns c =
    let received = view c.args.received.now in
    let agent = view c.in_ok-agent.field-0 in
    let version = given_or (codes "version") received (codes "1.0.0") in
    let last = member (codes "version") version no_members in
    let signed = member (codes "authority") agent last in
    let stored = member (codes "stored") (string c.args.stored.now) signed in
    on_ok_weaker c.push_given-2.result (λ h. h no_members ∙ c.in_ok-push.ensures last ∙ c.in_ok-push_words.ensures signed ∙ c.in_ok-push_given.ensures stored
    ∙ ap (λ a. followed_by (members_of (map member_view c.args.built.now)) (member (codes "timestamp") (given_or (codes "timestamp") received c.args.stored.now) (member (codes "stored") (string c.args.stored.now)
    (member (codes "authority") a (member (codes "version") version no_members))))) c.in_ok-agent.ensures) c.push_given-2.ensures
