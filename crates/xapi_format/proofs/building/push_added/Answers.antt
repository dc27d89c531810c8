use Rattle.std.proofs.Common.{◌≡◌, map, codes, ap, ◌∙◌}
use Rattle.std.proofs.lemmas.Result.{on_ok_weaker}
use Rattle.lrs_json.specs.Json.{member, string}
use Rattle.lrs_json.specs.View.{view, member_view, members_of}
use Rattle.xapi_values.specs.LrsNamesIds.{id_text}
use Rattle.xapi_values.specs.LrsTimeMoments.{moment_text}
use Rattle.xapi_format.specs.Authorities.{authority_json}
use Rattle.xapi_format.specs.Completed.{added_behind_id}
use Rattle.xapi_values.specs.Following.{followed_by}
use Rattle.xapi_format.proofs.building.push_added.Goals as goal

pub returns : goal.returns
returns c =
    let received = view c.args.received.now in
    let agent = authority_json c.args.authority.now in
    let old = members_of (map member_view c.args.built.now) in
    let id = c.utf8_text.result.now in
    let stored = c.utf8_text-2.result.now in
    let id_is : id ≡ id_text c.args.id.now = c.utf8_text.ensures ∙ c.text-id.ensures.text in
    let stored_is : stored ≡ moment_text c.args.stored = c.utf8_text-2.ensures ∙ c.moment_text-moment.ensures.exact in
    on_ok_weaker c.push_behind_id.result (λ e. e ∙ c.in_ok-push_words.ensures (added_behind_id received stored agent)
    ∙ ap (λ i. followed_by old (member (codes "id") (string i) (added_behind_id received stored agent))) id_is
    ∙ ap (λ t. followed_by old (member (codes "id") (string (id_text c.args.id.now)) (added_behind_id received t agent))) stored_is) c.push_behind_id.ensures
