use Rattle.std.proofs.Common.{List, map, sym, ap, ◌∙◌}
use Rattle.lrs_json.specs.View.{view, member_view, members_of}
use Rattle.lrs_json.specs.declared.tree.Member.{Member}
use Rattle.xapi_values.specs.LrsTimeMoments.{moment_text}
use Rattle.xapi_format.specs.Authorities.{authority_json}
use Rattle.xapi_format.specs.Completed.{added}
use Rattle.xapi_values.specs.Following.{followed_by}
use Rattle.xapi_values.proofs.Following.{followed_none}
use Rattle.xapi_format.proofs.building.added.Goals as goal

pub returns : goal.returns
returns c =
    let behind = added (view c.args.received.now) c.args.id.now (moment_text c.args.stored) (authority_json c.args.authority.now) in
    sym (followed_none (members_of (map member_view c.push_added.new.built))) ∙ c.in_ok-push_added.ensures
    ∙ ap (λ (xs : List Member). followed_by (members_of (map member_view xs)) behind) c.new-built.ensures
