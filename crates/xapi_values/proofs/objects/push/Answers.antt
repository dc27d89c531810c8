use Rattle.std.proofs.Common.{map, ap, ◌∙◌}
use Rattle.std.proofs.lemmas.Result.{on_ok_weaker}
use Rattle.lrs_json.specs.View.{view, member_view, members_of}
use Rattle.xapi_values.specs.Following.{followed_by}
use Rattle.xapi_values.proofs.Following.{followed_last}
use Rattle.xapi_values.proofs.objects.push.Goals as goal

pub returns : goal.returns
returns c =
    on_ok_weaker c.push_last.result
    (λ e behind. ap (λ l. followed_by (members_of l) behind) e ∙ followed_last (map member_view c.args.built.now) c.args.name (view c.args.value) behind)
    c.push_last.ensures
