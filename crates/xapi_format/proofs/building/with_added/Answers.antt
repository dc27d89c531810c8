use Rattle.std.proofs.Common.{◌≡◌, map, sym, ap, ◌∙◌}
use Rattle.std.proofs.lemmas.Result.{MatchResult-weaker}
use Rattle.lrs_json.specs.Json.{Json, Members, object}
use Rattle.lrs_json.specs.View.{view, member_view, members_of}
use Rattle.lrs_json.specs.declared.tree.Tree.{Tree}
use Rattle.lrs_json.proofs.Views.{view-Object}
use Rattle.xapi_format.specs.Completed.{added, completed, kept_before}
use Rattle.xapi_format.proofs.building.with_added.Goals as goal

pub returns-in-Object : goal.returns-in-Object
unfolding completed
returns-in-Object c = λ id stored agent told.
    let ms = members_of (map member_view c.in-Object.members) in
    let seen : view c.args.received ≡ object ms = ap (λ (t : Tree). view t) c.in-Object.is ∙ view-Object c.in-Object.members in
    let behind : members_of (map member_view c.args.behind) ≡ added (object ms) id stored agent = told ∙ ap (λ (j : Json). added j id stored agent) seen in
    MatchResult-weaker c.joined.result c.joined.ensures
    (λ tree is. is ∙ ap (λ (b : Members). object (kept_before ms b)) behind ∙ sym (ap (λ (j : Json). completed j id stored agent) seen)) (λ e any. any)
