use Rattle.std.proofs.Common.{◌≡◌, List, ◌++◌, map, sym, ap, ◌∙◌}
use Rattle.lrs_json.specs.Json.{object}
use Rattle.lrs_json.specs.View.{member_view, members_of}
use Rattle.lrs_json.specs.declared.tree.Member.{Member}
use Rattle.lrs_json.proofs.Views.{view-Object}
use Rattle.xapi_format.proofs.Joined.{members_both}
use Rattle.xapi_format.proofs.building.joined.Goals as goal

pub returns : goal.returns
returns c =
    let front = c.in_ok-front.front in
    let behind = c.args.behind in
    let all : c.append.new.self.items ≡ front ++ behind =
    c.in_ok-append.ensures.items ∙ ap (λ (xs : List Member). xs ++ c.into_vec-last.result.items) c.into_vec-all.ensures ∙ ap (λ (xs : List Member). front ++ xs) c.into_vec-last.ensures in
    view-Object c.from_vec.result ∙ ap (λ (xs : List Member). object (members_of (map member_view xs))) (c.from_vec.ensures ∙ all)
    ∙ ap object (members_both front behind ∙ sym (c.in_ok-front.ensures (members_of (map member_view behind))))
