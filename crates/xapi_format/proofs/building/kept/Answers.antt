-- One member more is kept or passed over.
use Rattle.std.proofs.Common.{◌≡◌, List, [], ◌∷◌, map, sym, ap, ◌∙◌}
use Rattle.std.proofs.lemmas.List.{nil_from_length}
use Rattle.std.specs.Vec.Iter.{into_iter_items}
use Rattle.lrs_json.specs.View.{member_view, members_of}
use Rattle.lrs_json.specs.declared.tree.Member.{Member}
use Rattle.xapi_format.specs.Completed.{kept_before}
use Rattle.xapi_values.specs.Following.{followed_by}
use Rattle.xapi_format.proofs.building.kept.Goals as goal

pub loop-part-init : goal.loop-part-init
loop-part-init c =
    let all = c.into_iter-part-iterator.ensures.into_iter_gives.0 ∙ c.into_vec-part-items.ensures in
    λ behind.
    sym (ap (λ (xs : List Member). kept_before (members_of (map member_view xs)) behind) all)
    ∙ sym (ap (λ (xs : List Member). followed_by (members_of (map member_view xs)) (kept_before (members_of (map member_view (into_iter_items c.into_iter-part-iterator.result))) behind)) c.new-built.ensures)

pub loop-part-preserved : goal.loop-part-preserved
loop-part-preserved c =
    let at = c.loop-part in
    let rest = into_iter_items c.next.new.self in
    let steps : into_iter_items at.part-iterator ≡ c.in-Some.part ∷ rest = c.in-Some.ensures.steps.0 in
    λ behind.
    at.invariant behind ∙ ap (λ (xs : List Member). followed_by (members_of (map member_view at.built)) (kept_before (members_of (map member_view xs)) behind)) steps
    ∙ c.in_ok-push_if_kept.ensures (members_of (map member_view rest)) behind

pub returns : goal.returns
returns c =
    let at = c.loop-part in
    let it = at.part-iterator in
    let none : into_iter_items it ≡ [] = nil_from_length (into_iter_items it) (sym it.rest.ok.0 ∙ c.in-None.ensures.steps.0) in
    λ behind. at.invariant behind ∙ ap (λ (xs : List Member). followed_by (members_of (map member_view at.built)) (kept_before (members_of (map member_view xs)) behind)) none
