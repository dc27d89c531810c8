use Rattle.std.proofs.Common.{◌≡◌, ◌∙◌, Bool, ap, not, sym}
use Rattle.lrs_ids.specs.Choices.{when}
use Rattle.lrs_json.specs.View.{view}
use Rattle.lrs_json.specs.declared.tree.Tree.{Tree}
use Rattle.lrs_replies.specs.declared.answered.Refusal.TheVariants.{Conflict}
use Rattle.xapi_alike.proofs.Laws.{same_is_sameness}
use Rattle.xapi_alike.specs.Same.{same}
use Rattle.lrs_refusals.proofs.meeting.refused_beside.Goals as goal

pub returns-then-is_received_as : goal.returns-then-is_received_as
returns-then-is_received_as c =
    let t = c.args.statement.now in
    let is : t ≡ c.args.held.now.received = c.is_received_as.ensures.0 c.if-is_received_as.true in
    ap (λ (b : Bool). when (not b) (Conflict c.args.id.now))
    (sym (ap (λ (u : Tree). same (view u) (view t)) (sym is) ∙ same_is_sameness.reflexive (view t) c.requires.0))
