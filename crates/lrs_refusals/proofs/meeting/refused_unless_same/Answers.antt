use Rattle.std.proofs.Common.{◌∙◌, Bool, ap, not, sym}
use Rattle.lrs_ids.specs.Choices.{when}
use Rattle.lrs_json.specs.View.{view}
use Rattle.lrs_json.specs.declared.tree.Tree.{Tree}
use Rattle.lrs_replies.specs.declared.answered.Refusal.TheVariants.{Conflict}
use Rattle.xapi_alike.specs.Same.{same}
use Rattle.lrs_refusals.proofs.meeting.refused_unless_same.Goals as goal

pub returns-then-is_same : goal.returns-then-is_same
returns-then-is_same c =
    ap (λ (b : Bool). when (not b) (Conflict c.args.id.now))
    (sym c.if-is_same.true ∙ (c.same_received-is_same.ensures.value ∙ ap (λ (u : Tree). same (view u) (view c.args.statement.now)) c.in_ok-received.ensures))

pub returns-else-is_same : goal.returns-else-is_same
returns-else-is_same c =
    ap (λ (b : Bool). when (not b) (Conflict c.args.id.now))
    (sym c.if-is_same.false ∙ (c.same_received-is_same.ensures.value ∙ ap (λ (u : Tree). same (view u) (view c.args.statement.now)) c.in_ok-received.ensures))
