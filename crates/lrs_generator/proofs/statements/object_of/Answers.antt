use Rattle.std.proofs.Common.{◌≡◌, IfOk, sym, ap, ◌∙◌, subst}
use Rattle.lrs_json.specs.Json.{Json}
use Rattle.lrs_json.specs.View.{view}
use Rattle.lrs_generator.specs.Generated.{reference_json}
use Rattle.lrs_generator.proofs.Choices.{referred_object, voided_object}
use Rattle.lrs_generator.proofs.statements.object_of.Goals as goal

pub returns-then-index-eq49 : goal.returns-then-index-eq49
returns-then-index-eq49 c =
    subst (λ (j : Json). IfOk c.reference.result (λ tree. view tree ≡ j)) (ap reference_json c.id_at.ensures ∙ sym (voided_object c.args.seed c.args.index c.args.number c.if-index-eq49.true))
    c.reference.ensures

pub returns-then-index-eq9 : goal.returns-then-index-eq9
returns-then-index-eq9 c =
    subst (λ (j : Json). IfOk c.reference-then-index-eq9.result (λ tree. view tree ≡ j))
    (ap reference_json c.id_at-then-index-eq9.ensures ∙ sym (referred_object c.args.seed c.args.index c.args.number c.if-index-eq49.false c.if-index-eq9.true)) c.reference-then-index-eq9.ensures
