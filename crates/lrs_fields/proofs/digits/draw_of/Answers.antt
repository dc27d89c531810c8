use Rattle.std.proofs.Common.{sym, ◌∙◌}
use Rattle.std.proofs.lemmas.Bool.{false≢true}
use Rattle.lrs_fields.specs.Digits.{HoldsDraw, draw_of, draw_text}
use Rattle.lrs_fields.proofs.Words.{read_draw}
use Rattle.lrs_fields.proofs.Sequences.{none_spelled, other_spelled, same_spelled}
use Rattle.lrs_fields.proofs.digits.draw_of.Goals as goal

pub returns-then-are_same : goal.returns-then-are_same
returns-then-are_same c =
    same_spelled draw_text HoldsDraw draw_of c.args.digits.now c.in-Some.draw read_draw c.draw_digits.ensures.holds (c.are_same.ensures.0 c.if-are_same.true ∙ c.draw_digits.ensures.text)

pub returns-else-are_same : goal.returns-else-are_same
returns-else-are_same c =
    other_spelled draw_text HoldsDraw draw_of c.args.digits.now c.in-Some.draw read_draw (sym c.in-Some.ensures)
    (λ same. false≢true (sym c.if-are_same.false ∙ c.are_same.ensures.1 (same ∙ sym c.draw_digits.ensures.text)))

pub returns-in-None : goal.returns-in-None
returns-in-None c = none_spelled draw_text HoldsDraw draw_of c.args.digits.now read_draw (sym c.in-None.ensures)
