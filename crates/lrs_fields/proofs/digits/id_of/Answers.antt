use Rattle.std.proofs.Common.{sym, ◌∙◌}
use Rattle.std.proofs.lemmas.Bool.{false≢true}
use Rattle.lrs_names.specs.Ids.{IsId, id_of, id_text}
use Rattle.lrs_names.proofs.IdTexts.{id_of-id_text}
use Rattle.lrs_fields.proofs.Sequences.{none_spelled, other_spelled, same_spelled}
use Rattle.lrs_fields.proofs.digits.id_of.Goals as goal

pub returns-then-are_same : goal.returns-then-are_same
returns-then-are_same c =
    same_spelled id_text IsId id_of c.args.text.now c.in-Some.id id_of-id_text c.text.ensures.whole (c.are_same.ensures.0 c.if-are_same.true ∙ c.text.ensures.text)

pub returns-else-are_same : goal.returns-else-are_same
returns-else-are_same c =
    other_spelled id_text IsId id_of c.args.text.now c.in-Some.id id_of-id_text (sym c.in-Some.ensures.reads)
    (λ same. false≢true (sym c.if-are_same.false ∙ c.are_same.ensures.1 (same ∙ sym c.text.ensures.text)))

pub returns-in-None : goal.returns-in-None
returns-in-None c = none_spelled id_text IsId id_of c.args.text.now id_of-id_text (sym c.in-None.ensures.reads)
