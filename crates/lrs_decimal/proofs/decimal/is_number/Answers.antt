use Rattle.std.proofs.Common.{sym, ◌∙◌}
use Rattle.lrs_decimal.proofs.Whole.{whole_number, number_whole}
use Rattle.lrs_decimal.proofs.decimal.is_number.Goals as goal

pub returns : goal.returns
returns c = (λ t. whole_number c.args.bytes.now _ c.number_len.ensures.found (sym c.eq.ensures ∙ t), λ n. c.eq.ensures ∙ number_whole c.args.bytes.now _ (c.number_len.ensures.all) n)
