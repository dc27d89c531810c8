use Rattle.std.proofs.Common.{Some, sym, ap, ◌∙◌}
use Rattle.lrs_decimal.proofs.NumberLemmas.{len_found, len_again, behind_len, no_number}
use Rattle.lrs_decimal.proofs.numbers.number_len.Goals as goal

pub returns-in_err-rest-clause-all : goal.returns-in_err-rest-clause-all
returns-in_err-rest-clause-all c = λ s rest is num ends. absurd (no_number c.args.bytes.now (sym c.in_err-rest.ensures) s rest is num ends)

pub returns-clause-found : goal.returns-clause-found
returns-clause-found c = (len_found c.args.bytes.now c.in_ok-rest.rest.now _ (sym c.in_ok-rest.ensures) c.saturating_sub.ensures).1

pub returns-clause-all : goal.returns-clause-all
returns-clause-all c = len_again c.args.bytes.now c.in_ok-rest.rest.now _ (sym c.in_ok-rest.ensures) c.saturating_sub.ensures

pub returns-clause-exact : goal.returns-clause-exact
returns-clause-exact c =
    ap Some (behind_len c.args.bytes.now c.in_ok-rest.rest.now _ (sym c.in_ok-rest.ensures) c.saturating_sub.ensures) ∙ c.in_ok-rest.ensures
