use Rattle.std.proofs.Common.{ap, ◌∙◌}
use Rattle.lrs_json.specs.declared.tree.Tree.{Words}
use Rattle.lrs_json_reader.proofs.Parts.{err_finds}
use Rattle.lrs_json_reader.proofs.rereading.string.Goals as goal

pub returns-in_err-quoted-clause-again : goal.returns-in_err-quoted-clause-again
returns-in_err-quoted-clause-again c = λ text rest q ends. err_finds _ _ c.from_residual.ensures.1 (λ y is. is ∙ c.in_err-quoted.ensures.all text rest q)

pub returns-clause-again : goal.returns-clause-again
returns-clause-again c = λ text rest q ends. let a = c.in_ok-quoted.ensures.all text rest q in (ap Words a.0, a.1)
