use Rattle.std.proofs.Common.{◌∙◌, Option, ap, option_copied, sym}
use Rattle.std.specs.Option.{option_or}
use Rattle.lrs_parts.specs.Trees.{voided_in}
use Rattle.xapi_statement.specs.Stored.{StoredStatement}
use Rattle.lrs_parts.proofs.trees.tree_voided_by.Goals as goal

pub returns-in-Some : goal.returns-in-Some
returns-in-Some c =
    ap (λ (o : Option StoredStatement). option_or o (voided_in c.args.coming.now c.args.statement.now)) (ap option_copied (sym c.in-Some.is) ∙ c.voided_in.ensures)

pub returns-in-None : goal.returns-in-None
returns-in-None c =
    c.voided_in-in-None.ensures
    ∙ ap (λ (o : Option StoredStatement). option_or o (voided_in c.args.coming.now c.args.statement.now)) (ap option_copied (sym c.in-None.is) ∙ c.voided_in.ensures)
