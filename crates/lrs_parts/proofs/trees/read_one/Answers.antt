use Rattle.std.proofs.Common.{◌≡◌, ◌∙◌, OnOk, Option, ap, option_copied, subst, sym}
use Rattle.lrs_register.specs.Register.{with_new}
use Rattle.xapi_statement.specs.Stored.{StoredStatement}
use Rattle.lrs_parts.proofs.trees.read_one.Goals as goal

pub returns-in-Some : goal.returns-in-Some
returns-in-Some c =
    subst (λ (o : Option StoredStatement). OnOk c.read_tree.result (c.read_tree.new.trees ≡ with_new c.args.trees.now o)) (ap option_copied (sym c.in-Some.is) ∙ c.held_voided.ensures) c.read_tree.ensures

pub returns-in-None : goal.returns-in-None
returns-in-None c = ap (λ (o : Option StoredStatement). with_new c.args.trees.now o) (ap option_copied (sym c.in-None.is) ∙ c.held_voided.ensures)
