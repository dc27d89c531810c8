use Rattle.std.proofs.Common.{◌∙◌, ℕ, List, Option, ap, sym}
use Rattle.std.specs.Prelude.{option_and_then}
use Rattle.xapi_statement.specs.Statements.{held_under}
use Rattle.lrs_parts.proofs.trees.voided_in.Goals as goal

pub returns-in-Some : goal.returns-in-Some
returns-in-Some c = c.first_under.ensures ∙ ap (λ (o : Option (List ℕ)). option_and_then (λ (id : List ℕ). held_under id c.args.trees.now) o) (sym c.in-Some.is ∙ c.voided_by.ensures)

pub returns-in-None : goal.returns-in-None
returns-in-None c = ap (λ (o : Option (List ℕ)). option_and_then (λ (id : List ℕ). held_under id c.args.trees.now) o) (sym c.in-None.is ∙ c.voided_by.ensures)
