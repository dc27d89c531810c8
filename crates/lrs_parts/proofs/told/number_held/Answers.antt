use Rattle.std.proofs.Common.{◌∙◌, ℕ, Option, ap, sym}
use Rattle.std.specs.Prelude.{option_and_then}
use Rattle.lrs_parts.specs.Progress.{number_in}
use Rattle.lrs_parts.proofs.told.number_held.Goals as goal

pub returns-in-Some : goal.returns-in-Some
returns-in-Some c =
    c.number_in.ensures ∙ ap (λ (o : Option ℕ). option_and_then (number_in c.args.registration.now c.args.registrations.now.held) o) (sym c.in-Some.is ∙ c.index_of.ensures)

pub returns-in-None : goal.returns-in-None
returns-in-None c = ap (λ (o : Option ℕ). option_and_then (number_in c.args.registration.now c.args.registrations.now.held) o) (sym c.in-None.is ∙ c.index_of.ensures)
