use Rattle.std.proofs.Common.{◌==◌, ◌∙◌, Bool, Option, Some, None, ap, option_copied, sym}
use Rattle.std.specs.Prelude.{option_and_then, if◌then◌else◌}
use Rattle.lrs_state.specs.declared.registrations.HeldRegistration.{HeldRegistration}
use Rattle.lrs_parts.proofs.told.number_in.Goals as goal

pub returns-then-is_in_same_edition : goal.returns-then-is_in_same_edition
returns-then-is_in_same_edition c =
    ap (λ (b : Bool). if b then Some c.args.number else None) (sym c.if-is_in_same_edition.true ∙ c.is_in_same_edition.ensures)
    ∙ ap (λ (o : Option HeldRegistration). option_and_then (λ (held : HeldRegistration). if held.edition == c.args.registration.now.edition then Some c.args.number else None) o)
    (ap option_copied (sym c.in-Some.is) ∙ c.get.ensures)

pub returns-else-is_in_same_edition : goal.returns-else-is_in_same_edition
returns-else-is_in_same_edition c =
    ap (λ (b : Bool). if b then Some c.args.number else None) (sym c.if-is_in_same_edition.false ∙ c.is_in_same_edition.ensures)
    ∙ ap (λ (o : Option HeldRegistration). option_and_then (λ (held : HeldRegistration). if held.edition == c.args.registration.now.edition then Some c.args.number else None) o)
    (ap option_copied (sym c.in-Some.is) ∙ c.get.ensures)

pub returns-in-None : goal.returns-in-None
returns-in-None c =
    ap (λ (o : Option HeldRegistration). option_and_then (λ (held : HeldRegistration). if held.edition == c.args.registration.now.edition then Some c.args.number else None) o)
    (ap option_copied (sym c.in-None.is) ∙ c.get.ensures)
