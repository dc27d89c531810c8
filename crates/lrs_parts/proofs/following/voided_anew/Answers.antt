use Rattle.std.proofs.Common.{◌∙◌, ℕ, Bool, Option, Some, None, ap, sym}
use Rattle.std.specs.Prelude.{option_and_then, if◌then◌else◌}
use Rattle.lrs_parts.specs.Progress.{is_voided_anew}
use Rattle.lrs_parts.proofs.following.voided_anew.Goals as goal

pub returns-then-is_voided_anew : goal.returns-then-is_voided_anew
returns-then-is_voided_anew c =
    let all = c.args.statements.now.held in
    ap (λ (b : Bool). if b then Some c.in-Some.position else None) (sym c.if-is_voided_anew.true ∙ c.is_voided_anew.ensures)
    ∙ ap (λ (o : Option ℕ). option_and_then (λ (position : ℕ). if is_voided_anew all c.args.at position then Some position else None) o) (sym c.in-Some.is ∙ c.referred_at.ensures)

pub returns-else-is_voided_anew : goal.returns-else-is_voided_anew
returns-else-is_voided_anew c =
    let all = c.args.statements.now.held in
    ap (λ (b : Bool). if b then Some c.in-Some.position else None) (sym c.if-is_voided_anew.false ∙ c.is_voided_anew.ensures)
    ∙ ap (λ (o : Option ℕ). option_and_then (λ (position : ℕ). if is_voided_anew all c.args.at position then Some position else None) o) (sym c.in-Some.is ∙ c.referred_at.ensures)

pub returns-in-None : goal.returns-in-None
returns-in-None c =
    let all = c.args.statements.now.held in
    ap (λ (o : Option ℕ). option_and_then (λ (position : ℕ). if is_voided_anew all c.args.at position then Some position else None) o) (sym c.in-None.is ∙ c.referred_at.ensures)
