use Rattle.std.proofs.Common.{◌∙◌, ap, sym}
use Rattle.xapi_pages.specs.Chains.{is_direct_at, known_by}
use Rattle.xapi_pages.specs.declared.chains.Mark.TheVariants.{Unknown}
use Rattle.xapi_pages.proofs.chains.known_at.Goals as goal

pub returns-in-Passes : goal.returns-in-Passes
returns-in-Passes c = sym (ap (λ mark. known_by mark (is_direct_at c.args.sought.now c.args.position)) (sym c.at.ensures ∙ c.in-Passes.is))

pub returns-in-Fails : goal.returns-in-Fails
returns-in-Fails c = sym (ap (λ mark. known_by mark (is_direct_at c.args.sought.now c.args.position)) (sym c.at.ensures ∙ c.in-Fails.is))

pub returns-then-is_direct_at : goal.returns-then-is_direct_at
returns-then-is_direct_at c =
    sym (ap (λ mark. known_by mark (is_direct_at c.args.sought.now c.args.position)) (sym c.at.ensures ∙ c.in-Unknown.is)
    ∙ ap (λ direct. known_by Unknown direct) (sym c.is_direct_at.ensures ∙ c.if-is_direct_at.true))

pub returns-else-is_direct_at : goal.returns-else-is_direct_at
returns-else-is_direct_at c =
    sym (ap (λ mark. known_by mark (is_direct_at c.args.sought.now c.args.position)) (sym c.at.ensures ∙ c.in-Unknown.is)
    ∙ ap (λ direct. known_by Unknown direct) (sym c.is_direct_at.ensures ∙ c.if-is_direct_at.false))
