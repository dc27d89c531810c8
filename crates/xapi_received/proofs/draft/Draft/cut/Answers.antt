use Rattle.std.proofs.Common.{[], ◌∷◌, ◌++◌, length, refl, ap, ◌∙◌}
use Rattle.xapi_received.specs.Excerpts.{listed}
use Rattle.xapi_received.specs.declared.excerpts.Excerpts.{Excerpts}
use Rattle.xapi_received.proofs.Drafting.{excerpt_added}
use Rattle.xapi_received.proofs.Spans.{excerpt_at}
use Rattle.xapi_received.proofs.draft.Draft.cut.Goals as goal

pub returns-clause-adds : goal.returns-clause-adds
returns-clause-adds c =
    let old = c.args.self.now in
    let end = c.in_ok-end.end in
    excerpt_added old (record old { excerpts = c.in_ok-excerpts.excerpts; from = end }) c.args.bracket refl
    (c.in_ok-excerpts.ensures ∙ ap (λ (ps : Excerpts). listed ps ++ (excerpt_at old.from end c.args.bracket ∷ [])) c.replace-before.ensures.value) (c.in_ok-end.ensures ∙ ap length c.as_slice.ensures.value)

pub returns-clause-ends : goal.returns-clause-ends
returns-clause-ends c = c.in_ok-end.ensures ∙ ap length c.as_slice.ensures.value
