use Rattle.std.proofs.Common.{◌∙◌, if◌then◌else◌, ◌++◌, ◌∷◌, [], sym, ap}
use Rattle.xapi_postings.proofs.positions.Positions.put.Goals as goal

pub returns-then-ends_with-clause-posted : goal.returns-then-ends_with-clause-posted
returns-then-ends_with-clause-posted c =
    let old = c.args.self.now in
    sym (ap (λ b. if b then old else old ++ c.args.position ∷ []) (sym c.ends_with.ensures ∙ c.if-ends_with.true))

pub returns-clause-posted : goal.returns-clause-posted
returns-clause-posted c =
    let old = c.args.self.now in
    c.in_ok-push.ensures.items ∙ ap (λ ks. ks ++ c.args.position ∷ []) c.self.view_is
    ∙ sym (ap (λ b. if b then old else old ++ c.args.position ∷ []) (sym c.ends_with.ensures ∙ c.if-ends_with.false))
