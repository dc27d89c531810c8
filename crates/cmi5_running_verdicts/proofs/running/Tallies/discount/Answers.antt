use Rattle.std.proofs.Common.{◌∙◌, ◌++◌, ◌∷◌, List, true, false, sym, subst}
use Rattle.std.proofs.lemmas.List.{with_items_is}
use Rattle.cmi5_running_verdicts.specs.Tallies.{AreTallies}
use Rattle.cmi5_running_verdicts.specs.declared.tally.Tally.{Tally}
use Rattle.cmi5_verdict.specs.Cmi5SessionMarked.{mark}
use Rattle.cmi5_verdict.specs.Nodes.{seen}
use Rattle.cmi5_running_verdicts.proofs.running.Tallies.discount.Goals as goal

pub returns : goal.returns
returns c = λ before behind are.
    let e = seen c.args.enrolment.now in
    let lent = c.as_mut_slice.ensures.value ∙ c.self.view_is in
    subst (λ (ts : List Tally). AreTallies e (before ++ mark c.args.statement.now true ∷ behind) ts)
    (sym (with_items_is c.self.inside.list c.discount.new.tallies (c.discount.ensures.long ∙ c.as_mut_slice.ensures.len)))
    (c.discount.ensures.counted before behind (subst (λ (ts : List Tally). AreTallies e (before ++ mark c.args.statement.now false ∷ behind) ts) (sym lent) are))
