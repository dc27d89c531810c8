use Rattle.std.proofs.Common.{◌∙◌, ◌++◌, [], ◌∷◌, List, sym, subst}
use Rattle.std.proofs.lemmas.List.{with_items_is}
use Rattle.cmi5_running_verdicts.specs.Tallies.{AreTallies}
use Rattle.cmi5_running_verdicts.specs.declared.tally.Tally.{Tally}
use Rattle.cmi5_verdict.specs.Cmi5SessionMarked.{mark}
use Rattle.cmi5_verdict.specs.Nodes.{seen}
use Rattle.cmi5_running_verdicts.proofs.running.Tallies.count.Goals as goal

pub returns : goal.returns
returns c = λ those few are.
    let e = seen c.args.enrolment.now in
    let lent = c.as_mut_slice.ensures.value ∙ c.self.view_is in
    subst (λ (ts : List Tally). AreTallies e (those ++ mark c.args.statement.now c.args.voided ∷ []) ts)
    (sym (with_items_is c.self.inside.list c.count.new.tallies (c.count.ensures.long ∙ c.as_mut_slice.ensures.len)))
    (c.count.ensures.counted those few (subst (λ (ts : List Tally). AreTallies e those ts) (sym lent) are))
