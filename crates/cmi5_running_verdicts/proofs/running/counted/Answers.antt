use Rattle.std.proofs.Common.{◌∙◌, [], List, refl, sym, subst}
use Rattle.std.proofs.lemmas.List.{with_items_is}
use Rattle.cmi5_running_verdicts.specs.Tallies.{AreTallies}
use Rattle.cmi5_running_verdicts.specs.declared.tally.Tally.{Tally}
use Rattle.cmi5_verdict.specs.Cmi5SessionMarked.{marked}
use Rattle.cmi5_verdict.specs.Nodes.{seen}
use Rattle.cmi5_running_verdicts.proofs.running.counted.Goals as goal

pub count_registered-requires-clause-fresh : goal.count_registered-requires-clause-fresh
count_registered-requires-clause-fresh c =
    let e = seen c.args.enrolment.now in
    subst (λ (ts : List Tally). AreTallies e [] ts) (sym c.as_mut_slice.ensures.value) (c.in_ok-tallies.ensures e refl)

pub returns : goal.returns
returns c =
    subst (λ (ts : List Tally). AreTallies (seen c.args.enrolment.now) (marked c.args.statements.now.held) ts)
    (sym (with_items_is c.in_ok-tallies.tallies c.count_registered.new.tallies (c.count_registered.ensures.long ∙ c.as_mut_slice.ensures.len)))
    c.in_ok-count_registered.ensures.counted
