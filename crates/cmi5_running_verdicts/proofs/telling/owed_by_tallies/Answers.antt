use Rattle.std.proofs.Common.{◌≤◌, ◌^◌, ◌∙◌, length, refl, arith}
use Rattle.std.proofs.lemmas.List.{with_items_is}
use Rattle.std.proofs.lemmas.Result.{IfOk-weaker}
use Rattle.cmi5_verdict.specs.Nodes.{seen}
use Rattle.cmi5_verdict.specs.Statements.{all_of}
use Rattle.cmi5_running_verdicts.proofs.Told.{said_with_new}
use Rattle.cmi5_running_verdicts.proofs.telling.owed_by_tallies.Goals as goal

pub returns : goal.returns
returns c = λ are.
    let e = seen c.args.enrolment.now in
    let held = c.args.statements.now.held.now.held in
    let new = c.args.statements.now.new.now in
    let few : length c.args.tallies.now ≤ 2 ^ 64 = omega (arith, c.in_ok-said.ensures.few) in
    let said =
    c.as_slice.ensures.value
    ∙ (with_items_is c.in_ok-said.said c.add_new.new.said (c.add_new.ensures.long ∙ c.as_mut_slice.ensures.len)
    ∙ said_with_new e held new c.requires c.args.tallies.now c.as_mut_slice.result.now c.add_new.new.said are few (c.as_mut_slice.ensures.value ∙ c.in_ok-said.ensures.said) c.add_new.ensures.long
    c.add_new.ensures.added) in
    IfOk-weaker c.owed_by_said.result _ _ (λ indices is. is e (all_of c.args.statements.now) refl said) c.owed_by_said.ensures
