use Rattle.std.proofs.Common.{◌<◌, ◌^◌, ◌∙◌, length, sym, ap, arith}
use Rattle.cmi5_verdict.specs.FoundIndices.{is_index}
use Rattle.cmi5_running_verdicts.proofs.counting.index_within.Goals as goal

pub returns-in-Some-clause-meant : goal.returns-in-Some-clause-meant
returns-in-Some-clause-meant c = λ index lt.
    let few : length c.args.enrolment.now.nodes.now < 2 ^ 64 = omega arith in
    c.if_below.ensures.same index lt ∙ (sym (ap (λ o. is_index index o) c.in-Some.is) ∙ c.index_meant.ensures index (omega arith))

pub returns-in-Some-clause-few : goal.returns-in-Some-clause-few
returns-in-Some-clause-few c = omega arith

pub returns-in-None-clause-meant : goal.returns-in-None-clause-meant
returns-in-None-clause-meant c = λ index lt.
    let few : length c.args.enrolment.now.nodes.now < 2 ^ 64 = omega arith in
    sym (ap (λ o. is_index index o) c.in-None.is) ∙ c.index_meant.ensures index (omega arith)

pub returns-in-None-clause-few : goal.returns-in-None-clause-few
returns-in-None-clause-few c = omega arith
