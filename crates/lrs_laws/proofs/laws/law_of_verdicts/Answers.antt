use Rattle.lrs_laws.proofs.Satisfied.{satisfied_once}
use Rattle.lrs_laws.proofs.SatisfiedTold.{satisfied_are_told}
use Rattle.lrs_laws.proofs.laws.law_of_verdicts.Goals as goal

pub returns-clause-once : goal.returns-clause-once
returns-clause-once c = satisfied_once

pub returns-clause-told : goal.returns-clause-told
returns-clause-told c = satisfied_are_told
