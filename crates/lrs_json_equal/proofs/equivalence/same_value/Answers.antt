use Rattle.lrs_json_equal.proofs.SameValues.{same-refl, same-sym, same-trans}
use Rattle.lrs_json_equal.proofs.equivalence.same_value.Goals as goal

pub returns-clause-reflexive : goal.returns-clause-reflexive
returns-clause-reflexive c = same-refl

pub returns-clause-symmetric : goal.returns-clause-symmetric
returns-clause-symmetric c = same-sym

pub returns-clause-transitive : goal.returns-clause-transitive
returns-clause-transitive c = same-trans
