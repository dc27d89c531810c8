use Rattle.std.proofs.Common.{subst}
use Rattle.std.specs.Prelude.{slice_index_or}
use Rattle.lrs_hall.specs.Steps.{Works}
use Rattle.lrs_hall.proofs.workers.work_all.Goals as goal

pub returns-clause-each : goal.returns-clause-each
returns-clause-each g c = λ i d near.
    let at = (c.for_each_mut.ensures i d near).1 in
    subst (λ new. Works g.O.Door.state c.args.turns.now c.args.connections (slice_index_or c.args.workers.now i d) new) at.left
    (subst (λ old. Works g.O.Door.state c.args.turns.now c.args.connections old at.after_call.now) at.argument_is at.call)
