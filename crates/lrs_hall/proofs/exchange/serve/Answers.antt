use Rattle.std.proofs.Common.{refl, inl, Err}
use Rattle.lrs_hall.proofs.Passing.{kept_still}
use Rattle.lrs_hall.proofs.exchange.serve.Goals as goal

pub returns-in-Err-clause-served : goal.returns-in-Err-clause-served
returns-in-Err-clause-served g c =
    let fixed = c.answer_fixed.ensures.fixed in
    (fixed.0, inl (Err c.in-Err.refused, c.in-Err.ensures.routed, (fixed.1, refl)), fixed.2)

pub returns-in-Err-clause-pass : goal.returns-in-Err-clause-pass
returns-in-Err-clause-pass g c = kept_still c.args.turns.now c.args.pass.now c.requires
