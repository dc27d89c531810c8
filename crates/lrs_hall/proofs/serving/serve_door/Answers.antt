use Rattle.std.proofs.Common.{arith, [], refl}
use Rattle.lrs_hall.specs.Acts.{ActsOn, limit_in}
use Rattle.lrs_hall.specs.Steps.{worker}
use Rattle.lrs_hall.specs.declared.serving.ServeEnd.TheVariants as serve
use Rattle.lrs_hall.proofs.Passing.{kept_still}
use Rattle.lrs_hall.proofs.Doors.{served_none, served_so}
use Rattle.lrs_hall.proofs.serving.serve_door.Goals as goal

pub returns-in-Err-clause-served : goal.returns-in-Err-clause-served
returns-in-Err-clause-served g c =
    served_so (ActsOn (limit_in c.args.pass.now.marks)) c.args.connections _ _ _ (g.O.Door.state c.args.door.now) (g.O.Door.state c.args.door.now) (g.O.Door.state c.args.door.now) [] c.new-in-Err.result.items serve.Memory
    (served_none (ActsOn (limit_in c.args.pass.now.marks)) (worker c.args.draws.now c.args.pass.now (g.O.Door.state c.args.door.now).readings) (g.O.Door.state c.args.door.now) [] refl c.requires.out)
    refl c.requires.out refl refl c.new-in-Err.ensures.items (omega arith, refl)

pub returns-in-Err-clause-pass : goal.returns-in-Err-clause-pass
returns-in-Err-clause-pass g c = kept_still c.args.turns.now c.args.pass.now c.requires.idle
