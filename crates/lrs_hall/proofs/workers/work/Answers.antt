use Rattle.std.proofs.Common.{List, subst, sym}
use Rattle.lrs_hall.specs.Acts.{ActsOn, limit_in}
use Rattle.lrs_hall.specs.Steps.{Served, worker}
use Rattle.lrs_hall.specs.Talks.{Talk}
use Rattle.lrs_hall.proofs.workers.work.Goals as goal

pub returns : goal.returns
returns g c =
    let e = c.serve_door-talks.ensures in
    record {
      served = subst
          (λ (ts : List Talk). Served (ActsOn (limit_in c.args.worker.now.pass.marks)) c.args.connections
          (worker c.args.worker.now.draws c.args.worker.now.pass (g.O.Door.state c.args.worker.now.door).readings)
          (worker c.serve_door-talks.new.draws c.serve_door-talks.new.pass (g.O.Door.state c.serve_door-talks.new.door).readings)
          (g.O.Door.state c.args.worker.now.door) (g.O.Door.state c.serve_door-talks.new.door) ts c.serve_door-talks.result.1)
          (sym c.from_vec.ensures) e.served;
      pass = e.pass;
    }
