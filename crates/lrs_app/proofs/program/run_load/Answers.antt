use Rattle.std.proofs.Common.{subst}
use Rattle.lrs_hall.specs.Draws.{start_of}
use Rattle.lrs_app.specs.Doing.{LoadDoes}
use Rattle.lrs_app.proofs.Running.{is_taken, load_runs, takes_file}
use Rattle.lrs_app.proofs.program.run_load.Goals as goal

pub returns : goal.returns
returns g c =
    let taken = c.take-taken in
    let o = c.end_run in
    load_runs g.S.Disk.Disk g.S.Shelf g.B.Lobby g.I.Source g.O.Sink c.args.shelf.now taken.new.self c.args.lobby.now c.load-done.new.lobby c.args.input.now c.args.input.now c.args.out.now o.new.out
    c.args.file.now c.load-done.result o.result o.ensures.disk o.ensures.old o.ensures.report
    (takes_file (g.S.Shelf.taken c.args.shelf.now) (g.S.Shelf.taken taken.new.self) c.as_str.ensures.lent taken.ensures.taken) o.ensures.printed
    taken.result c.args.number c.args.count (start_of c.args.seed 0) c.load-done.ensures.doors
    (is_taken g.S.Disk.Disk _ _ taken.result c.as_str.ensures.lent taken.ensures.told taken.ensures.begins taken.ensures.starts taken.ensures.cause)
    (subst (λ p. LoadDoes g.S.Disk.Disk g.B.Lobby taken.result c.args.number c.args.count p c.args.lobby.now c.load-done.new.lobby c.load-done.result) c.new-draws.ensures c.load-done.ensures.loads)
