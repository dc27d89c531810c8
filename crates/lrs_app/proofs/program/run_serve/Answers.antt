use Rattle.lrs_app.proofs.Running.{is_taken, serve_runs, takes_file}
use Rattle.lrs_app.proofs.program.run_serve.Goals as goal

pub returns : goal.returns
returns g c =
    let taken = c.take-taken in
    let o = c.end_run in
    serve_runs g.S.Disk.Disk g.S.Shelf g.B.Lobby g.I.Source g.O.Sink c.args.shelf.now taken.new.self c.args.lobby.now c.serve-done.new.lobby c.args.input.now c.args.input.now c.args.out.now o.new.out
    c.args.file.now c.serve-done.result o.result o.ensures.disk o.ensures.old o.ensures.report
    (takes_file (g.S.Shelf.taken c.args.shelf.now) (g.S.Shelf.taken taken.new.self) c.as_str.ensures.lent taken.ensures.taken) o.ensures.printed
    taken.result c.args.address.now c.args.workers c.args.connections c.args.seed c.serve-done.ensures.readings
    (is_taken g.S.Disk.Disk _ _ taken.result c.as_str.ensures.lent taken.ensures.told taken.ensures.begins taken.ensures.starts taken.ensures.cause)
    c.serve-done.ensures.serves
