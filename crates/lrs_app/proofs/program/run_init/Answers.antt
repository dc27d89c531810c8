use Rattle.lrs_app.proofs.Running.{init_runs, is_taken, same_doors, takes_file}
use Rattle.lrs_app.proofs.program.run_init.Goals as goal

pub returns : goal.returns
returns g c =
    let taken = c.take-taken in
    let o = c.end_run in
    init_runs g.S.Disk.Disk g.S.Shelf g.B.Lobby g.I.Source g.O.Sink c.args.shelf.now taken.new.self c.args.lobby.now c.now-clock.new.self c.args.input.now c.args.input.now c.args.out.now o.new.out
    c.args.file.now c.init.result o.result o.ensures.disk o.ensures.old o.ensures.report
    (takes_file (g.S.Shelf.taken c.args.shelf.now) (g.S.Shelf.taken taken.new.self) c.as_str.ensures.lent taken.ensures.taken) o.ensures.printed
    taken.result c.args.admin.now c.args.base.now c.args.limit c.now-clock.result c.now-clock.ensures.read
    (same_doors c.now-clock.ensures.asked_kept c.now-clock.ensures.returned_kept c.now-clock.ensures.same)
    (is_taken g.S.Disk.Disk _ _ taken.result c.as_str.ensures.lent taken.ensures.told taken.ensures.begins taken.ensures.starts taken.ensures.cause)
    c.init.ensures
