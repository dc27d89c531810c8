use Rattle.std.proofs.Common.{Ok, refl}
use Rattle.lrs_app.specs.Run.{outside}
use Rattle.lrs_app.proofs.Migration.{keeps_other, migrates, migrates_none}
use Rattle.lrs_app.proofs.Running.{is_taken, takes_file}
use Rattle.lrs_app.proofs.program.run_migrate.Goals as goal

pub returns-in-Ok : goal.returns-in-Ok
returns-in-Ok g c =
    let seen = outside g.S.Shelf g.B.Lobby g.I.Source g.O.Sink in
    let first = c.in-Ok.ensures in
    let second = c.take-taken in
    let o = c.end_run in
    migrates g.S.Disk.Disk (seen c.args.shelf.now c.args.lobby.now c.args.input.now c.args.out.now) (seen second.new.self c.args.lobby.now c.args.input.now o.new.out)
    c.args.old.now c.args.new.now c.args.limit c.migrate.result o.result o.ensures.disk o.ensures.old o.ensures.report refl refl o.ensures.printed
    (seen c.take.new.self c.args.lobby.now c.args.input.now c.args.out.now) c.in-Ok.disk first.settled g.met.S.Disk.Disk.only_now
    (takes_file (g.S.Shelf.taken c.args.shelf.now) (g.S.Shelf.taken c.take.new.self) c.as_str.ensures.lent first.taken)
    (takes_file (g.S.Shelf.taken c.take.new.self) (g.S.Shelf.taken second.new.self) c.as_str-in-Ok.ensures.lent second.ensures.taken)
    (is_taken g.S.Disk.Disk _ _ (Ok c.in-Ok.disk) c.as_str.ensures.lent first.told first.begins first.starts first.cause)
    (keeps_other g.S.Shelf c.args.shelf.now c.take.new.self c.args.new.now c.as_str.ensures.lent c.requires.differ first.others)
    second.result (is_taken g.S.Disk.Disk _ _ second.result c.as_str-in-Ok.ensures.lent second.ensures.told second.ensures.begins second.ensures.starts second.ensures.cause) c.migrate.ensures

pub returns-in-Err : goal.returns-in-Err
returns-in-Err g c =
    let seen = outside g.S.Shelf g.B.Lobby g.I.Source g.O.Sink in
    let o = c.end_run-in-Err in
    migrates_none g.S.Disk.Disk (seen c.args.shelf.now c.args.lobby.now c.args.input.now c.args.out.now) (seen c.take.new.self c.args.lobby.now c.args.input.now o.new.out)
    c.args.old.now c.args.new.now c.args.limit c.undone.result o.result o.ensures.disk o.ensures.old o.ensures.report refl refl o.ensures.printed
    c.undone.ensures (takes_file (g.S.Shelf.taken c.args.shelf.now) (g.S.Shelf.taken c.take.new.self) c.as_str.ensures.lent c.take.ensures.taken) (c.in-Err.ensures.cause.failed refl)
