use Rattle.lrs_app.proofs.Due.{ends_as_due, idle_as_due}
use Rattle.lrs_app.proofs.program.run.Goals as goal

pub returns-in-Ok-clause-due : goal.returns-in-Ok-clause-due
returns-in-Ok-clause-due g c = ends_as_due g.S.Disk.Disk c.args.seed _ _ c.run_found-ended.result c.args.words.now c.run_found-ended.ensures

pub returns-in-Err-clause-due : goal.returns-in-Err-clause-due
returns-in-Err-clause-due g c =
    idle_as_due g.S.Disk.Disk g.S.Shelf g.B.Lobby g.I.Source g.O.Sink c.args.shelf.now c.args.lobby.now c.args.input.now c.args.out.now c.end_run.new.out c.args.words.now c.args.seed
    c.undone.result c.end_run.result c.undone.ensures c.end_run.ensures.disk c.end_run.ensures.old c.end_run.ensures.report c.end_run.ensures.printed
