use Rattle.std.proofs.Common.{subst}
use Rattle.lrs_hall.specs.Draws.{draw_at, start_of}
use Rattle.lrs_app.specs.Doing.{IntakeDoes}
use Rattle.lrs_app.proofs.Running.{intake_runs, is_taken, same_doors, takes_file}
use Rattle.lrs_app.proofs.program.run_intake.Goals as goal

pub returns : goal.returns
returns g c =
    let taken = c.take-taken in
    let now = c.now-clock in
    let o = c.end_run in
    intake_runs g.S.Disk.Disk g.S.Shelf g.B.Lobby g.I.Source g.O.Sink c.args.shelf.now taken.new.self c.args.lobby.now now.new.self c.args.input.now c.intake.new.input c.args.out.now o.new.out
    c.args.file.now c.intake.result o.result o.ensures.disk o.ensures.old o.ensures.report
    (takes_file (g.S.Shelf.taken c.args.shelf.now) (g.S.Shelf.taken taken.new.self) c.as_str.ensures.lent taken.ensures.taken) o.ensures.printed
    taken.result now.result (draw_at (start_of c.args.seed 0)) now.ensures.read
    (same_doors now.ensures.asked_kept now.ensures.returned_kept now.ensures.same)
    (is_taken g.S.Disk.Disk _ _ taken.result c.as_str.ensures.lent taken.ensures.told taken.ensures.begins taken.ensures.starts taken.ensures.cause)
    (subst (λ d. IntakeDoes g.S.Disk.Disk g.I.Source taken.result now.result d c.args.input.now c.intake.new.input c.intake.result) c.first_draw-draw.ensures c.intake.ensures)
