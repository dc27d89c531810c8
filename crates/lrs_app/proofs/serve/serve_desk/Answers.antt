use Rattle.std.proofs.Common.{◌≡◌, true, map, inr, ap, ◌∙◌}
use Rattle.lrs_app.specs.Service.{ending_of_serving}
use Rattle.lrs_app.proofs.Openings.{still_goes}
use Rattle.lrs_app.proofs.Serving.{begun_later, had_doors, of_all, of_none, served_begins, went_on}
use Rattle.lrs_hall.specs.Serving.{IsWithin, tide_at}
use Rattle.lrs_hall.specs.LrsMachineActs.{Receipt}
use Rattle.lrs_app.proofs.serve.serve_desk.Goals as goal

pub returns-in-Ok-clause-served : goal.returns-in-Ok-clause-served
returns-in-Ok-clause-served g c =
    let openings = map g.B.Door.Door.state c.in-Ok.doors.items in
    let closings = map g.B.Door.Door.state c.serve_all-desk.result.1.items in
    inr (record {
      openings = openings;
      closings = closings;
      doors = had_doors g.B.Door.Door.state c.in-Ok.doors.items c.as_str.result.now c.args.address.now c.args.workers (g.B.Lobby.asked c.args.lobby.now) (g.B.Lobby.asked c.doors.new.self) (g.B.Lobby.asked c.back.new.self)
          (g.B.Lobby.returned c.args.lobby.now) (g.B.Lobby.returned c.doors.new.self) (g.B.Lobby.returned c.back.new.self)
          (g.B.Lobby.fault_count c.args.lobby.now) (g.B.Lobby.fault_count c.doors.new.self) (g.B.Lobby.fault_count c.back.new.self) closings
          c.as_str.ensures.lent c.in-Ok.ensures.number c.in-Ok.ensures.fresh c.in-Ok.ensures.asked c.back.ensures.asked_kept c.in-Ok.ensures.returned_kept c.back.ensures.returned c.in-Ok.ensures.cause c.back.ensures.cause;
      why = c.serve_all-desk.result.3;
      serves = c.serve_all-desk.ensures.served;
      ended = c.served-ending.ensures ∙ ap (ending_of_serving c.serve_all-desk.result.3) c.as_slice.ensures;
    })

pub returns-in-Ok-clause-goes_on : goal.returns-in-Ok-clause-goes_on
returns-in-Ok-clause-goes_on g c =
    let e = c.serve_all-desk.ensures in
    went_on g.D.Disk c.args.desk c.serve_all-desk.result.0 c.requires.opened c.requires.origin.0 c.requires.origin.1 e.opening
    (served_begins (tide_at g.D.Disk.fault_count g.D.Disk.time) c.args.desk c.serve_all-desk.result.0 c.args.connections c.args.seed _ _ c.serve_all-desk.result.2 c.serve_all-desk.result.3 e.served)
    (begun_later g.D.Disk c.args.desk c.serve_all-desk.result.0 c.requires.opened e.opening e.durable) e.origin

pub returns-in-Ok-clause-within : goal.returns-in-Ok-clause-within
returns-in-Ok-clause-within g c =
    of_all (λ (receipt : Receipt). receipt.acted ≡ true → IsWithin (tide_at g.D.Disk.fault_count g.D.Disk.time c.args.desk.disk) (tide_at g.D.Disk.fault_count g.D.Disk.time c.serve_all-desk.result.0.disk) receipt)
    c.serve_all-desk.result.2 c.serve_all-desk.ensures.within

pub returns-in-Err-clause-goes_on : goal.returns-in-Err-clause-goes_on
returns-in-Err-clause-goes_on g c =
    let laws = g.met.D.Disk g.world.𝓛 g.world.𝓜 g.world.𝓡 ((λ s x. x), (λ x. x), (λ x. x), λ x. x) in
    still_goes g.D.Disk laws.counts_now laws.only_now c.args.desk c.requires.opened

pub returns-in-Err-clause-within : goal.returns-in-Err-clause-within
returns-in-Err-clause-within g c =
    of_none (λ (receipt : Receipt). receipt.acted ≡ true → IsWithin (tide_at g.D.Disk.fault_count g.D.Disk.time c.args.desk.disk) (tide_at g.D.Disk.fault_count g.D.Disk.time c.args.desk.disk) receipt) c.new.result c.new.ensures

pub returns-in-Ok-clause-later : goal.returns-in-Ok-clause-later
returns-in-Ok-clause-later g c = c.serve_all-desk.ensures.later

pub returns-in-Ok-clause-readings : goal.returns-in-Ok-clause-readings
returns-in-Ok-clause-readings g c = c.back.ensures.readings_kept ∙ c.in-Ok.ensures.readings_kept

pub returns-in-Err-clause-readings : goal.returns-in-Err-clause-readings
returns-in-Err-clause-readings g c = c.in-Err.ensures.readings_kept
