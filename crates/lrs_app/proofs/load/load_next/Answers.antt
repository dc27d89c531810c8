use Rattle.std.proofs.Common.{inl, refl}
use Rattle.lrs_hall.specs.LrsMachineDesk.{history}
use Rattle.lrs_app.proofs.Batches.{batch_lawful, batch_says}
use Rattle.lrs_app.proofs.Loading.{posted_next}
use Rattle.lrs_app.proofs.Running.{same_doors}
use Rattle.lrs_app.proofs.load.load_next.Goals as goal
use Rattle.xapi_index.proofs.Succeeding.{given_ok}

pub post_batch-requires-clause-lawful : goal.post_batch-requires-clause-lawful
post_batch-requires-clause-lawful g c =
    let of = c.args.generator.now in
    batch_lawful of.seed of.count of.taken c.requires.seed c.requires.count c.requires.left c.in-Ok.statements c.in-Ok.ensures.made

pub post_batch-requires-clause-known : goal.post_batch-requires-clause-known
post_batch-requires-clause-known g c =
    let of = c.args.generator.now in
    batch_says of.seed of.count of.taken c.requires.seed c.requires.count c.requires.left c.in-Ok.statements c.in-Ok.ensures.made
    c.args.desk.now.limit (history c.args.desk.now) c.now-clock.result c.next-draw.result

pub returns-in-Ok-clause-next : goal.returns-in-Ok-clause-next
returns-in-Ok-clause-next g c =
    let of = c.args.generator.now in
    posted_next g.D.Disk of.seed of.count of.taken c.args.desk.now c.post_batch.new.desk c.args.draws.now c.next-draw.new.self c.next-draw.result
    (g.B.Lobby.readings c.args.lobby.now) (g.B.Lobby.readings c.now-clock.new.self) c.now-clock.result c.in-Ok.statements c.post_batch.result
    c.next-draw.ensures.drawn c.next-draw.ensures.moved c.now-clock.ensures.read c.in-Ok.ensures.made c.post_batch.ensures.goes_on c.post_batch.ensures.ends

pub returns-in-Ok-clause-moved : goal.returns-in-Ok-clause-moved
returns-in-Ok-clause-moved g c = given_ok c.post_batch.result c.in-Ok.ensures.moved

pub returns-in-Ok-clause-doors : goal.returns-in-Ok-clause-doors
returns-in-Ok-clause-doors g c = same_doors c.now-clock.ensures.asked_kept c.now-clock.ensures.returned_kept c.now-clock.ensures.same

pub returns-in-Err-clause-next : goal.returns-in-Err-clause-next
returns-in-Err-clause-next g c = inl (record { reads = refl; same = refl; ended = refl })
