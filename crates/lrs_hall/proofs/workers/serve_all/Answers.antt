use Rattle.std.proofs.Common.{arith, ◌≡◌, ◌≤◌, List, map, refl, subst, sym, inl, inr}
use Rattle.std.specs.List.{AllByRecursion}
use Rattle.std.specs.Prelude.{All}
use Rattle.lrs_machine.specs.Desk.{IsOnDisk, marks_of, tide_of}
use Rattle.lrs_machine.specs.Origin.{IsOfOrigin}
use Rattle.lrs_turn.specs.Passes.{opened}
use Rattle.lrs_hall.specs.Serving.{AreWithin, all_receipts, tide_at}
use Rattle.lrs_hall.specs.Talks.{Talk}
use Rattle.lrs_hall.specs.Workers.{HasSameOpening, ServesDoors}
use Rattle.lrs_hall.proofs.workers.serve_all.Goals as goal

pub serve_by-requires-clause-opened : goal.serve_by-requires-clause-opened
serve_by-requires-clause-opened g c κs within =
    subst (λ d. All (λ p. p ≡ opened c.in-Ok.ready.0 d.line (marks_of g.row.D.coded d) (tide_of g.D.Disk.fault_count g.D.Disk.time d)) c.in-Ok.ready.1.items) (sym c.of-begun.ensures) c.in-Ok.ensures.opened

pub serve_by-requires-clause-durable : goal.serve_by-requires-clause-durable
serve_by-requires-clause-durable g c κs within = subst (IsOnDisk g.D.Disk.told g.D.Disk.image g.D.Disk.time g.D.Disk.image_since) (sym c.of-begun.ensures) c.show.ensures.durable

pub returns-in-Ok-clause-served : goal.returns-in-Ok-clause-served
returns-in-Ok-clause-served g c =
    inl (subst (λ d. ServesDoors d.limit d.line c.serve_by.result.0.line (tide_at g.D.Disk.fault_count g.D.Disk.time d.disk) (tide_at g.D.Disk.fault_count g.D.Disk.time c.serve_by.result.0.disk) c.args.connections c.args.seed (map g.O.Door.state c.args.doors.items) (map g.O.Door.state c.serve_by.result.1.items) c.serve_by.result.2 c.serve_by.result.3)
    c.of-begun.ensures c.serve_by.ensures.served)

pub returns-in-Ok-clause-opening : goal.returns-in-Ok-clause-opening
returns-in-Ok-clause-opening g c = subst (λ d. HasSameOpening d c.serve_by.result.0) c.of-begun.ensures c.serve_by.ensures.opening

pub returns-in-Ok-clause-later : goal.returns-in-Ok-clause-later
returns-in-Ok-clause-later g c = subst (λ d. g.D.Disk.fault_count d.disk ≤ g.D.Disk.fault_count c.serve_by.result.0.disk) c.of-begun.ensures c.serve_by.ensures.later

pub returns-in-Ok-clause-within : goal.returns-in-Ok-clause-within
returns-in-Ok-clause-within g c =
    subst (λ d. AllByRecursion (λ (talks : List Talk). AreWithin (tide_at g.D.Disk.fault_count g.D.Disk.time d.disk) (tide_at g.D.Disk.fault_count g.D.Disk.time c.serve_by.result.0.disk) (all_receipts talks)) c.serve_by.result.2)
    c.of-begun.ensures c.serve_by.ensures.within

pub returns-in-Err-clause-served : goal.returns-in-Err-clause-served
returns-in-Err-clause-served g c = inr record { desk = c.in-Err.ensures.back; doors = refl; silent = c.new.ensures; wanting = refl }

pub returns-in-Err-clause-opening : goal.returns-in-Err-clause-opening
returns-in-Err-clause-opening g c = subst (λ d. HasSameOpening c.args.desk d) (sym c.in-Err.ensures.back) (record { limit = refl; opened_at = refl; opened = refl; origin = refl })

pub returns-in-Err-clause-later : goal.returns-in-Err-clause-later
returns-in-Err-clause-later g c = subst (λ d. g.D.Disk.fault_count c.args.desk.disk ≤ g.D.Disk.fault_count d.disk) (sym c.in-Err.ensures.back) (omega arith)

pub returns-in-Err-clause-within : goal.returns-in-Err-clause-within
returns-in-Err-clause-within g c =
    subst (λ ts. AllByRecursion (λ (talks : List Talk). AreWithin (tide_at g.D.Disk.fault_count g.D.Disk.time c.args.desk.disk) (tide_at g.D.Disk.fault_count g.D.Disk.time c.in-Err.desk.disk) (all_receipts talks)) ts) (sym c.new.ensures) tt

pub returns-in-Err-clause-durable : goal.returns-in-Err-clause-durable
returns-in-Err-clause-durable g c = subst (IsOnDisk g.D.Disk.told g.D.Disk.image g.D.Disk.time g.D.Disk.image_since) (sym c.in-Err.ensures.back) c.show.ensures.durable

pub returns-in-Err-clause-origin : goal.returns-in-Err-clause-origin
returns-in-Err-clause-origin g c = subst (IsOfOrigin g.D.Disk.told g.D.Disk.time g.D.Disk.image_since) (sym c.in-Err.ensures.back) c.show.ensures.origin
