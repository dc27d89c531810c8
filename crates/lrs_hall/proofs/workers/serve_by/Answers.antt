use Rattle.std.proofs.Common.{arith, ◌≡◌, ◌∙◌, length, ap, None}
use Rattle.lrs_machine.specs.Desk.{marks_of, tide_of}
use Rattle.lrs_hall.proofs.AllServed.{all_idle, as_many, later, opening_stays, idle_at_doors, out_at_doors, serves_doors, within}
use Rattle.lrs_hall.proofs.AtDoors.{backwards_length}
use Rattle.lrs_hall.specs.Steps.{pass_held}
use Rattle.lrs_hall.proofs.workers.serve_by.Goals as goal

pub worked-served-requires-clause-some : goal.worked-served-requires-clause-some
worked-served-requires-clause-some g c =
    let many = as_many c.args.passes.items c.args.doors.items c.args.seed c.workers_at-waiting.result.items c.workers_at-waiting.ensures in
    let some = c.requires.count.0 in
    omega (arith, many, some)

pub worked-served-requires-clause-idle : goal.worked-served-requires-clause-idle
worked-served-requires-clause-idle g c κs within =
    idle_at_doors c.args.passes.items c.args.doors.items c.args.seed c.workers_at-waiting.result.items c.workers_at-waiting.ensures c.args.turns c.args._begun.value.line (marks_of g.row.D.coded c.args._begun.value)
    (tide_of g.D.Disk.fault_count g.D.Disk.time c.args._begun.value) c.requires.opened

pub worked-served-requires-clause-out : goal.worked-served-requires-clause-out
worked-served-requires-clause-out g c κs within =
    out_at_doors c.args.passes.items c.args.doors.items c.args.seed c.workers_at-waiting.result.items c.workers_at-waiting.ensures (λ door. (g.O.Door.state door).out ≡ None) c.requires.out

pub gather-passes-requires-clause-passes : goal.gather-passes-requires-clause-passes
gather-passes-requires-clause-passes g c =
    let many = as_many c.args.passes.items c.args.doors.items c.args.seed c.workers_at-waiting.result.items c.workers_at-waiting.ensures in
    let len = c.worked-served.ensures.len in
    let room = c.requires.passes.1 in
    (c.requires.passes.0, omega (arith, many, len, room))

pub gather-passes-requires-clause-doors : goal.gather-passes-requires-clause-doors
gather-passes-requires-clause-doors g c =
    let many = as_many c.args.passes.items c.args.doors.items c.args.seed c.workers_at-waiting.result.items c.workers_at-waiting.ensures in
    let len = c.worked-served.ensures.len in
    let room = c.requires.doors.1 in
    (c.requires.doors.0, omega (arith, many, len, room))

pub gather-passes-requires-clause-talks : goal.gather-passes-requires-clause-talks
gather-passes-requires-clause-talks g c =
    let many = as_many c.args.passes.items c.args.doors.items c.args.seed c.workers_at-waiting.result.items c.workers_at-waiting.ensures in
    let len = c.worked-served.ensures.len in
    let room = c.requires.talks.1 in
    (c.requires.talks.0, omega (arith, many, len, room))

pub close-desk-requires-clause-idle : goal.close-desk-requires-clause-idle
close-desk-requires-clause-idle g c =
    all_idle g.O.Door.state c.args.turns c.args.connections c.workers_at-waiting.result.items c.worked-served.result.items c.gather-passes.result.0.items c.worked-served.ensures.len c.worked-served.ensures.each
    c.gather-passes.ensures.passes

pub close-desk-requires-clause-all : goal.close-desk-requires-clause-all
close-desk-requires-clause-all g c =
    let many = as_many c.args.passes.items c.args.doors.items c.args.seed c.workers_at-waiting.result.items c.workers_at-waiting.ensures in
    let len = c.worked-served.ensures.len in
    let back = ap length c.gather-passes.ensures.passes ∙ backwards_length pass_held c.worked-served.result.items in
    let same = c.requires.same.1 in
    omega (arith, many, len, back, same)

pub returns-clause-served : goal.returns-clause-served
returns-clause-served g c =
    let e = c.gather-passes.ensures in
    let d = c.close-desk.ensures in
    serves_doors g.row.D.coded g.O.Door.state g.D.Disk.fault_count g.D.Disk.time c.args.turns c.args.connections c.args.seed c.args._begun.value c.close-desk.result c.workers_at-waiting.result.items c.worked-served.result.items
    c.args.passes.items c.gather-passes.result.0.items c.args.doors.items c.gather-passes.result.1.items c.from_vec.result c.gather-passes.result.3
    c.workers_at-waiting.ensures c.worked-served.ensures.len c.worked-served.ensures.each c.requires.opened e.passes e.doors (c.from_vec.ensures ∙ e.talks) e.end d.fronts d.marks d.tide d.own c.requires.count.0

pub returns-clause-opening : goal.returns-clause-opening
returns-clause-opening g c =
    let e = c.gather-passes.ensures in
    let d = c.close-desk.ensures in
    opening_stays g.row.D.coded g.O.Door.state g.D.Disk.fault_count g.D.Disk.time c.args.turns c.args.connections c.args.seed c.args._begun.value c.close-desk.result c.workers_at-waiting.result.items c.worked-served.result.items
    c.args.passes.items c.gather-passes.result.0.items c.args.doors.items c.gather-passes.result.1.items c.from_vec.result c.gather-passes.result.3
    c.workers_at-waiting.ensures c.worked-served.ensures.len c.worked-served.ensures.each c.requires.opened e.passes e.doors (c.from_vec.ensures ∙ e.talks) e.end d.fronts d.marks d.tide d.own c.requires.count.0

pub returns-clause-later : goal.returns-clause-later
returns-clause-later g c =
    let e = c.gather-passes.ensures in
    let d = c.close-desk.ensures in
    later g.row.D.coded g.O.Door.state g.D.Disk.fault_count g.D.Disk.time c.args.turns c.args.connections c.args.seed c.args._begun.value c.close-desk.result c.workers_at-waiting.result.items c.worked-served.result.items
    c.args.passes.items c.gather-passes.result.0.items c.args.doors.items c.gather-passes.result.1.items c.from_vec.result c.gather-passes.result.3
    c.workers_at-waiting.ensures c.worked-served.ensures.len c.worked-served.ensures.each c.requires.opened e.passes e.doors (c.from_vec.ensures ∙ e.talks) e.end d.fronts d.marks d.tide d.own c.requires.count.0

pub returns-clause-within : goal.returns-clause-within
returns-clause-within g c =
    let e = c.gather-passes.ensures in
    let d = c.close-desk.ensures in
    within g.row.D.coded g.O.Door.state g.D.Disk.fault_count g.D.Disk.time c.args.turns c.args.connections c.args.seed c.args._begun.value c.close-desk.result c.workers_at-waiting.result.items c.worked-served.result.items
    c.args.passes.items c.gather-passes.result.0.items c.args.doors.items c.gather-passes.result.1.items c.from_vec.result c.gather-passes.result.3
    c.workers_at-waiting.ensures c.worked-served.ensures.len c.worked-served.ensures.each c.requires.opened e.passes e.doors (c.from_vec.ensures ∙ e.talks) e.end d.fronts d.marks d.tide d.own
