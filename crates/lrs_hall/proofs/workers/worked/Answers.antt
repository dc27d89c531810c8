use denote.Param.{param}
use denote.Param.Send.{sendable, param_send, arg_send}
use denote.Exit.{yes}
use mathlib.Core.List.{[]}
use Rattle.std.proofs.Common.{rules, subst, sym}
use Rattle.std.specs.Prelude.{◌≡◌, ◌<◌, List, All, length, None}
use Rattle.lrs_turn.specs.Passes.{IsIdle}
use Rattle.lrs_machine.proofs.Sent.{desk_sent, record_sent}
use Rattle.lrs_machine.specs.contracts.desk.Desk as Desk
use Rattle.lrs_hall.specs.declared.workers.DoorWorker.{DoorWorker}
use Rattle.lrs_hall.proofs.workers.worked.Lts as lts
use Rattle.lrs_hall.proofs.workers.worked.Goals as goal

-- The row of the desk is named, since to find it the search would compare all that a desk holds.
pub work_all-requires : goal.work_all-requires
work_all-requires g c = (
  param_send 1 (lts.arg-1-1 g.row.R g.row.D g.row.O g.row.O-Link g.R.laws g.D.laws g.O.laws g.O.Link.laws g.R.Threads g.R.Threads-dict g.R.Wait g.R.Wait-dict g.D.Disk g.D.Disk-dict g.O.Door g.O.Door-dict g.O.Link.Link g.O.Link.Link-dict g.D.Destruct-dict g.O.Destruct-dict g.O.Link.Destruct-dict ([], ([], ([], ([], ([], ([], ([], ([], tt)))))))))
      (arg_send _ yes (Desk.the_row (param 1 g.row.D) g.D.Disk) (desk_sent (param 1 g.row.D) g.D.Disk c.type_bounds.send-D)),
  (
    search (rules, sendable, c.type_bounds.send-O) depth 20,
    (
      search (rules, sendable, record_sent) depth 20,
      (
        search (rules, sendable, c.type_bounds.send-O-Link) depth 20,
        (
          search (rules, sendable, c.type_bounds.sync-R) depth 20,
          subst (λ (ws : List (DoorWorker g.row.O.Denot)). (0 < length ws)
              × (All (λ w. IsIdle c.args.turns.now w.pass) ws × All (λ w. (g.O.Door.state w.door).out ≡ None) ws))
              (sym c.as_mut_slice.ensures.value) (c.requires.some, (c.requires.idle, c.requires.out)),
        ),
      ),
    ),
  ),
)
