use denote.Param.Send.{sendable}
use Rattle.std.proofs.Common.{rules}
use Rattle.lrs_machine.proofs.Sent.{desk_sent}
use Rattle.lrs_machine.proofs.desk.may_cross.Goals as goal

pub moves-requires-send-T : goal.moves-requires-send-T
moves-requires-send-T g c κs within = search (rules, sendable, desk_sent) depth 20
