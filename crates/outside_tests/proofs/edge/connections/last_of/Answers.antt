use Rattle.std.proofs.Common.{All, subst, sym}
use Rattle.std.proofs.lemmas.List.Elements.{All-take}
use Rattle.lrs_disk.specs.Door.{IsFresh}
use Rattle.lrs_edge.specs.TcpDoor.{state_of}
use Rattle.lrs_edge.specs.declared.door.TcpDoor.{TcpDoor}
use Rattle.outside_tests.proofs.edge.connections.last_of.Goals as goal

pub returns-in-Some-clause-rest : goal.returns-in-Some-clause-rest
returns-in-Some-clause-rest c =
    let P : TcpDoor _ → Type 0 = λ door. IsFresh (state_of door) in subst (All P) (sym c.pop.ensures.rest) (All-take P _ c.args.doors.now.items c.requires)

pub returns-in-None-clause-rest : goal.returns-in-None-clause-rest
returns-in-None-clause-rest c =
    let P : TcpDoor _ → Type 0 = λ door. IsFresh (state_of door) in subst (All P) (sym c.pop.ensures.rest) (All-take P _ c.args.doors.now.items c.requires)
