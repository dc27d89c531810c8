use Rattle.std.proofs.Common.{subst, sym}
use Rattle.std.proofs.Common.{All}
use Rattle.std.proofs.lemmas.List.Elements.{All-drop}
use Rattle.lrs_in_memory_doors.specs.MemLink.{IsUnusedLink}
use Rattle.lrs_in_memory_doors.proofs.door.MemDoorDoor.next.Goals as goal

pub invariant_of-self-in-Some-clause-unused : goal.invariant_of-self-in-Some-clause-unused
invariant_of-self-in-Some-clause-unused c = subst (All IsUnusedLink) (sym c.pop_front.ensures.rest) (All-drop IsUnusedLink 1 c.args.self.now.coming.items c.args.self.now.unused)
