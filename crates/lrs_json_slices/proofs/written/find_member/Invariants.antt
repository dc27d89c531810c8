use Rattle.std.proofs.Common.{◌≡◌}
use Rattle.lrs_json.specs.Find.{find_member}
use Rattle.lrs_json.specs.Parts.{count_members}
use Rattle.lrs_json_slices.proofs.written.find_member.Given as goal

abbrev pub invariant-loop-part : goal.invariant-loop-part
invariant-loop-part l = find_member l.name l.left ≡ find_member l.name l.fn.members

abbrev pub decreases-loop-part : goal.decreases-loop-part
decreases-loop-part l = count_members l.left
