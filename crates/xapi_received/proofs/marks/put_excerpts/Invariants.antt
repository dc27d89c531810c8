use Rattle.std.proofs.Common.{◌≡◌, ◌++◌, length}
use Rattle.lrs_json.specs.Written.{Extends}
use Rattle.xapi_received.specs.Received.{AreWithin, excerpts_text}
use Rattle.xapi_received.proofs.marks.put_excerpts.Given as goal

-- with what is left, the excerpts are whole
abbrev pub invariant-loop-left : goal.invariant-loop-left
invariant-loop-left l =
    Extends l.fn.into.items l.into.items × AreWithin (length l.text) l.left
    × (l.into.items ++ excerpts_text l.text l.left ≡ l.fn.into.items ++ excerpts_text l.text l.excerpts)

abbrev pub decreases-loop-left : goal.decreases-loop-left
decreases-loop-left l = length l.left
