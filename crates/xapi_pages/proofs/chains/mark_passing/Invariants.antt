use Rattle.std.proofs.Common.{◌≡◌, ℕ, drop}
use Rattle.xapi_pages.proofs.Ways.{made_of}
use Rattle.xapi_pages.proofs.chains.mark_passing.Given as goal

-- what the positions that are left make of the marks is what all make of those at first
abbrev pub invariant-loop-position : goal.invariant-loop-position
invariant-loop-position l = (k : ℕ) → made_of (drop l.position-index l.path) l.marks k ≡ made_of l.path l.fn.marks k
