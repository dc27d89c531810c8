use Rattle.std.proofs.Common.{◌&&◌, nat_lt, take}
use Rattle.xapi_index.specs.XapiPostingsAscending.{is_in}
use Rattle.xapi_search.specs.Walks.{Notes}
use Rattle.xapi_search.proofs.references.note_each.Given as goal

-- those so far are noted
abbrev pub invariant-loop-position : goal.invariant-loop-position
invariant-loop-position l =
    Notes (λ k. nat_lt k l.n && is_in (take l.position-index l.positions) k) l.fn.found.keys l.found.keys l.fn.left.items l.left.items
