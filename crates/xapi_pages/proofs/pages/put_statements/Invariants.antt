use Rattle.std.proofs.Common.{◌≡◌, ◌++◌, false, drop}
use Rattle.xapi_pages.specs.Listings.{items_text}
use Rattle.xapi_pages.proofs.pages.put_statements.Given as goal

-- the body so far, and the text of what is left
abbrev pub invariant-loop-position : goal.invariant-loop-position
invariant-loop-position l =
    l.body.items ++ items_text l.format l.index.held l.later (drop l.position-index l.positions)
    ≡ l.fn.body.items ++ items_text l.format l.index.held false l.positions
