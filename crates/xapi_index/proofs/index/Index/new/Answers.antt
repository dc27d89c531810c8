use Rattle.std.proofs.Common.{ap, true}
use Rattle.xapi_index.specs.Index.{lists_of}
use Rattle.xapi_index.proofs.Standing.{empty_index}
use Rattle.xapi_index.proofs.index.Index.new.Goals as goal

pub invariant_of-result : goal.invariant_of-result
invariant_of-result c =
    empty_index c.new-held.result.items c.new-postings.result (lists_of c.new-coming.result.items) true c.new-held.ensures.items c.new-postings.ensures (ap (λ xs. lists_of xs) c.new-coming.ensures.items)
