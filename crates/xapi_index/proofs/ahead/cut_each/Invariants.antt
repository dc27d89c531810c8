use Rattle.std.proofs.Common.{take}
use Rattle.xapi_index.specs.Ahead.{ChangesEach}
use Rattle.xapi_index.specs.Index.{is_coming, lists_of}
use Rattle.xapi_postings.specs.Ascending.{below}
use Rattle.xapi_index.proofs.ahead.cut_each.Given as goal

abbrev pub invariant-loop-keys : goal.invariant-loop-keys
invariant-loop-keys l = ChangesEach (λ k. is_coming k (lists_of (take l.keys-index l.coming))) (below l.n) l.fn.postings l.postings
