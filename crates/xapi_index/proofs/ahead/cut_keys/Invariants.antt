use Rattle.std.proofs.Common.{take}
use Rattle.xapi_index.specs.Ahead.{ChangesEach}
use Rattle.xapi_postings.specs.Ascending.{below}
use Rattle.xapi_postings.specs.XapiStatementKeysKeys.{is_among}
use Rattle.xapi_index.proofs.ahead.cut_keys.Given as goal

abbrev pub invariant-loop-key : goal.invariant-loop-key
invariant-loop-key l = ChangesEach (λ k. is_among k (take l.key-index l.keys)) (below l.n) l.fn.postings l.postings
