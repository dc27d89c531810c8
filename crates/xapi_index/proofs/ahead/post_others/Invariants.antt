use Rattle.std.proofs.Common.{take}
use Rattle.xapi_index.specs.Ahead.{ChangesEach, is_other}
use Rattle.xapi_postings.specs.Postings.{posted}
use Rattle.xapi_index.proofs.ahead.post_others.Given as goal

abbrev pub invariant-loop-key : goal.invariant-loop-key
invariant-loop-key l = ChangesEach (is_other l.own (take l.key-index l.keys)) (posted l.position) l.fn.postings l.postings
