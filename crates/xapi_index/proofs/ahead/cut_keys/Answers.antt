use Rattle.std.proofs.Common.{◌+◌, refl, subst, take}
use Rattle.std.proofs.lemmas.List.{take_all}
use Rattle.xapi_index.specs.Ahead.{ChangesEach}
use Rattle.xapi_index.proofs.Changing.{below_again, changed_more}
use Rattle.xapi_index.proofs.Keyed.{among_more}
use Rattle.xapi_postings.specs.Ascending.{below}
use Rattle.xapi_postings.specs.XapiStatementKeysKeys.{is_among, is_same_key}
use Rattle.xapi_index.proofs.ahead.cut_keys.Goals as goal

pub loop-key-init : goal.loop-key-init
loop-key-init c = λ k. refl

pub loop-key-preserved : goal.loop-key-preserved
loop-key-preserved c =
    let at = c.loop-key in
    let xs = c.args.keys.now in
    let x = c.key-item.result in
    changed_more (λ k. is_among k (take at.key-index xs)) (λ k. is_same_key x k) (λ k. is_among k (take (at.key-index + 1) xs)) (below c.args.n) c.args.postings.now at.postings c.cut.new.self
    (below_again c.args.n) (λ k. among_more k xs at.key-index x c.loop-key-test.true c.key-item.is) at.invariant c.cut.ensures

pub returns : goal.returns
returns c =
    subst (λ xs. ChangesEach (λ k. is_among k xs) (below c.args.n) c.args.postings.now c.loop-key.postings) (take_all c.loop-key.key-index c.args.keys.now c.loop-key-test.false) c.loop-key.invariant
