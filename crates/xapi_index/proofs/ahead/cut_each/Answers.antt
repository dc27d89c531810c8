use Rattle.std.proofs.Common.{◌+◌, refl, subst, take}
use Rattle.std.proofs.lemmas.List.{take_all}
use Rattle.xapi_index.specs.Ahead.{ChangesEach}
use Rattle.xapi_index.specs.Index.{is_coming, lists_of}
use Rattle.xapi_index.proofs.Changing.{below_again, changed_more}
use Rattle.xapi_index.proofs.Keyed.{coming_more}
use Rattle.xapi_postings.specs.Ascending.{below}
use Rattle.xapi_postings.specs.XapiStatementKeysKeys.{is_among}
use Rattle.xapi_index.proofs.ahead.cut_each.Goals as goal

pub loop-keys-init : goal.loop-keys-init
loop-keys-init c = λ k. refl

pub loop-keys-preserved : goal.loop-keys-preserved
loop-keys-preserved c =
    let at = c.loop-keys in
    let xs = c.args.coming.now in
    let x = c.keys-item.result in
    changed_more (λ k. is_coming k (lists_of (take at.keys-index xs))) (λ k. is_among k x.items.items) (λ k. is_coming k (lists_of (take (at.keys-index + 1) xs))) (below c.args.n) c.args.postings.now at.postings
    c.cut_keys.new.postings (below_again c.args.n) (λ k. coming_more k xs at.keys-index x c.loop-keys-test.true c.keys-item.is) at.invariant
    (subst (λ ks. ChangesEach (λ k. is_among k ks) (below c.args.n) at.postings c.cut_keys.new.postings) c.as_slice.ensures.value c.cut_keys.ensures)

pub returns : goal.returns
returns c =
    subst (λ xs. ChangesEach (λ k. is_coming k (lists_of xs)) (below c.args.n) c.args.postings.now c.loop-keys.postings) (take_all c.loop-keys.keys-index c.args.coming.now c.loop-keys-test.false) c.loop-keys.invariant
