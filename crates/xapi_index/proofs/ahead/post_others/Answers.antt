use Rattle.std.proofs.Common.{◌+◌, ◌∙◌, true, false, cond, ap, refl, subst, sym, take}
use Rattle.std.proofs.lemmas.List.{take_all}
use Rattle.xapi_index.specs.Ahead.{ChangesEach, is_other}
use Rattle.xapi_index.proofs.Changing.{changed_more, changed_same, changed_some, posted_again}
use Rattle.xapi_index.proofs.Keyed.{among_more}
use Rattle.xapi_index.proofs.Posting.{other_front, other_more, other_same}
use Rattle.xapi_postings.proofs.Changing.{told_apart, told_same}
use Rattle.xapi_postings.specs.Postings.{posted, posting_of}
use Rattle.xapi_postings.specs.XapiStatementKeysKeys.{is_among, is_same_key}
use Rattle.xapi_index.proofs.ahead.post_others.Goals as goal
use Rattle.xapi_index.proofs.ahead.post_others.Goals.{then-ne+in_ok-post, else-ne}

pub loop-key-init : goal.loop-key-init
loop-key-init c = λ k. refl

pub loop-key-preserved : goal.loop-key-preserved
loop-key-preserved c =
    let at = c.loop-key in
    let own = c.args.own.now in
    let xs = c.args.keys.now in
    let x = c.key-item.result in
    let old = c.args.postings.now in
    let change = posted c.args.position in
    elim c.if-ne.branch [
      | then-ne+in_ok-post w ↦
          rw w.postings-is
          (changed_more (is_other own (take at.key-index xs)) (λ k. is_same_key x k) (is_other own (take (at.key-index + 1) xs)) change old at.postings w.post.new.self (posted_again c.args.position)
          (λ k. other_more own x k (is_among k (take at.key-index xs)) (is_among k (take (at.key-index + 1) xs)) (among_more k xs at.key-index x c.loop-key-test.true c.key-item.is)
          (told_apart x own c.ne.result c.ne.ensures w.if-ne.true)) at.invariant w.in_ok-post.ensures.posted)
      | else-ne w ↦
          rw w.postings-is
          (λ k. at.invariant k ∙ ap (λ b. cond b (change (posting_of k old)) (posting_of k old))
          (sym (other_same own x k (is_among k (take at.key-index xs)) (is_among k (take (at.key-index + 1) xs)) (among_more k xs at.key-index x c.loop-key-test.true c.key-item.is)
          (told_same x own c.ne.result c.ne.ensures w.if-ne.false))))
    ]

pub returns-in_err-post-clause-some : goal.returns-in_err-post-clause-some
returns-in_err-post-clause-some c =
    let at = c.loop-key in
    let own = c.args.own.now in
    let xs = c.args.keys.now in
    let old = c.args.postings.now in
    changed_some (is_other own (take at.key-index xs)) (is_other own xs) (posted c.args.position) old c.post.new.self (λ k. other_front own at.key-index xs k)
    (changed_same (is_other own (take at.key-index xs)) (posted c.args.position) old at.postings c.post.new.self at.invariant c.in_err-post.ensures.same)

pub returns-clause-some : goal.returns-clause-some
returns-clause-some c =
    let at = c.loop-key in
    let own = c.args.own.now in
    let xs = c.args.keys.now in
    changed_some (is_other own (take at.key-index xs)) (is_other own xs) (posted c.args.position) c.args.postings.now at.postings (λ k. other_front own at.key-index xs k) at.invariant

pub returns-clause-each : goal.returns-clause-each
returns-clause-each c =
    subst (λ xs. ChangesEach (is_other c.args.own.now xs) (posted c.args.position) c.args.postings.now c.loop-key.postings) (take_all c.loop-key.key-index c.args.keys.now c.loop-key-test.false) c.loop-key.invariant
