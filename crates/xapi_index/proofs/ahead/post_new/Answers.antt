use Rattle.std.proofs.Common.{ap, not, sym}
use Rattle.xapi_index.proofs.Posting.{kept_all, new_each, new_some, none_stood, one_stood, posted_own, same_some}
use Rattle.xapi_postings.specs.Postings.{posted}
use Rattle.xapi_postings.specs.XapiStatementKeysKeys.{is_among}
use Rattle.xapi_index.proofs.ahead.post_new.Goals as goal

pub returns-in_err-first-clause-some : goal.returns-in_err-first-clause-some
returns-in_err-first-clause-some c =
    same_some (λ k. is_among k c.args.keys.now) (posted c.args.position) c.args.postings.now c.post_if_none.new.self c.in_err-first.ensures.same

pub returns-then-first-position-clause-new : goal.returns-then-first-position-clause-new
returns-then-first-position-clause-new c =
    let told = c.in_ok-first.ensures in
    sym (ap not (one_stood c.args.own.now c.args.position c.in_ok-first.first c.args.postings.now c.post_if_none.new.self told.posted told.first c.if-first-position.true))

pub returns-then-first-position-clause-some : goal.returns-then-first-position-clause-some
returns-then-first-position-clause-some c =
    let told = c.in_ok-first.ensures in
    same_some (λ k. is_among k c.args.keys.now) (posted c.args.position) c.args.postings.now c.post_if_none.new.self
    (kept_all c.args.own.now c.args.position c.in_ok-first.first c.args.postings.now c.post_if_none.new.self told.posted told.first c.if-first-position.true)

pub returns-then-first-position-clause-each : goal.returns-then-first-position-clause-each
returns-then-first-position-clause-each c =
    let told = c.in_ok-first.ensures in
    kept_all c.args.own.now c.args.position c.in_ok-first.first c.args.postings.now c.post_if_none.new.self told.posted told.first c.if-first-position.true

pub returns-in_err-post_others-clause-some : goal.returns-in_err-post_others-clause-some
returns-in_err-post_others-clause-some c =
    let told = c.in_ok-first.ensures in
    let old = c.args.postings.now in
    let mid = c.post_if_none.new.self in
    let none = none_stood c.args.own.now c.args.position c.in_ok-first.first old mid c.requires.behind told.posted told.first c.if-first-position.false in
    new_some c.args.own.now c.args.keys.now c.args.position old mid c.post_others.new.postings c.requires.own (posted_own c.args.own.now c.args.position old mid none told.posted) c.post_others.ensures.some

pub returns-clause-some : goal.returns-clause-some
returns-clause-some c =
    let told = c.in_ok-first.ensures in
    let old = c.args.postings.now in
    let mid = c.post_if_none.new.self in
    let none = none_stood c.args.own.now c.args.position c.in_ok-first.first old mid c.requires.behind told.posted told.first c.if-first-position.false in
    new_some c.args.own.now c.args.keys.now c.args.position old mid c.post_others.new.postings c.requires.own (posted_own c.args.own.now c.args.position old mid none told.posted) c.post_others.ensures.some

pub returns-clause-each : goal.returns-clause-each
returns-clause-each c =
    let told = c.in_ok-first.ensures in
    let old = c.args.postings.now in
    let mid = c.post_if_none.new.self in
    let none = none_stood c.args.own.now c.args.position c.in_ok-first.first old mid c.requires.behind told.posted told.first c.if-first-position.false in
    new_each c.args.own.now c.args.keys.now c.args.position old mid c.post_others.new.postings c.requires.own (posted_own c.args.own.now c.args.position old mid none told.posted) c.in_ok-post_others.ensures.each
