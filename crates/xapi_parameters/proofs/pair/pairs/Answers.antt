use Rattle.std.proofs.Common.{ℕ, List}
use Rattle.form_urlencoded.specs.Parse.{raw_pairs_left}
use Rattle.xapi_parameters.specs.Pairs.{pair_of, pairs_of}
use Rattle.xapi_parameters.proofs.PairLemmas.{bad_query, no_texts, read_one, texts_all, texts_more}
use Rattle.xapi_parameters.proofs.pair.pairs.Goals as goal

pub returns-in_err-pair_of-clause-bad : goal.returns-in_err-pair_of-clause-bad
returns-in_err-pair_of-clause-bad c =
    let raw : List ℕ × List ℕ = (c.in-Some.name.now, c.in-Some.value.now) in
    let all = pairs_of c.args.query.now in
    bad_query _ c.from_residual.result c.in_err-pair_of.field-0.0 (pair_of raw) all
    (no_texts c.loop-name.pairs.items (raw_pairs_left c.loop-name.name-iterator) (raw_pairs_left c.next.new.self) raw all c.loop-name.invariant.0 c.in-Some.ensures.steps)
    c.from_residual.ensures.1 c.in_err-pair_of.ensures

pub loop-name-preserved : goal.loop-name-preserved
loop-name-preserved c =
    let raw : List ℕ × List ℕ = (c.in-Some.name.now, c.in-Some.value.now) in
    let pair = c.in_ok-pair_of.field-0 in (
      read_one c.loop-name.pairs.items c.push.new.pairs.items (raw_pairs_left c.loop-name.name-iterator) (raw_pairs_left c.next.new.self) raw pair (pairs_of c.args.query.now)
          c.loop-name.invariant.0 c.in-Some.ensures.steps c.in_ok-pair_of.ensures.0 c.in_ok-push.ensures,
      texts_more c.loop-name.pairs.items c.push.new.pairs.items pair (pair_of raw) c.in_ok-push.ensures c.in_ok-pair_of.ensures.0 c.in_ok-pair_of.ensures.1 c.loop-name.invariant.1,
    )

pub returns-clause-texts : goal.returns-clause-texts
returns-clause-texts c =
    texts_all c.loop-name.pairs.items (raw_pairs_left c.loop-name.name-iterator) (pairs_of c.args.query.now) c.loop-name.invariant.0 c.in-None.ensures.steps.0 c.loop-name.invariant.1
