use Rattle.std.proofs.Common.{◌≡◌, Some, None, ap, ◌∙◌, arith}
use Rattle.std.proofs.lemmas.Bool.Decides.{nat_tests}
use Rattle.xapi_parameters.proofs.Least.{bad_link_answers, link_at, link_filters, link_once, link_numbers, rule_answers, value_answers}
use Rattle.xapi_parameters.proofs.link.read_link.Goals as goal

pub query_of-requires : goal.query_of-requires
query_of-requires c = link_filters c.args.pairs.now (link_at c.args.pairs.now _ _ c.in-None.is c.in_ok-broken_by_link.ensures)

pub number_under-requires : goal.number_under-requires
number_under-requires c = (link_numbers c.args.pairs.now (link_at c.args.pairs.now _ _ c.in-None.is c.in_ok-broken_by_link.ensures)).0

pub number_under-requires-in-None : goal.number_under-requires-in-None
number_under-requires-in-None c = (link_numbers c.args.pairs.now (link_at c.args.pairs.now _ _ c.in-None.is c.in_ok-broken_by_link.ensures)).1

pub returns-in-Some-eq14-clause-bad : goal.returns-in-Some-eq14-clause-bad
returns-in-Some-eq14-clause-bad c = λ _.
    let that : c.in-Some-eq14.field-0 ≡ 14 = grind (arith, nat_tests) in
    link_at c.args.pairs.now _ _ (c.in-Some-eq14.is ∙ ap Some that) c.in_ok-broken_by_link.ensures

pub returns-in-Some-eq14-clause-always : goal.returns-in-Some-eq14-clause-always
returns-in-Some-eq14-clause-always c = λ found least.
    let that : c.in-Some-eq14.field-0 ≡ 14 = grind (arith, nat_tests) in
    bad_link_answers _ found (link_once c.args.pairs.now found (Some 14) least (link_at c.args.pairs.now _ _ (c.in-Some-eq14.is ∙ ap Some that) c.in_ok-broken_by_link.ensures))

pub returns-in-Some-clause-broken : goal.returns-in-Some-clause-broken
returns-in-Some-clause-broken c = λ rule is.
    let same : c.in-Some.number ≡ rule = cc is in
    let other : ¬ (c.in-Some.number ≡ 14) = grind (arith, nat_tests) in
    (link_at c.args.pairs.now _ _ (c.in-Some.is ∙ ap Some same) c.in_ok-broken_by_link.ensures, λ e. other (same ∙ e))

pub returns-in-Some-clause-always : goal.returns-in-Some-clause-always
returns-in-Some-clause-always c = λ found least.
    rule_answers _ found c.in-Some.number
    (link_once c.args.pairs.now found (Some c.in-Some.number) least (link_at c.args.pairs.now _ _ c.in-Some.is c.in_ok-broken_by_link.ensures))

pub returns-in_ok-query_of-in-None-clause-link : goal.returns-in_ok-query_of-in-None-clause-link
returns-in_ok-query_of-in-None-clause-link c = (
  link_at c.args.pairs.now _ _ c.in-None.is c.in_ok-broken_by_link.ensures,
  record { query_is = c.in_ok-query_of-in-None.ensures; asof_is = c.number_under.ensures; after_is = c.number_under-in-None.ensures },
)

pub returns-in_ok-query_of-in-None-clause-always : goal.returns-in_ok-query_of-in-None-clause-always
returns-in_ok-query_of-in-None-clause-always c = λ found least.
    value_answers found _ (link_once c.args.pairs.now found None least (link_at c.args.pairs.now _ _ c.in-None.is c.in_ok-broken_by_link.ensures))
