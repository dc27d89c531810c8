use Rattle.std.proofs.Common.{sym, ◌∙◌}
use Rattle.xapi_parameters.proofs.Least.{link_14, link_broken, link_none}
use Rattle.xapi_parameters.proofs.broken.broken_by_link.Goals as goal

pub returns-in-Some : goal.returns-in-Some
returns-in-Some c = link_broken _ c.args.pairs.now _ c.link_names.ensures c.in_ok-rule.ensures c.in-Some.rule c.in-Some.is

pub returns-then-has_link_numbers : goal.returns-then-has_link_numbers
returns-then-has_link_numbers c =
    link_none _ c.args.pairs.now _ c.link_names.ensures c.in_ok-rule.ensures c.in-None.is (sym c.has_link_numbers.ensures ∙ c.if-has_link_numbers.true)

pub returns-else-has_link_numbers : goal.returns-else-has_link_numbers
returns-else-has_link_numbers c =
    link_14 _ c.args.pairs.now _ c.link_names.ensures c.in_ok-rule.ensures c.in-None.is (sym c.has_link_numbers.ensures ∙ c.if-has_link_numbers.false)
