use Rattle.std.proofs.Common.{sym, ◌∙◌}
use Rattle.xapi_parameters.proofs.Least.{get_12, get_13, get_broken, get_none}
use Rattle.xapi_parameters.proofs.broken.broken_by_get.Goals as goal

pub returns-in-Some : goal.returns-in-Some
returns-in-Some c = get_broken _ c.args.pairs.now _ c.get_names.ensures c.in_ok-rule.ensures c.in-Some.rule c.in-Some.is

pub returns-then-not-has_no_attachments : goal.returns-then-not-has_no_attachments
returns-then-not-has_no_attachments c =
    get_12 _ c.args.pairs.now _ c.get_names.ensures c.in_ok-rule.ensures c.in-None.is (sym c.has_no_attachments.ensures ∙ c.if-not-has_no_attachments.true)

pub returns-then-not-asks_for_one : goal.returns-then-not-asks_for_one
returns-then-not-asks_for_one c =
    get_13 _ c.args.pairs.now _ c.get_names.ensures c.in_ok-rule.ensures c.in-None.is (sym c.has_no_attachments.ensures ∙ c.if-not-has_no_attachments.false)
    (sym c.asks_for_one.ensures ∙ c.if-not-asks_for_one.true)

pub returns-else-not-asks_for_one : goal.returns-else-not-asks_for_one
returns-else-not-asks_for_one c =
    get_none _ c.args.pairs.now _ c.get_names.ensures c.in_ok-rule.ensures c.in-None.is (sym c.has_no_attachments.ensures ∙ c.if-not-has_no_attachments.false)
    (sym c.asks_for_one.ensures ∙ c.if-not-asks_for_one.false)
