use Rattle.std.proofs.Common.{sym, ◌∙◌}
use Rattle.xapi_parameters.proofs.Owners.{documents_9, documents_broken, documents_none}
use Rattle.xapi_parameters.proofs.documents.broken_by_get.Goals as goal

pub returns-in-Some : goal.returns-in-Some
returns-in-Some c =
    documents_broken _ _ c.args.pairs.now _ c.names_of_get.ensures c.owner_names.ensures c.in_ok-rule.ensures c.in-Some.rule c.in-Some.is

pub returns-then-passes_timestamp : goal.returns-then-passes_timestamp
returns-then-passes_timestamp c =
    documents_none _ _ c.args.pairs.now _ c.names_of_get.ensures c.owner_names.ensures c.in_ok-rule.ensures c.in-None.is
    (sym c.passes_timestamp.ensures ∙ c.if-passes_timestamp.true)

pub returns-else-passes_timestamp : goal.returns-else-passes_timestamp
returns-else-passes_timestamp c =
    documents_9 _ _ c.args.pairs.now _ c.names_of_get.ensures c.owner_names.ensures c.in_ok-rule.ensures c.in-None.is
    (sym c.passes_timestamp.ensures ∙ c.if-passes_timestamp.false)
