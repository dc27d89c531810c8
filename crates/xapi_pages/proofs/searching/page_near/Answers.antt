use Rattle.std.proofs.Common.{◌≡◌, ◌<◌, ◌∙◌, inl, inr, length, sym, IfNone}
use Rattle.std.specs.Prelude.{◌⊎◌}
use Rattle.std.proofs.lemmas.Bool.{eqb-true}
use Rattle.std.proofs.lemmas.Result.{IfOk-weaker}
use Rattle.xapi_pages.proofs.Covering.{if_none, passes_or_refers}
use Rattle.xapi_pages.proofs.searching.page_near.Goals as goal

pub returns-then-is_empty-clause-enough : goal.returns-then-is_empty-clause-enough
returns-then-is_empty-clause-enough c = inl (eqb-true (length c.args.list.now) 0 (sym c.is_empty.ensures ∙ c.if-is_empty.true))

pub page_within-requires-clause-all : goal.page_within-requires-clause-all
page_within-requires-clause-all c = λ k lt seen chain.
    passes_or_refers c.args.sought.now c.args.index.now.held c.args.asof c.requires.asof (length c.args.index.now.coming) c.args.list.now c.all_referring-referring.result.now c.all_referring-referring.ensures c.requires.has k lt chain

pub returns-clause-enough : goal.returns-clause-enough
returns-clause-enough c =
    IfOk-weaker c.page_within.result (λ found. IfNone found (c.args.most_missed < c.args.asof))
    (λ found. IfNone found ((length c.args.list.now ≡ 0) ⊎ (c.args.most_missed < c.args.asof)))
    (λ found is. if_none found (λ less. inr less) is) c.page_within.ensures.enough
