use Rattle.std.proofs.Common.{◌++◌, ◌∙◌, ℕ, List, sym, ap, subst}
use Rattle.xapi_index.specs.XapiPostingsAscending.{IsAscending}
use Rattle.xapi_search.proofs.Walked.{ascending_keys}
use Rattle.xapi_search.proofs.references.in_order.Goals as goal

pub returns-clause-items : goal.returns-clause-items
returns-clause-items c = c.in_ok-put_each.ensures ∙ ap (λ (ks : List ℕ). ks ++ c.args.found.now.keys) c.in_ok-list.ensures.items

pub returns-clause-ascending : goal.returns-clause-ascending
returns-clause-ascending c =
    let items = c.in_ok-put_each.ensures ∙ ap (λ (ks : List ℕ). ks ++ c.args.found.now.keys) c.in_ok-list.ensures.items in
    subst (λ (ks : List ℕ). IsAscending ks) (sym items) (ascending_keys c.args.found.now.keys c.len.ensures.ordered)
