use Rattle.std.proofs.Common.{◌∙◌, ap, is_some, Some}
use Rattle.std.specs.BTreeMap.{is_at}
use Rattle.std.specs.Map.{lookup}
use Rattle.xapi_docs.specs.Docs.{documents_in}
use Rattle.xapi_docs.specs.Documents.{with_document}
use Rattle.xapi_keys.specs.Keys.{key_cmp}
use Rattle.xapi_docs.proofs.Filled.{written}
use Rattle.xapi_docs.proofs.Keyed.{keys_exact, keys_total}
use Rattle.xapi_docs.proofs.docs.Docs.put.Goals as goal

pub returns-clause-held : goal.returns-clause-held
returns-clause-held c =
    let key = c.args.key.now in
    ap (λ o. documents_in (c.get_mut.follows.lender o).entries) c.replace-before.ensures.after
    ∙ ap documents_in (c.get_mut.follows.holds (Some c.args.document)).0
    ∙ written keys_total keys_exact key c.args.document c.self.inside.map.entries c.self.invariant
    (ap (λ slots. is_some (lookup (is_at (key_cmp key)) slots)) c.self.view_is ∙ c.requires)
    ∙ ap (λ slots. with_document key c.args.document (documents_in slots)) c.self.view_is
