use Rattle.std.proofs.Common.{◌∙◌, ap, [], ◌∷◌}
use Rattle.xapi_docs.specs.Docs.{documents_in}
use Rattle.xapi_docs.specs.Documents.{without_documents}
use Rattle.xapi_docs.proofs.Filled.{removed}
use Rattle.xapi_docs.proofs.Keyed.{keys_total}
use Rattle.xapi_docs.proofs.docs.Docs.remove.Goals as goal

pub returns-clause-gone : goal.returns-clause-gone
returns-clause-gone c =
    let key = c.args.key.now in
    ap documents_in c.remove-slot.ensures.entries ∙ removed keys_total key c.self.inside.map.entries c.self.invariant
    ∙ ap (λ slots. without_documents (key ∷ []) (documents_in slots)) c.self.view_is
