use Rattle.std.proofs.Common.{◌∙◌, sym, ap, [], ◌∷◌}
use Rattle.xapi_docs.specs.Docs.{documents_in}
use Rattle.xapi_docs.specs.Documents.{without_documents}
use Rattle.xapi_docs.proofs.Back.{without_more}
use Rattle.xapi_docs.proofs.Filled.{none_left_out}
use Rattle.xapi_docs.proofs.docs.Docs.remove_each.Goals as goal

pub loop-key-init : goal.loop-key-init
loop-key-init c = sym (none_left_out (documents_in c.args.self.now))

pub loop-key-preserved : goal.loop-key-preserved
loop-key-preserved c =
    c.remove.ensures.gone ∙ ap (λ ds. without_documents (c.key-item.result ∷ []) ds) c.loop-key.invariant
    ∙ without_more c.args.keys.now c.loop-key.key-index c.key-item.result (documents_in c.args.self.now) c.loop-key-test.true c.key-item.is
