use Rattle.std.proofs.Common.{◌≡◌, take}
use Rattle.xapi_docs.specs.Docs.{documents_in}
use Rattle.xapi_docs.specs.Documents.{without_documents}
use Rattle.xapi_docs.proofs.docs.Docs.remove_each.Given as goal

abbrev pub invariant-loop-key : goal.invariant-loop-key
invariant-loop-key l = documents_in l.self ≡ without_documents (take l.key-index l.keys) (documents_in l.initial.self)
