use Rattle.std.proofs.Common.{◌∙◌, sym, ap, option_copied}
use Rattle.std.specs.Option.{option_flatten}
use Rattle.xapi_docs.specs.Docs.{documents_in}
use Rattle.xapi_docs.specs.Documents.{document_under}
use Rattle.xapi_docs.proofs.Filled.{found}
use Rattle.xapi_docs.proofs.Keyed.{keys_total}
use Rattle.xapi_docs.proofs.docs.Docs.get.Goals as goal

pub returns-in-Some : goal.returns-in-Some
returns-in-Some c =
    let key = c.args.key.now in
    c.as_ref.ensures.value
    ∙ ap option_flatten (sym (ap option_copied c.in-Some.is) ∙ c.get.ensures.value)
    ∙ sym (found keys_total key c.self.inside.map.entries c.self.invariant) ∙ ap (λ slots. document_under key (documents_in slots)) c.self.view_is

pub returns-in-None : goal.returns-in-None
returns-in-None c =
    let key = c.args.key.now in
    ap option_flatten (sym (ap option_copied c.in-None.is) ∙ c.get.ensures.value)
    ∙ sym (found keys_total key c.self.inside.map.entries c.self.invariant) ∙ ap (λ slots. document_under key (documents_in slots)) c.self.view_is
