use Rattle.std.proofs.Common.{◌≡◌, ◌∙◌, ap, length, option_copied, subst, sym}
use Rattle.std.proofs.lemmas.Option.{none-some, same_Some}
use Rattle.xapi_index.specs.Index.{IsPosting}
use Rattle.xapi_index.proofs.index.Index.referring_to.Goals as goal
use Rattle.xapi_postings.specs.XapiStatementStored.{StoredStatement}
use Rattle.xapi_postings.specs.XapiStatementKeysKeyKeyTheVariants as key

pub returns-in-Some : goal.returns-in-Some
returns-in-Some c = λ s at.
    let same : c.in-Some.statement.now ≡ s = same_Some c.in-Some.statement.now s (sym (ap option_copied c.in-Some.is) ∙ (c.get.ensures ∙ at)) in
    subst (λ id. IsPosting c.args.self.now.held (length c.args.self.now.coming) (key.Reference id) c.referring.result.now) (c.id.ensures ∙ ap (λ (x : StoredStatement). x.id) same) c.referring.ensures

pub returns-in-None : goal.returns-in-None
returns-in-None c = λ s at. absurd (none-some s (sym (ap option_copied c.in-None.is) ∙ (c.get.ensures ∙ at)))
