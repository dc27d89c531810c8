use Rattle.std.proofs.Common.{◌≡◌, IfOk, subst}
use Rattle.xapi_postings.specs.XapiFormatAuthorityAuthority.{Authority}
use Rattle.xapi_index.proofs.authorities.Authorities.shared.Goals as goal

pub returns-in-Some : goal.returns-in-Some
returns-in-Some c = subst (λ (a : Authority). IfOk c.again.result (λ shared. shared ≡ a)) c.in-Some.ensures c.again.ensures

pub returns-in-None : goal.returns-in-None
returns-in-None c = c.add.ensures
