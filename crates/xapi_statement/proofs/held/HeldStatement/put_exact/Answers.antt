use Rattle.std.proofs.Common.{◌∙◌, ◌++◌, ap}
use Rattle.std.proofs.lemmas.Result.{on_ok_weaker}
use Rattle.lrs_json.specs.View.{view}
use Rattle.lrs_json.specs.Written.{written}
use Rattle.lrs_time.specs.Moments.{moment_text}
use Rattle.xapi_received.specs.XapiFormatAuthorities.{authority_json}
use Rattle.xapi_received.specs.XapiFormatCompleted.{completed}
use Rattle.xapi_received.specs.XapiFormatAuthorityAuthority.{Authority}
use Rattle.xapi_received.specs.XapiFormatFormatFormatTheVariants.{Exact}
use Rattle.xapi_statement.specs.Shown.{shown_text}
use Rattle.xapi_statement.specs.Stored.{StoredStatement}
use Rattle.xapi_statement.proofs.held.HeldStatement.put_exact.Goals as goal

pub returns-clause-ok : goal.returns-clause-ok
returns-clause-ok c =
    let old = c.args.into.now.items in
    let inside = c.self.inside in
    on_ok_weaker c.put_completed.result
    (λ e. e ∙ ap (λ (a : Authority). old ++ written (completed (view inside.received) inside.id (moment_text inside.stored) (authority_json a))) c.written-authority.ensures
    ∙ ap (λ (s : StoredStatement). old ++ shown_text Exact s) c.self.view_is)
    c.put_completed.ensures.ok
