use Rattle.std.proofs.Common.{◌≡◌, ℕ, List, IfOk, subst}
use Rattle.lrs_history.specs.Cmi5LaunchMade.{said_waived, saying_json}
use Rattle.lrs_json.specs.View.{view}
use Rattle.lrs_made.specs.Lent.{seen_target}
use Rattle.lrs_made.proofs.waivers.waived_statement.Goals as goal

pub returns : goal.returns
returns c =
    let t = seen_target c.args.target.now in
    subst (λ (activity : List ℕ). IfOk c.statement_of.result (λ s. view s.tree
    ≡ saying_json (said_waived c.args.reason) t.registration.actor activity t.publisher t.registration.id c.args.session.now))
    c.in_ok-activity.ensures c.statement_of.ensures
