-- The node is known by its number.
use Rattle.std.proofs.Common.{◌≡◌, ◌∙◌, ℕ, List, IfOk, ap, subst}
use Rattle.lrs_history.specs.Cmi5LaunchActivities.{activity_text}
use Rattle.lrs_history.specs.Cmi5LaunchMade.{said_satisfied, saying_json}
use Rattle.lrs_json.specs.View.{view}
use Rattle.lrs_made.proofs.owing.satisfied_statement.Goals as goal

pub returns : goal.returns
returns c =
    let registration = c.args.enrolled.now.registration.now in
    let node = c.args.node.now in
    subst (λ (activity : List ℕ). IfOk c.statement_of.result (λ s. view s.tree
    ≡ saying_json (said_satisfied node.kind) registration.actor activity node.id registration.id c.args.session.now))
    (c.in_ok-activity.ensures ∙ ap (λ (base : List ℕ). activity_text base registration.edition c.args.index) c.text.ensures.lent) c.statement_of.ensures
