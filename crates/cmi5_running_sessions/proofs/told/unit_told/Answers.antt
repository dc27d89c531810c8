use Rattle.std.proofs.Common.{◌∙◌, ◌&&◌, ◌||◌, sym, ap}
use Rattle.cmi5_session.specs.Cmi5LaunchNames.{completed, passed}
use Rattle.cmi5_session.specs.Own.{says}
use Rattle.lrs_json.specs.View.{view}
use Rattle.lrs_json.specs.declared.tree.Tree.{Tree}
use Rattle.cmi5_session.specs.XapiStatementStatements.{is_that_id}
use Rattle.cmi5_session.specs.XapiStatementStatement.{activity_of, registration_of}
use Rattle.cmi5_running_sessions.proofs.Counting.{unit_counted, unit_uncounted}
use Rattle.cmi5_running_sessions.proofs.told.unit_told.Goals as goal

pub returns-then-is_counted : goal.returns-then-is_counted
returns-then-is_counted c = λ r a.
    let t = c.args.statement.now.received in
    let told = ap (λ (u : Tree). says completed (view u) || says passed (view u)) (sym c.received.ensures) ∙ sym c.is_counted.ensures ∙ c.if-is_counted.true in
    unit_counted (is_that_id r (registration_of (view t))) (is_that_id a (activity_of (view t))) (says completed (view t) || says passed (view t)) told
    ∙ ap (λ (u : Tree). is_that_id r (registration_of (view u)) && is_that_id a (activity_of (view u))) (sym c.received-then-is_counted.ensures)
    ∙ c.unit_named.ensures r a

pub returns-else-is_counted : goal.returns-else-is_counted
returns-else-is_counted c = λ r a.
    let t = c.args.statement.now.received in
    let told = ap (λ (u : Tree). says completed (view u) || says passed (view u)) (sym c.received.ensures) ∙ sym c.is_counted.ensures ∙ c.if-is_counted.false in
    unit_uncounted (is_that_id r (registration_of (view t))) (is_that_id a (activity_of (view t))) (says completed (view t) || says passed (view t)) told
