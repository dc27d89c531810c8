use Rattle.lrs_ids.specs.Ids.{either, those}
use Rattle.lrs_parts.proofs.Counting.{either_counted, those_counted}
use Rattle.lrs_state.specs.Launches.{session_ids}
use Rattle.lrs_state.specs.Registrations.{registration_ids}
use Rattle.lrs_state.specs.Sessions.{made_session_ids}
use Rattle.xapi_statement.specs.Statements.{ids_of}
use Rattle.lrs_parts.specs.Parts.{SeenParts, state_of}
use Rattle.lrs_state.specs.State.{used_in}
use Rattle.std.proofs.Common.{◌∙◌, ap}
use Rattle.lrs_parts.proofs.parts.PartsUsedIds.count.Goals as goal

pub returns-clause-counted : goal.returns-clause-counted
returns-clause-counted c =
    let parts = c.args.self.now in
    let statements = ids_of parts.statements.held in
    let registrations = registration_ids parts.learning.registrations.held in
    let sessions = session_ids parts.learning.launches.held in
    let made = made_session_ids parts.learning.made_sessions.held in
    either_counted (those statements) (either (those registrations) (either (those sessions) (those made))) (those_counted statements)
    (either_counted (those registrations) (either (those sessions) (those made)) (those_counted registrations)
    (either_counted (those sessions) (those made) (those_counted sessions) (those_counted made)))

pub returns-clause-count : goal.returns-clause-count
returns-clause-count c = c.count_used.ensures.count ∙ ap (λ (v : SeenParts). (used_in (state_of v)).count) c.self.view_is

pub returns-clause-few : goal.returns-clause-few
returns-clause-few c = c.count_used.ensures.few
