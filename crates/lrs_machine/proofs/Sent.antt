-- A desk may go to another thread if its disk may. Of types that hold a JSON tree this is shown one by one: a search through all of them at once runs out of steps.
use denote.Param.Send.{IsSend, sendable}
use denote.RattleType.{RattleType}
use Rattle.std.proofs.Crossing as heap
use Rattle.cmi5_course.proofs.course.Node.TheSendSync as node
use Rattle.cmi5_course.proofs.launch.Launch.TheSendSync as launch
use Rattle.cmi5_course.specs.contracts.course.Course as Course
use Rattle.cmi5_running_sessions.proofs.sessions.Sessions.TheSendSync as sessions
use Rattle.cmi5_running_verdicts.proofs.running.Running.TheSendSync as running
use Rattle.lrs_fold.specs.contracts.fold.Fold as Fold
use Rattle.lrs_json.proofs.items.Items.TheSendSync as items
use Rattle.lrs_json.proofs.text.Text.TheSendSync as text
use Rattle.lrs_json.proofs.tree.Tree.TheLaws.TheKnot as tree
use Rattle.lrs_names.proofs.id.Id.TheSendSync as id
use Rattle.lrs_noted.proofs.noted.Noted.TheSendSync as noted
use Rattle.lrs_state.proofs.counted.Counted.TheSendSync as counted
use Rattle.lrs_state.proofs.launches.HeldKey.TheSendSync as key
use Rattle.lrs_state.proofs.launches.HeldToken.TheSendSync as token
use Rattle.lrs_state.proofs.providers.HeldProvider.TheSendSync as provider
use Rattle.lrs_state.proofs.registrations.HeldRegistration.TheSendSync as registration
use Rattle.lrs_state.proofs.sessions.HeldSessions.TheSendSync as held_sessions
use Rattle.lrs_state.proofs.sessions.MadeSession.TheSendSync as made_session
use Rattle.lrs_state.specs.contracts.learning.Learning as Learning
use Rattle.lrs_parts.specs.contracts.parts.Parts as Parts
use Rattle.lrs_parts.specs.contracts.progress.Progress as Progress
use Rattle.lrs_time.proofs.moments.Moment.TheSendSync as moment
use Rattle.cmi5_course.proofs.launch.Mode.TheSendSync as mode
use Rattle.cmi5_course.proofs.reason.Reason.TheSendSync as reason
use Rattle.lrs_agents.proofs.agents.Agent.TheSendSync as agent
use Rattle.lrs_agents.proofs.identifiers.Ifi.TheSendSync as ifi
use Rattle.lrs_journal.proofs.journal.Journal.TheSendSync as journal
use Rattle.lrs_disk.specs.declared.disk.Disk as disks
use Rattle.lrs_journal.specs.contracts.journal.Journal as Journal
use Rattle.lrs_noted.specs.contracts.noted.Noted as Noted
use Rattle.lrs_machine.specs.contracts.desk.Desk as Desk
use Rattle.lrs_machine.specs.contracts.record.Record as Record
use Rattle.lrs_fold.specs.contracts.spent.Spent as Spent
use Rattle.lrs_names.proofs.draw.Draw.TheSendSync as draw
use Rattle.lrs_names.proofs.iris.Iri.TheSendSync as iri
use Rattle.lrs_record.proofs.entry.Caller.TheSendSync as caller
use Rattle.lrs_record.proofs.entry.How.TheSendSync as how
use Rattle.lrs_record.specs.contracts.entry.Entry as Entry
use Rattle.lrs_record.specs.contracts.entry.Write as Write
use Rattle.xapi_keys.proofs.state_key.StateKey.TheSendSync as state_key
use Rattle.xapi_docs.proofs.docs.Docs.TheSendSync as docs
use Rattle.xapi_format.proofs.authority.Authority.TheSendSync as authority
use Rattle.xapi_received.proofs.excerpts.Excerpts.TheSendSync as excerpts
use Rattle.xapi_received.specs.contracts.received.ReceivedText as ReceivedText
use Rattle.xapi_index.proofs.authorities.Authorities.TheSendSync as authorities
use Rattle.xapi_index.specs.contracts.index.Index as Index
use Rattle.xapi_postings.proofs.postings.Postings.TheSendSync as postings
use Rattle.xapi_statement.proofs.shared.SharedAuthority.TheSendSync as shared
use Rattle.xapi_statement.specs.contracts.held.HeldStatement as HeldStatement
use Rattle.xapi_statement.specs.contracts.statement.Statement as Statement
use Rattle.xapi_statement.specs.contracts.stored.StoredStatement as StoredStatement
use Rattle.xapi_statement_keys.proofs.keys.Keys.TheSendSync as keys

pub ruleset plain = (sendable, heap.crosses, text.the_send, items.the_send, id.the_send, moment.the_send)

pub ruleset of_trees = (plain, tree.crosses)

-- ---- statements

pub received_sent : IsSend ReceivedText.the_row
received_sent = search (of_trees, noted.the_send, excerpts.the_field_send) depth 20

pub held_sent : IsSend HeldStatement.the_row
held_sent = search (plain, shared.the_send, received_sent) depth 20

pub index_sent : IsSend Index.the_row
index_sent = search (plain, authorities.the_send, keys.the_send, postings.the_send, held_sent) depth 20

pub statement_sent : IsSend (Statement.the_field).row
statement_sent = search of_trees depth 20

pub stored_sent : IsSend StoredStatement.the_row
stored_sent = search (plain, authority.the_field_send, statement_sent) depth 20

-- ---- what is known of courses and learners

pub course_sent : IsSend Course.the_row
course_sent = search (of_trees, node.the_send) depth 20

pub learning_sent : IsSend (Learning.the_field).row
learning_sent =
    search (plain, counted.the_send, course_sent, registration.the_send, launch.the_send, held_sessions.the_send, made_session.the_send, key.the_send, token.the_send) depth 20

pub progress_sent : IsSend (Progress.the_field).row
progress_sent = search (plain, sessions.the_send, running.the_send, stored_sent) depth 20

-- ---- all parts

pub parts_sent : IsSend Parts.the_row
parts_sent = search (plain, counted.the_send, provider.the_send, index_sent, docs.the_send, learning_sent, progress_sent) depth 20

pub fold_sent : IsSend (Fold.the_field).row
fold_sent = search (plain, parts_sent) depth 20

-- ---- the line

pub write_sent : IsSend (Write.the_field).row
write_sent =
    search (of_trees, iri.the_send, ifi.the_field_send, agent.the_field_send, state_key.the_field_send, mode.the_field_send, reason.the_field_send, how.the_field_send) depth 30 fits 5000

pub entry_sent : IsSend Entry.the_row
entry_sent = search (plain, caller.the_field_send, draw.the_field_send, write_sent) depth 20

pub record_sent : IsSend Record.the_row
record_sent = search plain depth 20

-- ---- what acts leave over

pub spent_sent : IsSend (Spent.the_field).row
spent_sent = search (of_trees, caller.the_field_send, entry_sent, stored_sent, received_sent) depth 20

-- ---- a desk

journal_sent : (D : RattleType) (disk : disks.Ghosts D.Denot) → IsSend D → IsSend (Journal.the_row D disk)
journal_sent D disk s = search (plain, journal.the_send) depth 20

opening_sent : IsSend (Noted.the_row Entry.the_row)
opening_sent = search (plain, noted.the_send, entry_sent) depth 20

acts_sent : IsSend (Noted.the_row Record.the_row)
acts_sent = search (plain, noted.the_send, record_sent) depth 20

pub desk_sent : (D : RattleType) (disk : disks.Ghosts D.Denot) → IsSend D → IsSend (Desk.the_row D disk)
desk_sent D disk s = search (plain, journal_sent, opening_sent, acts_sent, fold_sent, spent_sent) depth 20 fits 5000
