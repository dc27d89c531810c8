use Rattle.lrs_laws.proofs.Abandoned.{abandoned_sessions_are_silent}
use Rattle.lrs_laws.proofs.LaunchLaws.{launches_leave_statements}
use Rattle.lrs_laws.proofs.KeyLaws.{keys_are_their_launches}
use Rattle.lrs_laws.proofs.OneOpen.{one_session_is_open}
use Rattle.lrs_laws.proofs.OpenedSessions.{given_tokens_act}
use Rattle.lrs_laws.proofs.SessionLaws.{other_tokens_are_unknown, session_tokens_were_given, sessions_are_barred_from_the_desk, sessions_are_launched, sessions_keep_launch_data, sessions_keep_to_their_documents, sessions_see_their_registration}
use Rattle.lrs_laws.proofs.CountedOnce.{results_count_once}
use Rattle.lrs_laws.proofs.SpokenInOrder.{sessions_speak_in_order}
use Rattle.lrs_laws.proofs.laws.law_of_sessions.Goals as goal

pub returns-clause-launched : goal.returns-clause-launched
returns-clause-launched c = sessions_are_launched

pub returns-clause-given : goal.returns-clause-given
returns-clause-given c = session_tokens_were_given

pub returns-clause-act : goal.returns-clause-act
returns-clause-act c = given_tokens_act

pub returns-clause-keys : goal.returns-clause-keys
returns-clause-keys c = keys_are_their_launches

pub returns-clause-left : goal.returns-clause-left
returns-clause-left c = launches_leave_statements

pub returns-clause-others : goal.returns-clause-others
returns-clause-others c = other_tokens_are_unknown

pub returns-clause-sight : goal.returns-clause-sight
returns-clause-sight c = sessions_see_their_registration

pub returns-clause-desk : goal.returns-clause-desk
returns-clause-desk c = sessions_are_barred_from_the_desk

pub returns-clause-documents : goal.returns-clause-documents
returns-clause-documents c = sessions_keep_to_their_documents

pub returns-clause-launch_data : goal.returns-clause-launch_data
returns-clause-launch_data c = sessions_keep_launch_data

pub returns-clause-one : goal.returns-clause-one
returns-clause-one c = one_session_is_open

pub returns-clause-order : goal.returns-clause-order
returns-clause-order c = sessions_speak_in_order

pub returns-clause-silent : goal.returns-clause-silent
returns-clause-silent c = abandoned_sessions_are_silent

pub returns-clause-results : goal.returns-clause-results
returns-clause-results c = results_count_once
