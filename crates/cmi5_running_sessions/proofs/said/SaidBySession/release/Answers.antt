use Rattle.std.proofs.Common.{rules}
use Rattle.cmi5_running_sessions.specs.Maps.{is_nothing_said, taken_back}
use Rattle.cmi5_running_sessions.specs.Kept.{is_same}
use Rattle.cmi5_running_sessions.specs.Room.{needs_own}
use Rattle.cmi5_running_sessions.proofs.Altering.{changed_alike, unchanged}
use Rattle.cmi5_running_sessions.proofs.Hearing.{of_none, of_session}
use Rattle.cmi5_running_sessions.proofs.said.SaidBySession.release.Goals as goal

pub returns-in-Some : goal.returns-in-Some
returns-in-Some c =
    let same = of_session c.args.statement.now.authority c.authority.result.now c.session_of.result c.in-Some.session c.authority.ensures c.in-Some.is c.session_of.ensures in
    changed_alike (λ id. is_same c.in-Some.session id) (λ id. needs_own id c.args.statement.now) (taken_back is_nothing_said) c.args.self.now c.take_back.new.self same c.take_back.ensures

pub returns-in_default : goal.returns-in_default
returns-in_default c =
    let none = of_none c.args.statement.now.authority c.authority.result.now c.session_of.result c.authority.ensures (search rules) c.session_of.ensures in
    unchanged (λ id. needs_own id c.args.statement.now) (taken_back is_nothing_said) c.args.self.now none
