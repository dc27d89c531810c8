use Rattle.std.proofs.Common.{◌≡◌, ◌∙◌, true, is_some, refl, sym}
use Rattle.std.specs.Map.{lookup}
use Rattle.std.proofs.lemmas.Bool.{false≢true}
use Rattle.std.proofs.lemmas.Result.{on_ok_weaker}
use Rattle.cmi5_running_sessions.specs.Kept.{is_same, nothing_said}
use Rattle.cmi5_running_sessions.specs.Room.{needs_own}
use Rattle.cmi5_running_sessions.proofs.Altering.{made_alike, made_same}
use Rattle.cmi5_running_sessions.proofs.Hearing.{of_none, of_session, own_there}
use Rattle.cmi5_running_sessions.proofs.said.SaidBySession.ready.Goals as goal

pub returns-in-Some-clause-made : goal.returns-in-Some-clause-made
returns-in-Some-clause-made c =
    let same = of_session c.args.statement.now.authority c.authority.result.now c.session_of.result c.in-Some.session c.authority.ensures c.in-Some.is c.session_of.ensures in
    made_alike nothing_said (λ id. is_same c.in-Some.session id) (λ id. needs_own id c.args.statement.now) c.args.self.now c.make.new.self same c.make.ensures.made

pub returns-in-Some-clause-there : goal.returns-in-Some-clause-there
returns-in-Some-clause-there c =
    let same = of_session c.args.statement.now.authority c.authority.result.now c.session_of.result c.in-Some.session c.authority.ensures c.in-Some.is c.session_of.ensures in
    on_ok_weaker c.make.result
    (λ (there : is_some (lookup (is_same c.in-Some.session) c.make.new.self) ≡ true). own_there c.in-Some.session (λ id. needs_own id c.args.statement.now) c.make.new.self same there)
    c.make.ensures.there

pub returns-in-None-clause-made : goal.returns-in-None-clause-made
returns-in-None-clause-made c = made_same nothing_said (λ id. needs_own id c.args.statement.now) c.args.self.now c.args.self.now refl

pub returns-in-None-clause-there : goal.returns-in-None-clause-there
returns-in-None-clause-there c = λ id needed.
    absurd (false≢true (sym (of_none c.args.statement.now.authority c.authority.result.now c.session_of.result c.authority.ensures c.in-None.is c.session_of.ensures id) ∙ needed))
