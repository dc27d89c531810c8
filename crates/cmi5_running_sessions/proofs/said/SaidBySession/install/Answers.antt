use Rattle.std.proofs.Common.{◌∙◌, option_map, refl, rules, sym}
use Rattle.cmi5_running_sessions.specs.Maps.{own_behind}
use Rattle.cmi5_running_sessions.specs.Kept.{is_same}
use Rattle.cmi5_running_sessions.specs.Room.{needs_own}
use Rattle.cmi5_running_sessions.proofs.Altering.{changed_alike, same_key, unchanged}
use Rattle.cmi5_running_sessions.proofs.Hearing.{of_none, of_session}
use Rattle.cmi5_running_sessions.proofs.said.SaidBySession.install.Goals as goal

pub hear-requires : goal.hear-requires
hear-requires c =
    let same = of_session c.args.statement.now.authority c.authority.result.now c.session_of.result c.in-Some.session c.authority.ensures c.in-Some.is c.session_of.ensures in
    c.requires c.in-Some.session (sym (same c.in-Some.session) ∙ same_key c.in-Some.session c.in-Some.session refl)

pub returns-in-Some : goal.returns-in-Some
returns-in-Some c =
    let same = of_session c.args.statement.now.authority c.authority.result.now c.session_of.result c.in-Some.session c.authority.ensures c.in-Some.is c.session_of.ensures in
    changed_alike (λ id. is_same c.in-Some.session id) (λ id. needs_own id c.args.statement.now) (option_map (own_behind c.args.statement.now)) c.args.self.now c.hear.new.self same c.hear.ensures

pub returns-in_default : goal.returns-in_default
returns-in_default c =
    let none = of_none c.args.statement.now.authority c.authority.result.now c.session_of.result c.authority.ensures (search rules) c.session_of.ensures in
    unchanged (λ id. needs_own id c.args.statement.now) (option_map (own_behind c.args.statement.now)) c.args.self.now none
