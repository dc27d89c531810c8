use Rattle.std.proofs.Common.{◌∙◌, ℕ, List, is_some, refl, sym, ap}
use Rattle.std.specs.Map.{lookup}
use Rattle.cmi5_running_sessions.specs.Kept.{is_same, nothing_said}
use Rattle.cmi5_running_sessions.specs.declared.own.OwnSaid.{OwnSaid}
use Rattle.cmi5_running_sessions.proofs.Altering.{made_new, made_same, put_there}
use Rattle.cmi5_running_sessions.proofs.said.SaidBySession.make.Goals as goal

pub returns-then-contains_key-clause-made : goal.returns-then-contains_key-clause-made
returns-then-contains_key-clause-made c = made_same nothing_said (λ id. is_same c.args.session id) c.args.self.now c.args.self.now refl

pub returns-then-contains_key-clause-there : goal.returns-then-contains_key-clause-there
returns-then-contains_key-clause-there c =
    ap (λ (es : List (List ℕ × OwnSaid)). is_some (lookup (is_same c.args.session) es)) (sym c.self.view_is) ∙ (sym c.contains_key.ensures ∙ c.if-contains_key.true)

pub returns-in_err-insert-clause-made : goal.returns-in_err-insert-clause-made
returns-in_err-insert-clause-made c =
    made_same nothing_said (λ id. is_same c.args.session id) c.args.self.now c.insert.new.self.entries (c.in_err-insert.ensures.err ∙ c.self.view_is)

pub returns-clause-made : goal.returns-clause-made
returns-clause-made c =
    made_new nothing_said c.args.session c.args.session c.self.inside.map.entries c.args.self.now c.insert.new.self.entries refl c.self.view_is
    (sym c.contains_key.ensures ∙ c.if-contains_key.false)
    c.in_ok-insert.ensures.updates.0

pub returns-clause-there : goal.returns-clause-there
returns-clause-there c =
    put_there c.args.session c.args.session nothing_said c.self.inside.map.entries c.insert.new.self.entries refl c.in_ok-insert.ensures.updates.0
