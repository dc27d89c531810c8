use Rattle.std.proofs.Common.{◌∙◌, ℕ, List, None, sym, ap}
use Rattle.std.specs.Map.{lookup}
use Rattle.cmi5_running_sessions.specs.Maps.{is_empty_slot, is_nothing_said, taken_back}
use Rattle.cmi5_running_sessions.specs.Kept.{is_same}
use Rattle.cmi5_running_sessions.specs.declared.own.OwnSaid.{OwnSaid}
use Rattle.cmi5_running_sessions.proofs.Altering.{changed_at, emptied, left, unchanged_at}
use Rattle.cmi5_running_sessions.proofs.said.SaidBySession.take_back.Goals as goal

pub returns-then-is_empty_at : goal.returns-then-is_empty_at
returns-then-is_empty_at c =
    let key = c.args.session.now in
    let empty = ap (λ (es : List (List ℕ × OwnSaid)). is_empty_slot is_nothing_said (lookup (is_same key) es)) c.self.view_is ∙ (sym c.is_empty_at.ensures ∙ c.if-is_empty_at.true) in
    changed_at key (taken_back is_nothing_said) None c.self.inside.map.entries c.args.self.now c.remove.new.self.entries c.self.view_is c.remove.ensures.updates.0
    (emptied is_nothing_said (lookup (is_same key) c.self.inside.map.entries) empty)

pub returns-else-is_empty_at : goal.returns-else-is_empty_at
returns-else-is_empty_at c =
    let key = c.args.session.now in
    unchanged_at key (taken_back is_nothing_said) c.args.self.now (left is_nothing_said (lookup (is_same key) c.args.self.now) (sym c.is_empty_at.ensures ∙ c.if-is_empty_at.false))
