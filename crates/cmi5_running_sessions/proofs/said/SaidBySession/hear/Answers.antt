use Rattle.std.proofs.Common.{◌≡◌, ◌∙◌, ℕ, List, Some, None, is_some, sym, ap, option_map}
use Rattle.std.specs.Map.{lookup}
use Rattle.std.specs.Option.{option_copied_mut}
use Rattle.std.proofs.lemmas.Bool.{false≢true}
use Rattle.cmi5_running_sessions.specs.Maps.{own_behind}
use Rattle.cmi5_running_sessions.specs.Kept.{is_same}
use Rattle.cmi5_running_sessions.specs.declared.own.OwnSaid.{OwnSaid}
use Rattle.cmi5_running_sessions.proofs.Altering.{changed_at}
use Rattle.cmi5_running_sessions.proofs.said.SaidBySession.hear.Goals as goal
use Rattle.cmi5_running_sessions.proofs.said.SaidBySession.hear.Goals.{in-Some, in-None}

pub returns : goal.returns
returns c =
    let key = c.args.session.now in
    elim c.match-get_mut.branch [
      | in-Some w ↦
          let new = w.hear.new.self in
          let found : lookup (is_same key) c.self.inside.map.entries ≡ Some w.in-Some.said.now = sym c.get_mut.ensures.value ∙ ap option_copied_mut w.in-Some.is in
          rw w.self-inside-is
          (changed_at key (option_map (own_behind c.args.statement.now)) (Some new) c.self.inside.map.entries c.args.self.now (c.get_mut.follows.lender new).entries c.self.view_is
          ((c.get_mut.follows.holds new).3 (ap is_some found)).0 (ap Some w.hear.ensures ∙ ap (λ o. option_map (own_behind c.args.statement.now) o) (sym found)))
      | in-None w ↦
          let none : lookup (is_same key) c.self.inside.map.entries ≡ None = sym c.get_mut.ensures.value ∙ ap option_copied_mut w.in-None.is in
          absurd (false≢true (sym (ap is_some none) ∙ (ap (λ (es : List (List ℕ × OwnSaid)). is_some (lookup (is_same key) es)) c.self.view_is ∙ c.requires)))
    ]
