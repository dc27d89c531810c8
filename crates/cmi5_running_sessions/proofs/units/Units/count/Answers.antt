use Rattle.std.proofs.Common.{◌≡◌, ◌∙◌, ℕ, List, Some, None, is_some, sym, ap, arith, option_map}
use Rattle.std.specs.Map.{lookup}
use Rattle.std.specs.Option.{option_copied_mut}
use Rattle.std.proofs.lemmas.Bool.{false≢true}
use Rattle.lrs_json.specs.View.{view}
use Rattle.cmi5_running_sessions.specs.Maps.{reached_behind}
use Rattle.cmi5_running_sessions.specs.Kept.{is_same}
use Rattle.cmi5_running_sessions.specs.declared.units.Reached.{Reached}
use Rattle.cmi5_running_sessions.proofs.Altering.{changed_at}
use Rattle.cmi5_running_sessions.proofs.units.Units.count.Goals as goal
use Rattle.cmi5_running_sessions.proofs.units.Units.count.Goals.{in-Some, in-None}

pub invariant_of-self : goal.invariant_of-self
invariant_of-self c =
    let key = c.args.activity.now in
    elim c.match-get_mut.branch [
      | in-Some w ↦
          let same = (c.get_mut.follows.holds w.count.new.self).2 in
          let some = c.self.invariant in
          rw w.self-inside-is (omega arith)
      | in-None w ↦
          let none : lookup (is_same key) c.self.inside.map.entries ≡ None = sym c.get_mut.ensures.value ∙ ap option_copied_mut w.in-None.is in
          absurd (false≢true (sym (ap is_some none) ∙ (ap (λ (es : List (List ℕ × Reached)). is_some (lookup (is_same key) es)) c.self.view_is ∙ c.requires)))
    ]

pub returns : goal.returns
returns c =
    let key = c.args.activity.now in
    let change = reached_behind (view c.args.statement.now) in
    elim c.match-get_mut.branch [
      | in-Some w ↦
          let new = w.count.new.self in
          let found : lookup (is_same key) c.self.inside.map.entries ≡ Some w.in-Some.reached.now = sym c.get_mut.ensures.value ∙ ap option_copied_mut w.in-Some.is in
          rw w.self-inside-is
          (changed_at key (option_map change) (Some new) c.self.inside.map.entries c.args.self.now (c.get_mut.follows.lender new).entries c.self.view_is
          ((c.get_mut.follows.holds new).3 (ap is_some found)).0 (ap Some w.count.ensures ∙ ap (λ o. option_map change o) (sym found)))
      | in-None w ↦
          let none : lookup (is_same key) c.self.inside.map.entries ≡ None = sym c.get_mut.ensures.value ∙ ap option_copied_mut w.in-None.is in
          absurd (false≢true (sym (ap is_some none) ∙ (ap (λ (es : List (List ℕ × Reached)). is_some (lookup (is_same key) es)) c.self.view_is ∙ c.requires)))
    ]
