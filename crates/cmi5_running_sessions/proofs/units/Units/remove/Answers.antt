use Rattle.std.proofs.Common.{◌≡◌, ◌<◌, ◌+◌, ℕ, Bool, true, false, cond, List, None, is_some, length, refl, sym, subst, arith}
use Rattle.cmi5_running_sessions.specs.declared.units.Reached.{Reached}
use Rattle.cmi5_running_sessions.proofs.Altering.{changed_at}
use Rattle.cmi5_running_sessions.proofs.units.Units.remove.Goals as goal

-- one fewer of several is still one
still_one : (b : Bool) (n m : ℕ) → n + cond b 1 0 ≡ m → 1 < m → 0 < n
still_one true n m is many = omega arith
still_one false n m is many = omega arith

pub invariant_of-self : goal.invariant_of-self
invariant_of-self c =
    still_one (is_some c.remove.result) (length c.remove.new.self.entries) (length c.self.inside.map.entries) c.remove.ensures.len
    (subst (λ (es : List (List ℕ × Reached)). 1 < length es) (sym c.self.view_is) c.requires)

pub returns-clause-changed : goal.returns-clause-changed
returns-clause-changed c =
    changed_at c.args.activity.now (λ slot. None) None c.self.inside.map.entries c.args.self.now c.remove.new.self.entries c.self.view_is c.remove.ensures.updates.0 refl

pub returns-clause-some : goal.returns-clause-some
returns-clause-some c =
    still_one (is_some c.remove.result) (length c.remove.new.self.entries) (length c.self.inside.map.entries) c.remove.ensures.len
    (subst (λ (es : List (List ℕ × Reached)). 1 < length es) (sym c.self.view_is) c.requires)
