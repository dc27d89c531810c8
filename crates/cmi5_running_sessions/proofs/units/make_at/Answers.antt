use Rattle.std.proofs.Common.{◌≡◌, ◌≤◌, ◌+◌, ◌∙◌, ℕ, Bool, true, false, cond, if◌then◌else◌, Some, is_some, length, refl, sym, ap, arith}
use Rattle.std.specs.Map.{lookup}
use Rattle.cmi5_running_sessions.specs.Kept.{is_same, nothing_reached}
use Rattle.cmi5_running_sessions.specs.declared.units.Reached.{Reached}
use Rattle.cmi5_running_sessions.proofs.Altering.{made_new, made_same, put_there}
use Rattle.cmi5_running_sessions.proofs.units.make_at.Goals as goal

not_shorter : (b : Bool) (n m : ℕ) → m ≡ n + (if b then 0 else 1) → n ≤ m
not_shorter true n m is = omega arith
not_shorter false n m is = omega arith

pub returns-then-contains_key-clause-made : goal.returns-then-contains_key-clause-made
returns-then-contains_key-clause-made c = made_same nothing_reached (λ k. is_same c.args.activity.now k) c.args.map.now.entries c.args.map.now.entries refl

pub returns-then-contains_key-clause-there : goal.returns-then-contains_key-clause-there
returns-then-contains_key-clause-there c = sym c.contains_key.ensures ∙ c.if-contains_key.true

pub returns-in_err-insert-clause-made : goal.returns-in_err-insert-clause-made
returns-in_err-insert-clause-made c = made_same nothing_reached (λ k. is_same c.args.activity.now k) c.args.map.now.entries c.insert.new.self.entries c.in_err-insert.ensures.err

pub returns-clause-made : goal.returns-clause-made
returns-clause-made c =
    made_new nothing_reached c.args.activity.now c.in_ok-clone.field-0 c.args.map.now.entries c.args.map.now.entries c.insert.new.self.entries c.in_ok-clone.ensures.cases refl
    (sym c.contains_key.ensures ∙ c.if-contains_key.false)
    (λ k. c.in_ok-insert.ensures.updates.0 k
    ∙ ap (λ (r : Reached). cond (is_same c.in_ok-clone.field-0 k) (Some r) (lookup (is_same k) c.args.map.now.entries)) c.nothing.ensures)

pub returns-clause-there : goal.returns-clause-there
returns-clause-there c =
    put_there c.args.activity.now c.in_ok-clone.field-0 c.nothing.result c.args.map.now.entries c.insert.new.self.entries c.in_ok-clone.ensures.cases c.in_ok-insert.ensures.updates.0

pub returns-clause-longer : goal.returns-clause-longer
returns-clause-longer c = not_shorter (is_some c.in_ok-insert.field-0) (length c.args.map.now.entries) (length c.insert.new.self.entries) c.in_ok-insert.ensures.len
