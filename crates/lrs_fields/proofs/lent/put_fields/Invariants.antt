use Rattle.std.proofs.Common.{◌≡◌, ◌++◌, drop, false, map, nat_lt}
use Rattle.std.specs.List.{AllByRecursion}
use Rattle.lrs_json.specs.View.{members_of}
use Rattle.lrs_json.specs.Written.{Extends, members_text}
use Rattle.lrs_fields.specs.Values.{HoldsValue, lent, members_for}
use Rattle.lrs_fields.proofs.lent.put_fields.Given as goal

-- what is written and what is left are the whole text
abbrev pub invariant-loop-i : goal.invariant-loop-i
invariant-loop-i l =
    Extends l.fn.into.items l.into.items
    × (l.into.items ++ members_text (nat_lt 0 l.i) (members_of (members_for (map (λ field. (field.0.now, lent field.1)) (drop l.i l.fields))))
    ≡ l.fn.into.items ++ members_text false (members_of (members_for (map (λ field. (field.0.now, lent field.1)) l.fields))))
    × (AllByRecursion (λ field. HoldsValue (lent field.1)) (drop l.i l.fields) → AllByRecursion (λ field. HoldsValue (lent field.1)) l.fields)
