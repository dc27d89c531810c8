use Rattle.std.proofs.Common.{◌≡◌, ◌++◌, drop, false, map, nat_lt}
use Rattle.lrs_json.specs.View.{elements_of, view}
use Rattle.lrs_json.specs.Written.{Extends, elements_text}
use Rattle.lrs_fields.proofs.lent.put_texts.Given as goal

-- what is written and what is left are the whole text
abbrev pub invariant-loop-i : goal.invariant-loop-i
invariant-loop-i l =
    Extends l.fn.into.items l.into.items
    × (l.into.items ++ elements_text (nat_lt 0 l.i) (elements_of (map view (drop l.i l.texts))) ≡ l.fn.into.items ++ elements_text false (elements_of (map view l.texts)))
