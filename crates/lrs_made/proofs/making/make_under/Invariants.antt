use Rattle.std.proofs.Common.{◌≡◌, ◌++◌, map}
use Rattle.std.specs.Vec.Iter.{into_iter_items}
use Rattle.lrs_history.specs.Made.{left_behind, made_under}
use Rattle.lrs_ids.specs.IdSupply.{GiveSame, left_of}
use Rattle.lrs_parts.specs.Parts.{state_of}
use Rattle.lrs_history.specs.LrsStateState.{used_in}
use Rattle.lrs_made.proofs.Supplied.{value_of}
use Rattle.lrs_made.proofs.making.make_under.Given as goal

-- those so far, and those of what is left
abbrev pub invariant-loop-statement : goal.invariant-loop-statement
invariant-loop-statement l = record {
  made : l.made.items ++ made_under (left_of (used_in (state_of l.parts)) l.supply) l.moment (map value_of (into_iter_items l.statement-iterator))
      ≡ l.fn.made.items ++ made_under (left_of (used_in (state_of l.parts)) l.fn.supply) l.moment (map value_of l.fn.said.items);
  left : GiveSame (left_behind (left_of (used_in (state_of l.parts)) l.supply) (into_iter_items l.statement-iterator))
      (left_behind (left_of (used_in (state_of l.parts)) l.fn.supply) l.fn.said.items);
}
