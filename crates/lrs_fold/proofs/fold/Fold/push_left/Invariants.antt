use Rattle.std.proofs.Common.{◌≡◌, ◌++◌, drop}
use Rattle.std.specs.List.{AllByRecursion}
use Rattle.std.specs.Vec.Iter.{into_iter_items}
use Rattle.lrs_reads.specs.LrsRefusalsJudged.{IsJudgedTree}
use Rattle.lrs_reads.specs.LrsRefusalsKnown.{TellHeld}
use Rattle.lrs_reads.specs.LrsRefusalsNaming.{with_these_ids}
use Rattle.lrs_reads.specs.LrsHistoryEffects.{new_by}
use Rattle.lrs_learning.specs.LrsPartsParts.{state_of}
use Rattle.lrs_fold.proofs.fold.Fold.push_left.Given as goal

-- those so far, and those of what is left
abbrev pub invariant-loop-id : goal.invariant-loop-id
invariant-loop-id l = record {
  pushed : l.added.items ++ new_by (state_of l.self.parts) l.who l.moment (with_these_ids (drop l.id-index l.ids) (into_iter_items l.statements))
      ≡ l.fn.added.items ++ new_by (state_of l.self.parts) l.who l.moment (with_these_ids l.ids (into_iter_items l.fn.statements));
  judged : AllByRecursion IsJudgedTree (into_iter_items l.statements);
  told : TellHeld (state_of l.self.parts) (into_iter_items l.held) (drop l.id-index l.ids);
}
