use Rattle.std.proofs.Common.{◌≡◌, ◌++◌, List, Bool, OnOk, subst, sym}
use Rattle.std.specs.List.{AllByRecursion}
use Rattle.lrs_reads.specs.LrsRefusalsJudged.{IsJudgedTree}
use Rattle.lrs_reads.specs.LrsRefusalsKnown.{TellHeld}
use Rattle.lrs_reads.specs.LrsRefusalsNaming.{with_these_ids}
use Rattle.lrs_reads.specs.LrsHistoryEffects.{new_by}
use Rattle.lrs_json.specs.declared.tree.Tree.{Tree}
use Rattle.lrs_learning.specs.LrsPartsParts.{state_of}
use Rattle.lrs_fold.proofs.fold.Fold.push_each.Goals as goal

pub push_left-pushed-requires-clause-judged : goal.push_left-pushed-requires-clause-judged
push_left-pushed-requires-clause-judged c = subst (λ (ts : List Tree). AllByRecursion IsJudgedTree ts) (sym c.into_iter-left.ensures.rest) c.requires.judged

pub push_left-pushed-requires-clause-told : goal.push_left-pushed-requires-clause-told
push_left-pushed-requires-clause-told c =
    subst (λ (flags : List Bool). TellHeld (state_of c.args.self.now.parts) flags c.args.ids.now) (sym c.into_iter-flags.ensures.rest) c.requires.told

pub returns : goal.returns
returns c =
    let st = state_of c.args.self.now.parts in
    subst (λ (ts : List Tree). OnOk c.push_left-pushed.result (c.push_left-pushed.new.added.items ≡ c.args.added.now.items ++ new_by st c.args.who c.args.moment (with_these_ids c.args.ids.now ts)))
    c.into_iter-left.ensures.rest c.push_left-pushed.ensures
