use Rattle.std.proofs.Common.{ℕ, List, Bool, ◌∙◌, subst, sym}
use Rattle.std.specs.List.{AllByRecursion}
use Rattle.lrs_fold.proofs.Owed.{post_kept}
use Rattle.lrs_reads.specs.LrsRefusalsJudged.{IsJudgedTree}
use Rattle.lrs_reads.specs.LrsRefusalsKnown.{IsKnownOf, TellHeld}
use Rattle.lrs_json.specs.declared.tree.Tree.{Tree}
use Rattle.lrs_learning.specs.LrsPartsParts.{state_of}
use Rattle.lrs_fold.proofs.fold.Fold.post.Goals as goal

pub known_batch-requires : goal.known_batch-requires
known_batch-requires c = subst (λ (ts : List Tree). IsKnownOf (state_of c.args.self.now.parts) c.args.draw.now ts c.args.known.now) (sym c.as_slice.ensures) c.requires.known

pub new_of_batch-requires-clause-judged : goal.new_of_batch-requires-clause-judged
new_of_batch-requires-clause-judged c = subst (λ (ts : List Tree). AllByRecursion IsJudgedTree ts) (sym c.into_vec-trees.ensures) c.requires.judged

pub new_of_batch-requires-clause-told : goal.new_of_batch-requires-clause-told
new_of_batch-requires-clause-told c =
    let st = state_of c.args.self.now.parts in
    subst (λ (flags : List Bool). TellHeld st flags c.as_slice-2.result.now) (sym c.into_vec-flags.ensures)
    (subst (λ (ids : List (List ℕ)). TellHeld st c.in_ok-batch.batch.held ids) (sym c.as_slice-2.ensures) c.in_ok-batch.ensures.held)

pub returns : goal.returns
returns c =
    c.writing_all.ensures
    ∙ post_kept (state_of c.args.self.now.parts) c.args.who c.args.moment c.args.draw.now c.args.statements c.as_slice.result.now c.into_vec-trees.result.items c.in_ok-batch.batch c.as_slice-2.result.now
    c.in_ok-added.added.items c.owe_behind.new.added.items c.as_slice.ensures c.into_vec-trees.ensures c.as_slice-2.ensures c.in_ok-batch.ensures c.in_ok-added.ensures c.in_ok-owe_behind.ensures
