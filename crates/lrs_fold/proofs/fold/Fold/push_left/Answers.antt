use Rattle.std.proofs.Common.{◌≡◌, ◌∷◌, ◌++◌, ◌+◌, ℕ, List, Bool, drop, subst, sym}
use Rattle.std.specs.List.{AllByRecursion}
use Rattle.std.specs.Vec.Iter.{into_iter_items}
use Rattle.lrs_reads.specs.LrsRefusalsJudged.{IsJudgedTree}
use Rattle.lrs_reads.specs.LrsRefusalsKnown.{TellHeld}
use Rattle.lrs_reads.specs.LrsRefusalsNaming.{with_these_ids}
use Rattle.lrs_reads.specs.LrsHistoryEffects.{new_by}
use Rattle.lrs_learning.specs.LrsPartsParts.{state_of}
use Rattle.lrs_reads.specs.LrsRefusalsHandedProofs.{tells_more, tells_next}
use Rattle.lrs_fold.proofs.Pushed.{pushed_more, pushed_no_ids}
use Rattle.lrs_fold.proofs.fold.Fold.push_left.Goals as goal
use Rattle.lrs_json.proofs.Lists.{drop_item}

pub is_next_held-is_held-requires : goal.is_next_held-is_held-requires
is_next_held-is_held-requires c =
    let st = state_of c.args.self.now.parts in
    let ids = c.args.ids.now in
    let at = c.loop-id in
    let id = c.id-item.result in
    tells_next st (into_iter_items at.held) id (drop (at.id-index + 1) ids)
    (subst (λ (names : List (List ℕ)). TellHeld st (into_iter_items at.held) names) (drop_item ids at.id-index id c.loop-id-test.true c.id-item.is) at.invariant.told)

pub push_new-requires-clause-judged : goal.push_new-requires-clause-judged
push_new-requires-clause-judged c =
    let steps : into_iter_items c.loop-id.statements ≡ c.in-Some.statement ∷ into_iter_items c.next.new.self = c.in-Some.ensures.items in
    (subst (λ ts. AllByRecursion IsJudgedTree ts) steps c.loop-id.invariant.judged).0

pub push_new-requires-clause-held : goal.push_new-requires-clause-held
push_new-requires-clause-held c = c.is_next_held-is_held.ensures.held

pub loop-id-preserved : goal.loop-id-preserved
loop-id-preserved c =
    let st = state_of c.args.self.now.parts in
    let ids = c.args.ids.now in
    let at = c.loop-id in
    let id = c.id-item.result in
    let rest = into_iter_items c.next.new.self in
    let steps : into_iter_items at.statements ≡ c.in-Some.statement ∷ rest = c.in-Some.ensures.items in
    let all = c.args.added.now.items ++ new_by st c.args.who c.args.moment (with_these_ids ids (into_iter_items c.args.statements.now)) in
    let so_far : at.added.items ++ new_by st c.args.who c.args.moment (with_these_ids (drop at.id-index ids) (c.in-Some.statement ∷ rest)) ≡ all =
    subst (λ ts. at.added.items ++ new_by st c.args.who c.args.moment (with_these_ids (drop at.id-index ids) ts) ≡ all) steps at.invariant.pushed in
    record {
      pushed = pushed_more st c.args.who c.args.moment ids at.id-index id c.in-Some.statement rest at.added.items c.push_new.new.added.items all
          (drop_item ids at.id-index id c.loop-id-test.true c.id-item.is) c.in_ok-push_new-in-Some.ensures so_far;
      judged = (subst (λ ts. AllByRecursion IsJudgedTree ts) steps at.invariant.judged).1;
      told = subst (λ (flags : List Bool). TellHeld st flags (drop (at.id-index + 1) ids)) (sym c.is_next_held-is_held.ensures.rest)
          (tells_more st (into_iter_items at.held) id (drop (at.id-index + 1) ids)
          (subst (λ (names : List (List ℕ)). TellHeld st (into_iter_items at.held) names) (drop_item ids at.id-index id c.loop-id-test.true c.id-item.is) at.invariant.told));
    }

pub returns : goal.returns
returns c =
    let st = state_of c.args.self.now.parts in
    let at = c.loop-id in
    let all = c.args.added.now.items ++ new_by st c.args.who c.args.moment (with_these_ids c.args.ids.now (into_iter_items c.args.statements.now)) in
    pushed_no_ids st c.args.who c.args.moment c.args.ids.now at.id-index (into_iter_items at.statements) at.added.items all c.loop-id-test.false at.invariant.pushed
