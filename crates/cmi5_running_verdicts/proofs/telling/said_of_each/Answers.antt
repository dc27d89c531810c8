use Rattle.std.proofs.Common.{◌≡◌, ◌∙◌, ◌++◌, [], ◌∷◌, List, length, map, sym, ap, arith}
use Rattle.std.specs.List.{range_with_len}
use Rattle.std.proofs.lemmas.List.FromFn.{map-range_with_len_more}
use Rattle.cmi5_running_verdicts.specs.Told.{said_at}
use Rattle.cmi5_verdict.specs.declared.said.Said.{Said}
use Rattle.cmi5_running_verdicts.proofs.telling.said_of_each.Goals as goal

pub loop-index-init : goal.loop-index-init
loop-index-init c = c.in_ok-said.ensures.items

pub loop-index-preserved : goal.loop-index-preserved
loop-index-preserved c =
    let at = c.loop-index in
    let test = said_at c.args.tallies.now in
    ◌∙◌ {A = List Said} c.in_ok-push.ensures.items
    (ap (λ x. at.said.items ++ x ∷ []) c.said_at.ensures
    ∙ (ap (λ (xs : List Said). xs ++ test at.index ∷ []) at.invariant ∙ sym (map-range_with_len_more test 0 at.index at.index (omega arith))))

pub returns-clause-said : goal.returns-clause-said
returns-clause-said c =
    let at = c.loop-index in
    let all : at.index ≡ length c.args.tallies.now = omega arith in
    at.invariant ∙ ap (λ n. map (said_at c.args.tallies.now) (range_with_len 0 n)) all

pub returns-clause-few : goal.returns-clause-few
returns-clause-few c = omega arith
