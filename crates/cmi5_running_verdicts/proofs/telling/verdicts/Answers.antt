use Rattle.std.proofs.Common.{◌≡◌, ◌∙◌, ◌++◌, [], ◌∷◌, Bool, List, length, map, sym, ap, arith}
use Rattle.std.specs.List.{range_with_len}
use Rattle.std.proofs.lemmas.List.FromFn.{map-range_with_len_more}
use Rattle.cmi5_running_verdicts.specs.Told.{is_all_met_at}
use Rattle.cmi5_running_verdicts.proofs.telling.verdicts.Goals as goal

pub loop-index-init : goal.loop-index-init
loop-index-init c = c.in_ok-told.ensures.items

pub loop-index-preserved : goal.loop-index-preserved
loop-index-preserved c =
    let at = c.loop-index in
    let test = is_all_met_at c.args.tallies.now in
    ◌∙◌ {A = List Bool} c.in_ok-push.ensures.items
    (ap (λ x. at.told.items ++ x ∷ []) c.is_all_met_at.ensures
    ∙ (ap (λ (xs : List Bool). xs ++ test at.index ∷ []) at.invariant ∙ sym (map-range_with_len_more test 0 at.index at.index (omega arith))))

pub returns : goal.returns
returns c =
    let at = c.loop-index in
    let all : at.index ≡ length c.args.tallies.now = omega arith in
    at.invariant ∙ ap (λ n. map (is_all_met_at c.args.tallies.now) (range_with_len 0 n)) all
