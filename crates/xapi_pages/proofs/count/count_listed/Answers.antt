use Rattle.std.proofs.Common.{◌≡◌, ◌≤◌, ◌<◌, ◌∙◌, ℕ, ap, sym, subst, drop, length, arith}
use Rattle.std.specs.Prelude.{cond}
use Rattle.std.specs.List.{range_with_len}
use Rattle.std.proofs.lemmas.List.{drop_all}
use Rattle.std.proofs.lemmas.List.FromFn.{length-range_with_len}
use Rattle.xapi_pages.specs.Listings.{every, is_listed_at}
use Rattle.xapi_search.specs.XapiQuerySightSightTheVariants.{All}
use Rattle.xapi_pages.proofs.Counts.{listed_all, passing, passing_at}
use Rattle.xapi_pages.proofs.count.count_listed.Goals as goal
use Rattle.xapi_pages.proofs.count.count_listed.Goals.{then-is_counted, else-is_counted}

pub loop-at-init : goal.loop-at-init
loop-at-init c =
    let all = listed_all c.args.index.now.held in
    record { counted = omega (arith, all); few = omega arith }

pub loop-at-preserved : goal.loop-at-preserved
loop-at-preserved c =
    let at = c.loop-at in
    let held = c.args.index.now.held in
    let near : at.at < length held = subst (λ n. at.at < n) c.len-at-end.ensures c.loop-at-test.true in
    let next = passing_at (is_listed_at every All held) (length held) at.at near in
    let counted = at.invariant.counted in
    let few = at.invariant.few in
    elim c.if-is_counted.branch [
      | then-is_counted w ↦
          let one : ◌≡◌ {A = ℕ} (cond (is_listed_at every All held at.at) 1 0) 1 = ap (λ b. cond b 1 0) (sym c.is_counted.ensures ∙ w.if-is_counted.true) in
          let is = w.listed-is in
          record { counted = omega (arith, is, one, next, counted); few = omega (arith, is, few) }
      | else-is_counted w ↦
          let none : ◌≡◌ {A = ℕ} (cond (is_listed_at every All held at.at) 1 0) 0 = ap (λ b. cond b 1 0) (sym c.is_counted.ensures ∙ w.if-is_counted.false) in
          let is = w.listed-is in
          record { counted = omega (arith, is, none, next, counted); few = omega (arith, is, few) }
    ]

pub returns : goal.returns
returns c =
    let at = c.loop-at in
    let held = c.args.index.now.held in
    let all = range_with_len 0 (length held) in
    let ended : length held ≤ at.at = subst (λ n. n ≤ at.at) c.len-at-end.ensures c.loop-at-test.false in
    let past : length all ≤ at.at = subst (λ n. n ≤ at.at) (sym (length-range_with_len 0 (length held))) ended in
    let none : passing (is_listed_at every All held) (drop at.at all) ≡ 0 = ap (passing (is_listed_at every All held)) (drop_all at.at all past) in
    let counted = at.invariant.counted in
    omega (arith, none, counted)
