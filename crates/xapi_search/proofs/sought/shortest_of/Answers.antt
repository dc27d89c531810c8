use Rattle.std.proofs.Common.{◌≡◌, slice_get, arith, rules}
use Rattle.std.proofs.lemmas.Grind.{common_steps}
use Rattle.std.proofs.lemmas.Option.{gets}
use Rattle.xapi_search.proofs.Narrowed.{none_there, one_ascending, one_passing}
use Rattle.xapi_search.proofs.sought.shortest_of.Goals as goal

pub returns-clause-passing : goal.returns-clause-passing
returns-clause-passing c =
    let there : c.copied.result ≡ slice_get c.args.lists.now c.loop-i.best = first_of (search rules, grind (arith, common_steps, gets)) in
    one_passing c.args.lists.now c.loop-i.best c.copied.result there

pub returns-clause-ascending : goal.returns-clause-ascending
returns-clause-ascending c =
    let there : c.copied.result ≡ slice_get c.args.lists.now c.loop-i.best = first_of (search rules, grind (arith, common_steps, gets)) in
    one_ascending c.args.lists.now c.loop-i.best c.copied.result there c.requires

pub returns-clause-none : goal.returns-clause-none
returns-clause-none c =
    let there : c.copied.result ≡ slice_get c.args.lists.now c.loop-i.best = first_of (search rules, grind (arith, common_steps, gets)) in
    let before = c.loop-i.invariant in
    let upto = c.loop-i.auto.i-end in
    let past = c.loop-i-test.false in
    none_there c.args.lists.now c.loop-i.best c.copied.result there (λ some. omega arith)
