-- `least` gives the least.
use Rattle.std.proofs.Common.{◌≡◌, sym, subst, arith}
use Rattle.lrs_json.specs.View.{view}
use Rattle.lrs_agents.specs.Agents.{group_faults}
use Rattle.lrs_names.specs.Rules.{least, IsLeast}
use Rattle.lrs_names.proofs.RuleLemmas.{least-append, lesser_assoc, lesser-none, least_is}
use Rattle.lrs_agents.proofs.groups.Group.broken.Goals as goal

pub returns-clause-law : goal.returns-clause-law
unfolding group_faults
returns-clause-law c =
    let same : c.lesser.result ≡ least (group_faults (view c.args.tree.now)) = grind (arith, least-append, lesser_assoc, lesser-none) in
    subst (λ o. IsLeast (group_faults (view c.args.tree.now)) o) (sym same) (least_is (group_faults (view c.args.tree.now)))
