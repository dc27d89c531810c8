use Rattle.std.proofs.Common.{◌∙◌, [], List, sym, subst}
use Rattle.std.proofs.lemmas.List.{with_items_is}
use Rattle.cmi5_running_verdicts.specs.Tallies.{AreTallies}
use Rattle.cmi5_running_verdicts.specs.declared.tally.Tally.{Tally}
use Rattle.cmi5_running_verdicts.proofs.Fresh.{fresh_stand}
use Rattle.cmi5_running_verdicts.proofs.counting.fresh.Goals as goal

pub returns : goal.returns
returns c = λ e same.
    subst (λ (ts : List Tally). AreTallies e [] ts) (sym (with_items_is c.in_ok-tallies.tallies c.raise_each.new.tallies (c.raise_each.ensures.long ∙ c.as_mut_slice.ensures.len)))
    (fresh_stand e c.args.nodes.now c.as_mut_slice.result.now c.raise_each.new.tallies same (c.as_mut_slice.ensures.value ∙ c.in_ok-tallies.ensures) c.raise_each.ensures.long c.raise_each.ensures.raised)
