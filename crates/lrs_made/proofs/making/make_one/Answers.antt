use Rattle.lrs_ids.specs.IdSupply.{left_of}
use Rattle.lrs_parts.specs.Parts.{state_of}
use Rattle.lrs_history.specs.LrsStateState.{used_in}
use Rattle.lrs_made.proofs.Supplied.{one_made}
use Rattle.lrs_made.proofs.making.make_one.Goals as goal

pub returns-clause-made : goal.returns-clause-made
returns-clause-made c =
    one_made (left_of (used_in (state_of c.args.parts.now)) c.args.supply.now) c.args.moment c.args.statement.tree c.in_ok-id.id c.complete.result c.args.made.now.items c.push.new.self.items
    c.in_ok-id.ensures.id c.complete.ensures c.in_ok-push.ensures.items

pub returns-clause-left : goal.returns-clause-left
returns-clause-left c = c.in_ok-id.ensures.left
