use Rattle.lrs_made.proofs.Satisfied.{said_more}
use Rattle.lrs_made.proofs.owing.push_of_node.Goals as goal

pub returns : goal.returns
returns c = said_more c.args.said.now.items c.push.new.self.items c.in_ok-statement.statement _ c.in_ok-push.ensures.items c.in_ok-statement.ensures
