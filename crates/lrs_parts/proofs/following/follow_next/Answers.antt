use Rattle.std.proofs.Common.{arith}
use Rattle.lrs_parts.proofs.Arrivals.{past_last}
use Rattle.lrs_parts.proofs.Kept.{slots_kept}
use Rattle.lrs_parts.proofs.following.follow_next.Goals as goal

pub follow_at-requires-clause-there : goal.follow_at-requires-clause-there
follow_at-requires-clause-there c = c.requires.there

pub returns-then-at-long-clause-follows : goal.returns-then-at-long-clause-follows
returns-then-at-long-clause-follows c = c.follow_at.ensures.follows

pub returns-then-at-long-clause-slots : goal.returns-then-at-long-clause-slots
returns-then-at-long-clause-slots c = c.follow_at.ensures.slots

pub returns-else-at-long-clause-next : goal.returns-else-at-long-clause-next
returns-else-at-long-clause-next c = past_last c.args.statements.now.held c.args.at c.args.statement.now (omega (arith, c.if-at-long.false, c.len-long.ensures))

pub returns-else-at-long-clause-follows : goal.returns-else-at-long-clause-follows
returns-else-at-long-clause-follows c = λ follows. follows

pub returns-else-at-long-clause-slots : goal.returns-else-at-long-clause-slots
returns-else-at-long-clause-slots c = slots_kept c.args.progress.now.sessions
