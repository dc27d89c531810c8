use Rattle.std.proofs.Common.{◌∙◌, ◌+◌, Bool, ap, sym}
use Rattle.std.specs.Prelude.{if◌then◌else◌}
use Rattle.lrs_parts.proofs.Kept.{slots_kept}
use Rattle.lrs_parts.proofs.following.follow_at.Goals as goal

pub follow-requires-clause-there : goal.follow-requires-clause-there
follow-requires-clause-there c = c.requires.there (sym c.is_statement_at.ensures ∙ c.if-is_statement_at.true)

pub returns-then-is_statement_at-clause-next : goal.returns-then-is_statement_at-clause-next
returns-then-is_statement_at-clause-next c = sym (ap (λ (b : Bool). if b then c.args.at + 1 else c.args.at) (sym c.is_statement_at.ensures ∙ c.if-is_statement_at.true))

pub returns-then-is_statement_at-clause-follows : goal.returns-then-is_statement_at-clause-follows
returns-then-is_statement_at-clause-follows c = c.follow.ensures.follows

pub returns-then-is_statement_at-clause-slots : goal.returns-then-is_statement_at-clause-slots
returns-then-is_statement_at-clause-slots c = c.follow.ensures.slots

pub returns-else-is_statement_at-clause-next : goal.returns-else-is_statement_at-clause-next
returns-else-is_statement_at-clause-next c = sym (ap (λ (b : Bool). if b then c.args.at + 1 else c.args.at) (sym c.is_statement_at.ensures ∙ c.if-is_statement_at.false))

pub returns-else-is_statement_at-clause-follows : goal.returns-else-is_statement_at-clause-follows
returns-else-is_statement_at-clause-follows c = λ follows. follows

pub returns-else-is_statement_at-clause-slots : goal.returns-else-is_statement_at-clause-slots
returns-else-is_statement_at-clause-slots c = slots_kept c.args.progress.now.sessions
