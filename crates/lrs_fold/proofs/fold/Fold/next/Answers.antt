use Rattle.std.proofs.Common.{Option, sym, ◌∙◌}
use Rattle.std.proofs.lemmas.Result.{IfOk-weaker}
use Rattle.lrs_learning.specs.LrsPartsParts.{state_of}
use Rattle.lrs_learning.specs.LrsStateEffectEffect.{Effect}
use Rattle.lrs_reads.specs.LrsRefusalsHandedProofs.{nothing_known}
use Rattle.lrs_fold.specs.Next.{Changes, Comes}
use Rattle.lrs_fold.proofs.Coming.{comes}
use Rattle.lrs_fold.proofs.fold.Fold.next.Goals as goal

pub may_be_next-requires-clause-known : goal.may_be_next-requires-clause-known
may_be_next-requires-clause-known c = nothing_known (state_of c.args.self.now.parts) c.args.entry.draw c.args.entry.write

pub returns-in-Ok-true : goal.returns-in-Ok-true
returns-in-Ok-true c =
    IfOk-weaker c.prepare_next.result (λ (next : Option Effect). Changes c.args.first (state_of c.args.self.now.parts) c.args.entry next)
    (λ (next : Option Effect). Comes c.args.first (state_of c.args.self.now.parts) c.args.entry next)
    (λ next is. comes c.args.first (state_of c.args.self.now.parts) c.args.entry next (sym c.in-Ok-true.ensures.may ∙ c.in-Ok-true.field-0-test) is)
    c.prepare_next.ensures
