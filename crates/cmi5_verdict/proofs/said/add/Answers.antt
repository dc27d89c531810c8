use Rattle.std.proofs.Common.{◌∙◌, sym, ap, arith}
use Rattle.std.specs.Prelude.{if◌then◌else◌}
use Rattle.cmi5_verdict.specs.Said.{either, said_of, unsaid}
use Rattle.cmi5_verdict.proofs.Spoken.{added_from, before_first, either_unsaid}
use Rattle.cmi5_verdict.proofs.said.add.Goals as goal

pub returns-then-index-first-clause-added : goal.returns-then-index-first-clause-added
returns-then-index-first-clause-added c = λ k lt.
    let old = said_of c.args.said.now k in
    sym (ap (λ b. either old (if b then c.args.more else unsaid)) (before_first c.args.first c.args.index k (omega arith)) ∙ either_unsaid old)

pub returns-clause-added : goal.returns-clause-added
returns-clause-added c = λ k lt.
    ap (λ ss. said_of ss k) c.add_at.ensures ∙ added_from c.args.said.now c.args.first c.args.index k c.args.more lt (omega arith)
