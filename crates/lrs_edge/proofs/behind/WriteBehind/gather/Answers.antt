use Rattle.std.proofs.Common.{◌∙◌, ℕ, List, ap, arith}
use Rattle.lrs_edge.specs.Behind.{over}
use Rattle.lrs_edge.proofs.Waiting.{gathered}
use Rattle.lrs_edge.proofs.behind.WriteBehind.gather.Goals as goal

pub returns-in-Ok-clause-waits : goal.returns-in-Ok-clause-waits
returns-in-Ok-clause-waits g c h =
    ap (λ (l : List ℕ). over (g.B.Bytes.told c.args.self.now.inner) c.begin-start.result l) c.in-Ok.ensures.items
    ∙ gathered (g.B.Bytes.told c.args.self.now.inner) c.args.self.now.start c.begin-start.result c.args.offset c.args.self.now.waiting.items c.args.bytes.now c.begin-start.ensures
    (omega (arith, c.follows.ensures c.if-not-follows.false, c.len-size.ensures))
