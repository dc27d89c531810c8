use Rattle.std.specs.Str.{bytes_eq}
use Rattle.xapi_index.proofs.Firsts.{lt_no, lt_yes, index_first, index_nowhere, index_past}
use Rattle.xapi_index.proofs.index.Index.position_in.Goals as goal

pub returns-then-position-n : goal.returns-then-position-n
returns-then-position-n c =
    index_first (λ s. bytes_eq s.id c.args.id.now) c.args.n c.args.self.now.held c.position_of.result c.in-Some.position c.in-Some.is c.position_of.ensures (lt_yes c.in-Some.position c.args.n c.if-position-n.true)

pub returns-else-position-n : goal.returns-else-position-n
returns-else-position-n c =
    index_past (λ s. bytes_eq s.id c.args.id.now) c.args.n c.args.self.now.held c.position_of.result c.in-Some.position c.in-Some.is c.position_of.ensures (lt_no c.in-Some.position c.args.n c.if-position-n.false)

pub returns-in-None : goal.returns-in-None
returns-in-None c = index_nowhere (λ s. bytes_eq s.id c.args.id.now) c.args.n c.args.self.now.held c.position_of.result c.in-None.is c.position_of.ensures
