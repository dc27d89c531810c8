use Rattle.std.proofs.Common.{◌≡◌, min, rules, subst, sym}
use Rattle.xapi_index.specs.Times.{AreLaterFrom}
use Rattle.xapi_index.proofs.Rising.{later_from}
use Rattle.xapi_index.proofs.times.later_in.Goals as goal

pub returns-then-rising : goal.returns-then-rising
returns-then-rising c =
    let least : c.min.result ≡ min c.first_later.result c.args.n = search rules in
    subst (λ first. AreLaterFrom c.args.held.now c.args.n c.args.instant first) (sym least) (later_from c.args.held.now c.args.instant c.first_later.result c.args.n c.first_later.ensures.parted)

pub first_later-requires : goal.first_later-requires
first_later-requires c = c.requires c.if-rising.true
