use Rattle.std.proofs.Common.{subst}
use Rattle.xapi_pages.specs.Chains.{IsMarked}
use Rattle.xapi_pages.proofs.Ways.{marked_anew}
use Rattle.xapi_pages.proofs.chains.Marks.set.Goals as goal

pub returns : goal.returns
returns c =
    let new = c.insert.new.self.entries in
    subst (λ old. IsMarked old c.args.position c.args.mark new) c.self.view_is
    (marked_anew c.self.inside.map.entries new c.args.position c.args.mark c.in_ok-insert.ensures.updates.0)
