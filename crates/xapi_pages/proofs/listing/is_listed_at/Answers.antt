use Rattle.std.proofs.Common.{◌≡◌, ◌≤◌, ◌&&◌, ◌∙◌, ap, sym, take}
use Rattle.std.proofs.lemmas.Result.{IfOk-weaker}
use Rattle.xapi_pages.specs.Chains.{chain_passes}
use Rattle.xapi_pages.specs.Searching.{TellsListed}
use Rattle.xapi_pages.proofs.Covering.{told_listed}
use Rattle.xapi_pages.proofs.listing.is_listed_at.Goals as goal

pub returns-then-may_be_listed-clause-listed : goal.returns-then-may_be_listed-clause-listed
returns-then-may_be_listed-clause-listed c =
    let query = c.args.query.now in
    let sought = c.args.sought.now in
    let held = c.args.index.now.held in
    let passes = chain_passes sought (take c.args.asof held) c.args.position in
    IfOk-weaker c.chain_passes.result (λ listed. c.chain_passes.new.walked ≤ c.args.most → listed ≡ passes)
    (λ listed. c.chain_passes.new.walked ≤ c.args.most → TellsListed query sought held c.args.asof c.args.position listed)
    (λ listed is within sight tells. is within ∙ sym (told_listed query sight sought held c.args.asof c.requires.asof tells c.args.position c.requires.within
    ∙ ap (λ may. may && passes) (sym c.may_be_listed.ensures ∙ c.if-may_be_listed.true)))
    c.chain_passes.ensures.passes

pub returns-else-may_be_listed-clause-listed : goal.returns-else-may_be_listed-clause-listed
returns-else-may_be_listed-clause-listed c = λ within sight tells.
    let query = c.args.query.now in
    let sought = c.args.sought.now in
    let held = c.args.index.now.held in
    sym (told_listed query sight sought held c.args.asof c.requires.asof tells c.args.position c.requires.within
    ∙ ap (λ may. may && chain_passes sought (take c.args.asof held) c.args.position) (sym c.may_be_listed.ensures ∙ c.if-may_be_listed.false))

pub returns-else-may_be_listed-clause-marks : goal.returns-else-may_be_listed-clause-marks
returns-else-may_be_listed-clause-marks c = λ within. c.requires.marks
