use Rattle.std.proofs.Common.{◌≡◌, ◌≤◌, ◌∙◌, sym, take}
use Rattle.std.proofs.lemmas.Result.{IfOk-weaker}
use Rattle.xapi_search.specs.XapiStatementStatements.{referred_at}
use Rattle.xapi_pages.specs.Chains.{chain_passes, is_direct_at, mark_at}
use Rattle.xapi_pages.proofs.References.{passing_first}
use Rattle.xapi_pages.proofs.Ways.{known_now, unknown}
use Rattle.xapi_pages.proofs.chains.chain_passes.Goals as goal

pub returns-in-Some-clause-passes : goal.returns-in-Some-clause-passes
returns-in-Some-clause-passes c = λ within.
    let held = take c.args.asof c.args.index.now.held in
    sym (known_now (is_direct_at c.args.sought.now) (referred_at held) c.args.asof (chain_passes c.args.sought.now held) c.args.marks.now c.args.position
    (passing_first c.args.sought.now c.args.index.now.held c.args.asof c.requires.asof) c.requires.marks c.in-Some.passes (sym c.known_at.ensures ∙ c.in-Some.is))

pub returns-in-Some-clause-marks : goal.returns-in-Some-clause-marks
returns-in-Some-clause-marks c = λ within. c.requires.marks

pub follow-requires-clause-within : goal.follow-requires-clause-within
follow-requires-clause-within c =
    let is = passing_first c.args.sought.now c.args.index.now.held c.args.asof c.requires.asof in
    is.within c.args.position c.in-Some-referred_at.next (sym c.referred_at.ensures ∙ c.in-Some-referred_at.is)

pub returns-in-Some-referred_at-clause-passes : goal.returns-in-Some-referred_at-clause-passes
returns-in-Some-referred_at-clause-passes c =
    let held = take c.args.asof c.args.index.now.held in
    let is = passing_first c.args.sought.now c.args.index.now.held c.args.asof c.requires.asof in
    let fails = (unknown (mark_at c.args.marks.now c.args.position) (is_direct_at c.args.sought.now c.args.position) (sym c.known_at.ensures ∙ c.in_default.is)).1 in
    let step = is.on c.args.position c.in-Some-referred_at.next c.requires.within fails (sym c.referred_at.ensures ∙ c.in-Some-referred_at.is) in
    IfOk-weaker c.follow.result (λ passes. c.follow.new.walked ≤ c.args.most → passes ≡ chain_passes c.args.sought.now held c.in-Some-referred_at.next)
    (λ passes. c.follow.new.walked ≤ c.args.most → passes ≡ chain_passes c.args.sought.now held c.args.position)
    (λ passes is within. is within ∙ sym step) c.follow.ensures.passes

pub returns-in-None-clause-passes : goal.returns-in-None-clause-passes
returns-in-None-clause-passes c = λ within.
    let is = passing_first c.args.sought.now c.args.index.now.held c.args.asof c.requires.asof in
    let fails = (unknown (mark_at c.args.marks.now c.args.position) (is_direct_at c.args.sought.now c.args.position) (sym c.known_at.ensures ∙ c.in_default.is)).1 in
    sym (is.ends c.args.position c.requires.within fails (sym c.referred_at.ensures ∙ c.in-None.is))

pub returns-in-None-clause-marks : goal.returns-in-None-clause-marks
returns-in-None-clause-marks c = λ within. c.requires.marks
