use Rattle.std.proofs.Common.{◌∙◌, ap, suc}
use Rattle.lrs_ids.specs.IdSupply.{left_of}
use Rattle.lrs_json.specs.View.{view}
use Rattle.lrs_learning.proofs.Changes.{waived_is, waived_with}
use Rattle.lrs_sessions.specs.LrsMadeLent.{seen_target}
use Rattle.lrs_sessions.specs.LrsPartsParts.{state_of}
use Rattle.lrs_sessions.specs.LrsStateState.{used_in}
use Rattle.lrs_learning.proofs.waivers.waiving_as.Goals as goal

pub returns : goal.returns
returns c =
    let st = state_of c.args.parts.now in
    λ by. c.waived.ensures ∙ (ap (λ xs. waived_with c.args.moment c.in_ok-session.session xs) c.in_ok-made.ensures
    ∙ waived_is st by c.args.moment c.args.draw.now (seen_target c.args.target.now) c.args.reason c.in_ok-session.session (view c.in_ok-said.said.tree) (left_of (used_in st) c.make.new.self)
    (c.in_ok-session.ensures.id ∙ c.in_ok-supply.ensures.same 0) c.in_ok-said.ensures
    (record { same = λ k. c.in_ok-session.ensures.left.same k ∙ c.in_ok-supply.ensures.same (suc k) }))
