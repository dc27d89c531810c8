-- What is pushed is the launched statement, under the next id.
use Rattle.std.proofs.Common.{◌≡◌, ◌++◌, ◌∷◌, [], ◌∙◌, ℕ, List, OnOk, ap, subst}
use Rattle.lrs_sessions.specs.Cmi5LaunchMade.{said_launched, saying_json}
use Rattle.lrs_sessions.specs.LrsHistoryMade.{made_under}
use Rattle.lrs_ids.specs.IdSupply.{left_of}
use Rattle.lrs_json.specs.Json.{Json}
use Rattle.lrs_sessions.specs.LrsMadeLent.{seen_target}
use Rattle.lrs_sessions.specs.LrsPartsParts.{state_of}
use Rattle.lrs_sessions.specs.LrsStateState.{used_in}
use Rattle.lrs_learning.proofs.launches.push_launched.Goals as goal

pub returns : goal.returns
returns c =
    let t = seen_target c.args.target.now in
    let supply = left_of (used_in (state_of c.args.parts.now)) c.args.supply.now in
    subst (λ (j : Json). OnOk c.make_one.result (c.make_one.new.made.items ≡ c.args.made.now.items ++ made_under supply c.args.moment (j ∷ [])))
    (c.in_ok-said.ensures
    ∙ ap (λ (activity : List ℕ). saying_json (said_launched c.args.mode t.unit) t.registration.actor activity t.publisher t.registration.id c.args.session.now) c.requires)
    c.make_one.ensures.made
