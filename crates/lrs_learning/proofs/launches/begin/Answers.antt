use Rattle.std.proofs.Common.{◌≡◌, ◌++◌, ◌∙◌, ℕ, suc, List, refl, sym, ap, map}
use Rattle.lrs_sessions.specs.LrsHistoryLaunches.{launched_at}
use Rattle.lrs_sessions.specs.LrsHistoryMade.{left_behind, made_under}
use Rattle.lrs_ids.specs.Ids.{Supply, rest_of}
use Rattle.lrs_ids.specs.IdSupply.{GiveSame, left_of}
use Rattle.lrs_json.specs.Json.{Json}
use Rattle.lrs_learning.proofs.Changes.{first_made}
use Rattle.lrs_learning.specs.Occasions.{supply_at}
use Rattle.lrs_sessions.specs.LrsMadeSameProofs.{behind_mapped, behind_same}
use Rattle.lrs_sessions.specs.LrsMadeSuppliedProofs.{value_of}
use Rattle.lrs_sessions.specs.LrsMadeLent.{seen_target}
use Rattle.lrs_sessions.specs.LrsPartsParts.{state_of}
use Rattle.lrs_sessions.specs.LrsStateState.{used_in}
use Rattle.xapi_statement.specs.Stored.{StoredStatement}
use Rattle.lrs_learning.proofs.launches.begin.Goals as goal

pub returns-clause-session : goal.returns-clause-session
returns-clause-session c = c.in_ok-session.ensures.id ∙ c.in_ok-supply.ensures.same 0

-- the launched statement goes under the id that is left behind those of what is said first
pub returns-clause-made : goal.returns-clause-made
returns-clause-made c =
    let st = state_of c.args.parts.now in
    let t = seen_target c.args.target.now in
    let rest : Supply = rest_of (supply_at st c.args.draw.now) in
    let first : Supply = left_of (used_in st) c.make.new.self in
    let next : Supply = left_of (used_in st) c.make_under.new.supply in
    let js : List Json = map value_of c.args.said.items in
    let left : GiveSame first rest = record { same = λ k. c.in_ok-session.ensures.left.same k ∙ c.in_ok-supply.ensures.same (suc k) } in
    let id_is : next 0 ≡ left_behind rest js 0 =
    c.in_ok-make_under.ensures.left.same 0
    ∙ ((behind_same first rest c.args.said.items left).same 0 ∙ sym (ap (λ (s : Supply). s 0) (behind_mapped value_of rest c.args.said.items))) in
    let made_is : c.make_under.new.made.items ≡ made_under rest c.args.moment js =
    first_made c.make_under.new.made.items c.new-made.result.items first rest c.args.moment js js c.new-made.ensures.items refl left c.in_ok-make_under.ensures.made in
    c.in_ok-push_launched.ensures
    ∙ (ap (λ (xs : List StoredStatement). xs ++ launched_at t c.args.mode c.in_ok-session.session (next 0) c.args.moment) made_is
    ∙ ap (λ (id : List ℕ). made_under rest c.args.moment js ++ launched_at t c.args.mode c.in_ok-session.session id c.args.moment) id_is)
