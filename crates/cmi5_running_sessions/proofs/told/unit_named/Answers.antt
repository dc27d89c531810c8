use Rattle.std.proofs.Common.{◌≡◌, ◌∙◌, ℕ, ◌&&◌, Bool, true, false, List, Option, Some, refl, sym, ap, option_map}
use Rattle.lrs_json.specs.View.{view}
use Rattle.cmi5_session.specs.XapiStatementStatements.{is_that_id}
use Rattle.cmi5_session.specs.XapiStatementStatement.{activity_of, registration_of}
use Rattle.cmi5_running_sessions.proofs.told.unit_named.Goals as goal

pub returns-in-Some-activity_of : goal.returns-in-Some-activity_of
returns-in-Some-activity_of c = λ r a.
    let registration = sym c.registration_of.ensures ∙ c.in-Some.is in
    let activity = sym c.activity_of.ensures ∙ ap (λ o. option_map (λ t. t.now) o) c.in-Some-activity_of.is in
    ap (λ (o : Option (List ℕ)). is_that_id r o && is_that_id a (activity_of (view c.args.statement.now))) registration
    ∙ ap (λ (o : Option (List ℕ)). is_that_id r (Some c.in-Some.registration) && is_that_id a o) activity

pub returns-in-None-activity_of : goal.returns-in-None-activity_of
returns-in-None-activity_of c = λ r a.
    let j = view c.args.statement.now in
    let activity = sym c.activity_of.ensures ∙ ap (λ o. option_map (λ t. t.now) o) c.in-None-activity_of.is in
    ap (λ (o : Option (List ℕ)). is_that_id r (registration_of j) && is_that_id a o) activity ∙ neither (is_that_id r (registration_of j))
  where
    neither : (b : Bool) → (b && false) ≡ false
    neither true = refl
    neither false = refl

pub returns-in-None : goal.returns-in-None
returns-in-None c = λ r a.
    ap (λ (o : Option (List ℕ)). is_that_id r o && is_that_id a (activity_of (view c.args.statement.now))) (sym c.registration_of.ensures ∙ c.in-None.is)
