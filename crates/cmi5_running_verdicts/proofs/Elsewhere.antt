-- A statement that doesn't name the registration changes no tally of it.
use Rattle.std.proofs.Common.{◌≡◌, ◌&&◌, ◌++◌, ◌∷◌, ℕ, true, false, List, [], ap}
use Rattle.cmi5_running_verdicts.specs.Changes.{is_about}
use Rattle.cmi5_running_verdicts.specs.Tallies.{AreTallies}
use Rattle.cmi5_running_verdicts.specs.declared.tally.Tally.{Tally}
use Rattle.cmi5_running_verdicts.proofs.Settled.{none_counted, none_voided}
use Rattle.cmi5_verdict.specs.Cmi5SessionMarked.{MarkedStatement, mark}
use Rattle.cmi5_verdict.specs.Cmi5SessionOwn.{is_cmi5_defined}
use Rattle.cmi5_verdict.specs.Nodes.{SeenEnrolment, activity_of_node}
use Rattle.lrs_json.specs.Json.{Json}
use Rattle.lrs_json.specs.View.{view}
use Rattle.cmi5_verdict.specs.XapiStatementStatements.{is_that_id}
use Rattle.cmi5_verdict.specs.XapiStatementStatement.{activity_of, registration_of}
use Rattle.cmi5_verdict.specs.XapiStatementStored.{StoredStatement}

about_none : (e : SeenEnrolment) (j : Json) → is_that_id e.registration (registration_of j) ≡ false → (index : ℕ) → is_about e index j ≡ false
about_none e j other index = ap (λ b. b && is_cmi5_defined j && is_that_id (activity_of_node e index) (activity_of j)) other

pub elsewhere_counted : (e : SeenEnrolment) → (those : List MarkedStatement) → (m : MarkedStatement) → (tallies : List Tally) → is_that_id e.registration (registration_of (view m.statement.received)) ≡ false
    → AreTallies e those tallies → AreTallies e (those ++ m ∷ []) tallies
elsewhere_counted e those m tallies other are = none_counted e those m tallies (λ index lt. about_none e (view m.statement.received) other index) are

pub elsewhere_voided : (e : SeenEnrolment) → (before behind : List MarkedStatement) → (s : StoredStatement) → (tallies : List Tally) → is_that_id e.registration (registration_of (view s.received)) ≡ false
    → AreTallies e (before ++ mark s false ∷ behind) tallies → AreTallies e (before ++ mark s true ∷ behind) tallies
elsewhere_voided e before behind s tallies other are = none_voided e before behind s tallies (λ index lt. about_none e (view s.received) other index) are
