-- The parameters of a request for documents ask for one thing.
use Rattle.std.proofs.Common.{◌≡◌, ℕ, List, Option, Some, None, MatchOption, codes, sym, ap, ◌∙◌}
use Rattle.std.proofs.lemmas.Option.{same_Some}
use Rattle.lrs_agents.specs.declared.identifiers.Ifi.{Ifi}
use Rattle.xapi_keys.specs.declared.state_key.StateKey.{StateKey}
use Rattle.xapi_keys.specs.declared.wanted.WantedDocuments.{WantedDocuments}
use Rattle.xapi_keys.specs.declared.wanted.WantedDocuments.TheVariants.{One, Ids}
use Rattle.xapi_parameters.specs.Documents.{AreDropped, AreOwners, AreWanted, IsKey}
use Rattle.xapi_parameters.specs.Parameters.{given}
use Rattle.xapi_parameters.specs.Values.{IsActorOf}
use Rattle.xapi_parameters.specs.declared.dropped.DroppedDocuments.{DroppedDocuments}
use Rattle.xapi_parameters.specs.declared.pair.Pair.{Pair}
use Rattle.xapi_parameters.proofs.LinkAlone.{one_actor}

one_agent : (text : Option (List ℕ)) (a b : Ifi) → MatchOption text ⊥ (λ t. IsActorOf t a) → MatchOption text ⊥ (λ t. IsActorOf t b) → a ≡ b
one_agent None a b x y = absurd x
one_agent (Some t) a b x y = one_actor t a b x y

module _ (pairs : List Pair) (activity other : List ℕ) (agent another : Ifi) (registration second : Option (List ℕ)) (x : AreOwners pairs activity agent registration) (y : AreOwners pairs other another second) where
  one_activity : activity ≡ other
  one_activity = same_Some activity other (sym x.activity_is ∙ y.activity_is)

  one_owner : agent ≡ another
  one_owner = one_agent (given (codes "agent") pairs) agent another x.agent_is y.agent_is

  one_registration : registration ≡ second
  one_registration = x.registration_is ∙ sym y.registration_is

pub one_key : (pairs : List Pair) (a b : StateKey) → IsKey pairs a → IsKey pairs b → a ≡ b
one_key pairs a b x y =
    let activity = one_activity pairs a.activity b.activity a.agent b.agent a.registration b.registration x.owners y.owners in
    let agent = one_owner pairs a.activity b.activity a.agent b.agent a.registration b.registration x.owners y.owners in
    let registration = one_registration pairs a.activity b.activity a.agent b.agent a.registration b.registration x.owners y.owners in
    let state : a.state ≡ b.state = same_Some a.state b.state (sym x.state_is ∙ y.state_is) in
    λ i. record { activity = activity i; agent = agent i; registration = registration i; state = state i }

pub one_dropped : (pairs : List Pair) (a b : DroppedDocuments) → AreDropped pairs a → AreDropped pairs b → a ≡ b
one_dropped pairs a b x y =
    let activity = one_activity pairs a.activity b.activity a.agent b.agent a.registration b.registration x.owners y.owners in
    let agent = one_owner pairs a.activity b.activity a.agent b.agent a.registration b.registration x.owners y.owners in
    let registration = one_registration pairs a.activity b.activity a.agent b.agent a.registration b.registration x.owners y.owners in
    let state = x.state_is ∙ sym y.state_is in
    λ i. record { activity = activity i; agent = agent i; registration = registration i; state = state i }

none_some : (text : Option (List ℕ)) (state : List ℕ) → text ≡ None → text ≡ Some state → ⊥
none_some text state none some = let bad : None ≡ Some state = sym none ∙ some in cc bad

pub one_wanted : (pairs : List Pair) (a b : WantedDocuments) → AreWanted pairs a → AreWanted pairs b → a ≡ b
one_wanted pairs (One a) (One b) x y = ap One (one_key pairs a b x y)
one_wanted pairs (One a) (Ids activity agent registration since) x y = absurd (none_some (given (codes "stateId") pairs) a.state y.0 x.state_is)
one_wanted pairs (Ids activity agent registration since) (One b) x y = absurd (none_some (given (codes "stateId") pairs) b.state x.0 y.state_is)
one_wanted pairs (Ids activity agent registration since) (Ids other another second later) x y =
    let activities = one_activity pairs activity other agent another registration second x.1 y.1 in
    let agents = one_owner pairs activity other agent another registration second x.1 y.1 in
    let registrations = one_registration pairs activity other agent another registration second x.1 y.1 in
    let instants = x.2 ∙ sym y.2 in
    λ i. Ids (activities i) (agents i) (registrations i) (instants i)
