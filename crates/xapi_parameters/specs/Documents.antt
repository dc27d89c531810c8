-- The parameters of requests for state documents (xAPI 1.0.3, part three, section 2.3): their names, the rules on them
-- by their numbers, and what they ask for.
use Rattle.std.specs.Prelude.{◌≡◌, ℕ, ℤ, List, [], ◌∷◌, Bool, Option, Some, None, option_and_then, codes, IsTrue}
use Rattle.std.specs.Prelude.{MatchOption, if◌then◌else◌}
use Rattle.std.specs.List.{list_all}
use Rattle.std.specs.Result.{result_ok}
use Rattle.lrs_agents.specs.declared.identifiers.Ifi.{Ifi}
use Rattle.lrs_names.specs.Iris.{is_iri}
use Rattle.lrs_time.specs.Reading.{timestamp_at}
use Rattle.xapi_keys.specs.declared.state_key.StateKey.{StateKey}
use Rattle.xapi_keys.specs.declared.wanted.WantedDocuments.{WantedDocuments}
use Rattle.xapi_keys.specs.declared.wanted.WantedDocuments.TheVariants.{One, Ids}
use Rattle.xapi_parameters.specs.Parameters.{Demands, Passes, are_among, are_distinct, given, has, passes}
use Rattle.xapi_parameters.specs.Queries.{id_under}
use Rattle.xapi_parameters.specs.Values.{IsActor, IsActorOf, is_id, is_timestamp}
use Rattle.xapi_parameters.specs.declared.dropped.DroppedDocuments.{DroppedDocuments}
use Rattle.xapi_parameters.specs.declared.pair.Pair.{Pair}

-- ---- the names of parameters

-- where one document is named, or where all may be
abbrev pub document_names : List (List ℕ)
document_names = codes "activityId" ∷ codes "agent" ∷ codes "registration" ∷ codes "stateId" ∷ []

-- where the ids of many are asked for
abbrev pub ids_names : List (List ℕ)
ids_names = codes "activityId" ∷ codes "agent" ∷ codes "registration" ∷ codes "since" ∷ []

-- Of a GET: only where no document is named, `since` may stand.
abbrev pub names_of_get : List Pair → List (List ℕ)
names_of_get pairs = if has (codes "stateId") pairs then document_names else ids_names

-- that are required
abbrev pub owner_names : List (List ℕ)
owner_names = codes "activityId" ∷ codes "agent" ∷ []

abbrev pub key_names : List (List ℕ)
key_names = codes "activityId" ∷ codes "agent" ∷ codes "stateId" ∷ []

abbrev pub have_all : List (List ℕ) → List Pair → Bool
have_all names pairs = list_all (λ name. has name pairs) names

-- ---- the rules

-- P2 to P7, where these are the names and those are required, and then the others.
abbrev pub DemandsOfDocuments : List (List ℕ) → List (List ℕ) → List Pair → Option ℕ → Type 0 → Type 0
DemandsOfDocuments names required pairs found others =
    Demands 2 (IsTrue (are_among names pairs)) found
    (Demands 3 (IsTrue (are_distinct pairs)) found
    (Demands 4 (IsTrue (have_all required pairs)) found
    (Demands 5 (IsTrue (passes is_id (codes "registration") pairs)) found
    (Demands 6 (Passes IsActor (codes "agent") pairs) found
    (Demands 7 (IsTrue (passes is_iri (codes "activityId") pairs)) found others)))))

-- The least rule that the parameters of a PUT or a POST of a document break, None where they break none.
abbrev pub LeastOfDocument : Option ℕ → List Pair → Type 0
LeastOfDocument found pairs = DemandsOfDocuments document_names key_names pairs found (found ≡ None)

-- The least rule that those of a DELETE break.
abbrev pub LeastOfDrop : Option ℕ → List Pair → Type 0
LeastOfDrop found pairs = DemandsOfDocuments document_names owner_names pairs found (found ≡ None)

-- The least rule that those of a GET break.
abbrev pub LeastOfDocuments : Option ℕ → List Pair → Type 0
LeastOfDocuments found pairs =
    DemandsOfDocuments (names_of_get pairs) owner_names pairs found
    (Demands 9 (IsTrue (passes is_timestamp (codes "since") pairs)) found (found ≡ None))

-- ---- what they ask for

-- an activity and an agent are given, each of which is one
pub record HasOwners (pairs : List Pair) : Type 0 where
  pub activity_stands : IsTrue (has (codes "activityId") pairs)
  pub activity_passes : IsTrue (passes is_iri (codes "activityId") pairs)
  pub agent_stands : IsTrue (has (codes "agent") pairs)
  pub agent_passes : Passes IsActor (codes "agent") pairs

-- this activity, this agent's identifier and this registration or none are given
pub record AreOwners (pairs : List Pair) (activity : List ℕ) (agent : Ifi)
    (registration : Option (List ℕ)) : Type 0 where
  pub activity_is : given (codes "activityId") pairs ≡ Some activity
  pub agent_is : MatchOption (given (codes "agent") pairs) ⊥ (λ text. IsActorOf text agent)
  pub registration_is : registration ≡ id_under (codes "registration") pairs

-- the key of the document
pub record IsKey (pairs : List Pair) (key : StateKey) : Type 0 where
  pub owners : AreOwners pairs key.activity key.agent key.registration
  pub state_is : given (codes "stateId") pairs ≡ Some key.state

-- the documents that are dropped: all, where no state id is given
pub record AreDropped (pairs : List Pair) (dropped : DroppedDocuments) : Type 0 where
  pub owners : AreOwners pairs dropped.activity dropped.agent dropped.registration
  pub state_is : dropped.state ≡ given (codes "stateId") pairs

-- the instant that is given under a name
abbrev pub instant_given : List ℕ → List Pair → Option ℤ
instant_given name pairs = option_and_then (λ text. result_ok (timestamp_at text)) (given name pairs)

-- The document of a key, where a state id is given; else the ids of those that are written later than `since`.
abbrev pub AreWanted : List Pair → WantedDocuments → Type 0
AreWanted pairs (One key) = IsKey pairs key
AreWanted pairs (Ids activity agent registration since) =
    (given (codes "stateId") pairs ≡ None) × AreOwners pairs activity agent registration
    × (since ≡ instant_given (codes "since") pairs)
