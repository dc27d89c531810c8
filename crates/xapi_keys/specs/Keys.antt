-- The keys of state documents (xAPI 1.0.3, part three, section 2.3): an activity, an agent's identifier, a registration
-- or none, and a state id. That no registration is given is a value of its own.
use Rattle.std.specs.Prelude.{◌≡◌, ℕ, ◌&&◌, Bool, true, false, List, Option, Some, None}
use Rattle.std.specs.BTreeMap.{is_at}
use Rattle.std.specs.Str.{bytes_eq}
use Rattle.std.specs.declared.cmp.Ordering.{Ordering}
use Rattle.lrs_agents.specs.Identifiers.{same_ifi}
use Rattle.lrs_agents.specs.declared.identifiers.Ifi.{Ifi}
use Rattle.xapi_keys.specs.contracts.state_key.StateKeyOrd.TheImpl as key_ord
use Rattle.xapi_keys.specs.declared.state_key.StateKey.{StateKey}

-- The order of keys: by activity, agent, registration, and last by the bytes of the state id.
abbrev pub key_cmp : StateKey → StateKey → Ordering
key_cmp = (key_ord.ghosts).cmp

abbrev pub is_same_key : StateKey → StateKey → Bool
is_same_key a b = is_at (key_cmp a) b

-- both are absent, or both are the same id
abbrev pub same_registration : Option (List ℕ) → Option (List ℕ) → Bool
same_registration None None = true
same_registration None (Some b) = false
same_registration (Some a) None = false
same_registration (Some a) (Some b) = bytes_eq a b

-- it is a key of that activity, agent and registration
abbrev pub is_of : List ℕ → Ifi → Option (List ℕ) → StateKey → Bool
is_of activity agent registration key =
    bytes_eq key.activity activity && same_ifi key.agent agent && same_registration key.registration registration

-- its state id is that one, where one is given
abbrev pub is_state : Option (List ℕ) → StateKey → Bool
is_state None key = true
is_state (Some state) key = bytes_eq key.state state

-- ---- what the order of keys keeps apart

-- Two keys are the same exactly where their activities, agents, registrations and state ids are.
abbrev pub KeysAreTheirParts : Type 0
KeysAreTheirParts =
    (a b : StateKey) → is_same_key a b ≡ (is_of b.activity b.agent b.registration a && bytes_eq a.state b.state)
