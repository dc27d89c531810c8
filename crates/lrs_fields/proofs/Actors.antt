-- The text of an agent, which is such as reading takes it.
use Rattle.std.proofs.Common.{◌≡◌, ℕ, List, [], ◌∷◌, ◌++◌, Option, Some, None, IfSome, IsUtf8, codes, true, false, append_assoc, refl, subst}
use Rattle.std.specs.List.{flat_map}
use Rattle.lrs_agents.specs.Identifiers.{identifier_json}
use Rattle.lrs_agent_texts.specs.Texts.{agent_json, agent_of, identifier_member, text_given}
use Rattle.lrs_agents.specs.declared.agents.Agent.{Agent}
use Rattle.lrs_agents.specs.declared.identifiers.Ifi.{Ifi}
use Rattle.lrs_agents.specs.declared.identifiers.Ifi.TheVariants.{Mbox, MboxSha1, OpenId, Account}
use Rattle.lrs_json.specs.Fits.{Fits, FitMembers}
use Rattle.lrs_json.specs.Json.{Json, object, string}
use Rattle.lrs_json.specs.Names.{is_among}
use Rattle.lrs_json.specs.Texts.{member_text}
use Rattle.lrs_json.specs.View.{members_of}
use Rattle.lrs_json.specs.Written.{written}
use Rattle.lrs_fields.specs.Values.{HoldsActor, HoldsAgent}
use Rattle.lrs_json.proofs.SmallBytes.{IsUtf8-small}

-- ---- its parts, one after the other

one_member : (o s t z : List ℕ) (m : List ℕ × Json) → s ≡ o ++ 123 ∷ [] → t ≡ s ++ member_text false m.0 m.1 → z ≡ t ++ 125 ∷ []
    → z ≡ o ++ written (object (members_of (m ∷ [])))
one_member o s t z m one two three = rw (three, two, one) (simp append_assoc refl)

alone : (ifi : Ifi) → object (members_of (identifier_member ifi ∷ [])) ≡ identifier_json ifi
alone (Mbox text) = refl
alone (MboxSha1 text) = refl
alone (OpenId text) = refl
alone (Account home name) = refl

pub agent_text : (o s t z : List ℕ) (ifi : Ifi) → s ≡ o ++ 123 ∷ [] → t ≡ s ++ member_text false (identifier_member ifi).0 (identifier_member ifi).1 → z ≡ t ++ 125 ∷ []
    → z ≡ o ++ written (identifier_json ifi)
agent_text o s t z ifi one two three = subst (λ j. z ≡ o ++ written j) (alone ifi) (one_member o s t z (identifier_member ifi) one two three)

abbrev kind : List ℕ × Json
kind = (codes "objectType", string (codes "Agent"))

abbrev pub given : Option (List ℕ) → List ℕ
given name = flat_map (λ member. member_text true member.0 member.1) (text_given (codes "name") name)

members_written : (o s t u v z : List ℕ) (name : Option (List ℕ)) (m : List ℕ × Json) → s ≡ o ++ 123 ∷ [] → t ≡ s ++ member_text false kind.0 kind.1 → u ≡ t ++ given name
    → v ≡ u ++ member_text true m.0 m.1 → z ≡ v ++ 125 ∷ [] → z ≡ o ++ written (object (members_of (kind ∷ (text_given (codes "name") name ++ m ∷ []))))
members_written o s t u v z None m one two three four five = rw (five, four, three, two, one) (simp append_assoc refl)
members_written o s t u v z (Some name) m one two three four five = rw (five, four, three, two, one) (simp append_assoc refl)

pub actor_text : (o s t u v z : List ℕ) (actor : Agent) → s ≡ o ++ 123 ∷ [] → t ≡ s ++ member_text false (codes "objectType") (string (codes "Agent")) → u ≡ t ++ given actor.name
    → v ≡ u ++ member_text true (identifier_member actor.ifi).0 (identifier_member actor.ifi).1 → z ≡ v ++ 125 ∷ [] → z ≡ o ++ written (agent_json actor)
actor_text o s t u v z actor = members_written o s t u v z actor.name (identifier_member actor.ifi)

-- ---- such as reading takes it

fit_identifier : (before : List (List ℕ)) (ifi : Ifi) → is_among (identifier_member ifi).0 before ≡ false → HoldsAgent ifi → FitMembers before (members_of (identifier_member ifi ∷ []))
fit_identifier before (Mbox text) apart holds = (IsUtf8-small (codes "mbox") refl, apart, holds, tt)
fit_identifier before (MboxSha1 text) apart holds = (IsUtf8-small (codes "mbox_sha1sum") refl, apart, holds, tt)
fit_identifier before (OpenId text) apart holds = (IsUtf8-small (codes "openid") refl, apart, holds, tt)
fit_identifier before (Account home name) apart holds = (
  IsUtf8-small (codes "account") refl,
  apart,
  (IsUtf8-small (codes "homePage") refl, refl, holds.0, (IsUtf8-small (codes "name") refl, refl, holds.1, tt)),
  tt,
)

behind_kind : (ifi : Ifi) → is_among (identifier_member ifi).0 (codes "objectType" ∷ []) ≡ false
behind_kind (Mbox text) = refl
behind_kind (MboxSha1 text) = refl
behind_kind (OpenId text) = refl
behind_kind (Account home name) = refl

behind_name : (ifi : Ifi) → is_among (identifier_member ifi).0 (codes "name" ∷ codes "objectType" ∷ []) ≡ false
behind_name (Mbox text) = refl
behind_name (MboxSha1 text) = refl
behind_name (OpenId text) = refl
behind_name (Account home name) = refl

fit_actor : (name : Option (List ℕ)) (ifi : Ifi) → HoldsAgent ifi → IfSome name IsUtf8 → Fits (agent_of ifi name)
fit_actor None ifi holds named =
    (IsUtf8-small (codes "objectType") refl, refl, IsUtf8-small (codes "Agent") refl, fit_identifier (codes "objectType" ∷ []) ifi (behind_kind ifi) holds)
fit_actor (Some name) ifi holds named = (
  IsUtf8-small (codes "objectType") refl,
  refl,
  IsUtf8-small (codes "Agent") refl,
  (IsUtf8-small (codes "name") refl, refl, named, fit_identifier (codes "name" ∷ codes "objectType" ∷ []) ifi (behind_name ifi) holds),
)

pub Fits-actor : (actor : Agent) → HoldsActor actor → Fits (agent_json actor)
Fits-actor actor holds = fit_actor actor.name actor.ifi holds.0 holds.1
