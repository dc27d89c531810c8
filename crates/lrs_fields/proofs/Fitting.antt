-- What fields are kept as is such as reading takes it.
use Rattle.std.proofs.Common.{◌≡◌, ℕ, List, [], ◌∷◌, true, ◌&&◌, not, codes, arith, refl}
use Rattle.std.specs.List.{AllByRecursion}
use Rattle.std.proofs.lemmas.Bool.{and_parts, not-true}
use Rattle.lrs_agents.specs.Identifiers.{identifier_json}
use Rattle.lrs_agents.specs.declared.identifiers.Ifi.{Ifi}
use Rattle.lrs_agents.specs.declared.identifiers.Ifi.TheVariants.{Mbox, MboxSha1, OpenId, Account}
use Rattle.lrs_json.specs.Fits.{Fits, FitMembers}
use Rattle.lrs_json.specs.Names.{is_among}
use Rattle.lrs_json.specs.View.{members_of}
use Rattle.lrs_names.proofs.IdTexts.{IsUtf8-id_text}
use Rattle.lrs_fields.specs.Values.{HoldsAgent, HoldsValue, IsLawfulValue, Value, text_value, id_value, tree_value, trees_value, iri_value, agent_value, bytes_value, actor_value, number_value, members_for, value_json}
use Rattle.lrs_fields.proofs.Actors.{Fits-actor}
use Rattle.lrs_fields.proofs.Apart.{are_apart}
use Rattle.lrs_fields.proofs.Decimals.{Fits-decimal}
use Rattle.lrs_fields.proofs.ManyTrees.{Fits-trees}
use Rattle.lrs_json.proofs.SmallBytes.{IsUtf8-small, are_small}
use Rattle.lrs_fields.proofs.Words.{IsUtf8-digits}

Fits-agent : (ifi : Ifi) → HoldsAgent ifi → Fits (identifier_json ifi)
Fits-agent (Mbox text) holds = (IsUtf8-small (codes "mbox") refl, refl, holds, tt)
Fits-agent (MboxSha1 text) holds = (IsUtf8-small (codes "mbox_sha1sum") refl, refl, holds, tt)
Fits-agent (OpenId text) holds = (IsUtf8-small (codes "openid") refl, refl, holds, tt)
Fits-agent (Account home name) holds = (
  IsUtf8-small (codes "account") refl,
  refl,
  (IsUtf8-small (codes "homePage") refl, refl, holds.0, (IsUtf8-small (codes "name") refl, refl, holds.1, tt)),
  tt,
)

Fits-value : (v : Value) → IsLawfulValue v → HoldsValue v → Fits (value_json v)
Fits-value (text_value t) lawful holds = holds
Fits-value (id_value i) lawful holds = IsUtf8-id_text i
Fits-value (tree_value t) lawful holds = lawful.0
Fits-value (trees_value ts) lawful holds = Fits-trees ts lawful
Fits-value (iri_value t) lawful holds = holds.0
Fits-value (agent_value ifi) lawful holds = Fits-agent ifi holds
Fits-value (bytes_value bytes) lawful holds = IsUtf8-digits bytes
Fits-value (actor_value actor) lawful holds = Fits-actor actor holds
Fits-value (number_value n) lawful holds = Fits-decimal n (omega (arith, holds))

pub Fits-fields : (before : List (List ℕ)) (fs : List (List ℕ × Value)) → are_apart before fs ≡ true → AllByRecursion (λ f. IsLawfulValue f.1) fs → AllByRecursion (λ f. HoldsValue f.1) fs
    → FitMembers before (members_of (members_for fs))
Fits-fields before [] apart lawful holds = tt
Fits-fields before (f ∷ fs) apart lawful holds =
    let first = and_parts (are_small f.0) (not (is_among f.0 before) && are_apart (f.0 ∷ before) fs) apart in
    let second = and_parts (not (is_among f.0 before)) (are_apart (f.0 ∷ before) fs) first.1 in
    (IsUtf8-small f.0 first.0, not-true (is_among f.0 before) second.0, Fits-value f.1 lawful.0 holds.0, Fits-fields (f.0 ∷ before) fs second.1 lawful.1 holds.1)
