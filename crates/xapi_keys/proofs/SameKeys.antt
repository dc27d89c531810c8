-- Keys that the derived order does not tell apart are those that are equal part by part.
use Rattle.std.proofs.Common.{rules, ◌≡◌, ℕ, Bool, true, false, List, Option, Some, None, refl, sym, ap, ◌∙◌, ◌&&◌}
use Rattle.std.specs.Option.{option_eq}
use Rattle.std.specs.Str.{bytes_eq}
use Rattle.lrs_agents.proofs.SameAgents.{same_agents}
use Rattle.lrs_agents.specs.Identifiers.{same_ifi}
use Rattle.lrs_names.specs.contracts.id.IdPartialEq.TheImpl as id_eq
use Rattle.xapi_keys.specs.contracts.state_key.StateKeyPartialEq.TheImpl as key_eq
use Rattle.xapi_keys.specs.contracts.state_key.StateKeyOrd.TheImpl.Laws.{matches_eq-law}
use Rattle.xapi_keys.specs.Keys.{KeysAreTheirParts, is_of, same_registration}
use Rattle.xapi_keys.specs.declared.state_key.StateKey.{StateKey}

same_registrations : (a b : Option (List ℕ)) → option_eq (id_eq.ghosts).eq a b ≡ same_registration a b
same_registrations None None = refl
same_registrations None (Some b) = refl
same_registrations (Some a) None = refl
same_registrations (Some a) (Some b) = search rules

regroup : (p q r s : Bool) → (p && (q && (r && s))) ≡ (((p && q) && r) && s)
regroup true true true s = refl
regroup true true false s = refl
regroup true false r s = refl
regroup false q r s = refl

same_keys : (a b : StateKey) → (key_eq.ghosts).eq a b ≡ (is_of b.activity b.agent b.registration a && bytes_eq a.state b.state)
same_keys a b =
    ap (λ agents. bytes_eq a.activity b.activity && (agents && (option_eq (id_eq.ghosts).eq a.registration b.registration && bytes_eq a.state b.state))) (same_agents a.agent b.agent)
    ∙ ap (λ registrations. bytes_eq a.activity b.activity && (same_ifi a.agent b.agent && (registrations && bytes_eq a.state b.state))) (same_registrations a.registration b.registration)
    ∙ regroup (bytes_eq a.activity b.activity) (same_ifi a.agent b.agent) (same_registration a.registration b.registration) (bytes_eq a.state b.state)

pub keys_are_their_parts : KeysAreTheirParts
keys_are_their_parts a b = sym (matches_eq-law a b) ∙ same_keys a b
