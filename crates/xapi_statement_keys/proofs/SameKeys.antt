-- Keys that their order doesn't tell apart have the same parts, and are one.
use Rattle.std.proofs.Common.{rules, ◌≡◌, ℕ, List, true, eq-eqb, eqb-true, refl, sym, ap, ◌∙◌}
use Rattle.std.proofs.lemmas.Bool.{false≢true}
use Rattle.std.specs.Cmp.{both_ways}
use Rattle.lrs_agents.proofs.SameAgents.{bytes_same, ifi_same, same_agents, same_bytes, same_ifis}
use Rattle.lrs_agents.specs.Identifiers.{same_ifi}
use Rattle.lrs_agents.specs.declared.identifiers.Ifi.{Ifi}
use Rattle.lrs_agents.specs.contracts.identifiers.IfiPartialEq.TheImpl as ifi_eq
use Rattle.xapi_statement_keys.specs.Adding.{same_parts}
use Rattle.xapi_statement_keys.specs.Keys.{SameKeysAreOne, is_same_key}
use Rattle.xapi_statement_keys.specs.contracts.key.KeyPartialEq.TheImpl as key_eq
use Rattle.xapi_statement_keys.specs.contracts.key.KeyOrd.TheImpl.Laws.{matches_eq-law}
use Rattle.xapi_statement_keys.specs.declared.key.Key.{Key}
use Rattle.xapi_statement_keys.specs.declared.key.Key.TheVariants as key

-- ---- what the derived equality compares

both_agents : (a b : Ifi) → (key_eq.ghosts).eq (key.Agent a) (key.Agent b) ≡ (ifi_eq.ghosts).eq a b
both_agents a b = search rules

both_related_agents : (a b : Ifi) → (key_eq.ghosts).eq (key.RelatedAgent a) (key.RelatedAgent b) ≡ (ifi_eq.ghosts).eq a b
both_related_agents a b = search rules

by_statement : (a : List ℕ) (k : Key) → (key_eq.ghosts).eq (key.Statement a) k ≡ same_parts (key.Statement a) k
by_statement a (key.Statement b) = search rules
by_statement a _ = refl

by_verb : (a : List ℕ) (k : Key) → (key_eq.ghosts).eq (key.Verb a) k ≡ same_parts (key.Verb a) k
by_verb a (key.Verb b) = search rules
by_verb a _ = refl

by_activity : (a : List ℕ) (k : Key) → (key_eq.ghosts).eq (key.Activity a) k ≡ same_parts (key.Activity a) k
by_activity a (key.Activity b) = search rules
by_activity a _ = refl

by_related_activity : (a : List ℕ) (k : Key) → (key_eq.ghosts).eq (key.RelatedActivity a) k ≡ same_parts (key.RelatedActivity a) k
by_related_activity a (key.RelatedActivity b) = search rules
by_related_activity a _ = refl

by_agent : (a : Ifi) (k : Key) → (key_eq.ghosts).eq (key.Agent a) k ≡ same_parts (key.Agent a) k
by_agent a (key.Agent b) = both_agents a b ∙ same_agents a b
by_agent a _ = refl

by_related_agent : (a : Ifi) (k : Key) → (key_eq.ghosts).eq (key.RelatedAgent a) k ≡ same_parts (key.RelatedAgent a) k
by_related_agent a (key.RelatedAgent b) = both_related_agents a b ∙ same_agents a b
by_related_agent a _ = refl

by_registration : (a : List ℕ) (k : Key) → (key_eq.ghosts).eq (key.Registration a) k ≡ same_parts (key.Registration a) k
by_registration a (key.Registration b) = search rules
by_registration a _ = refl

by_provider : (a : ℕ) (k : Key) → (key_eq.ghosts).eq (key.Provider a) k ≡ same_parts (key.Provider a) k
by_provider a (key.Provider b) = search rules
by_provider a _ = refl

by_reference : (a : List ℕ) (k : Key) → (key_eq.ghosts).eq (key.Reference a) k ≡ same_parts (key.Reference a) k
by_reference a (key.Reference b) = search rules
by_reference a _ = refl

by_voiding : (a : List ℕ) (k : Key) → (key_eq.ghosts).eq (key.Voiding a) k ≡ same_parts (key.Voiding a) k
by_voiding a (key.Voiding b) = search rules
by_voiding a _ = refl

by_any_reference : (k : Key) → (key_eq.ghosts).eq key.AnyReference k ≡ same_parts key.AnyReference k
by_any_reference key.AnyReference = refl
by_any_reference _ = refl

same_by_parts : (a b : Key) → (key_eq.ghosts).eq a b ≡ same_parts a b
same_by_parts (key.Statement a) k = by_statement a k
same_by_parts (key.Verb a) k = by_verb a k
same_by_parts (key.Activity a) k = by_activity a k
same_by_parts (key.RelatedActivity a) k = by_related_activity a k
same_by_parts (key.Agent a) k = by_agent a k
same_by_parts (key.RelatedAgent a) k = by_related_agent a k
same_by_parts (key.Registration a) k = by_registration a k
same_by_parts (key.Provider a) k = by_provider a k
same_by_parts (key.Reference a) k = by_reference a k
same_by_parts (key.Voiding a) k = by_voiding a k
same_by_parts key.AnyReference k = by_any_reference k

pub by_parts : (a b : Key) → is_same_key a b ≡ same_parts a b
by_parts a b = sym (matches_eq-law a b) ∙ same_by_parts a b

-- ---- the same parts are of one key

parts_same : (k : Key) → same_parts k k ≡ true
parts_same (key.Statement a) = bytes_same a
parts_same (key.Verb a) = bytes_same a
parts_same (key.Activity a) = bytes_same a
parts_same (key.RelatedActivity a) = bytes_same a
parts_same (key.Agent a) = ifi_same a
parts_same (key.RelatedAgent a) = ifi_same a
parts_same (key.Registration a) = bytes_same a
parts_same (key.Provider a) = eq-eqb a a refl
parts_same (key.Reference a) = bytes_same a
parts_same (key.Voiding a) = bytes_same a
parts_same key.AnyReference = refl

one_statement : (a : List ℕ) (k : Key) → same_parts (key.Statement a) k ≡ true → key.Statement a ≡ k
one_statement a (key.Statement b) e = ap key.Statement (same_bytes a b e)
one_statement a _ e = absurd (false≢true e)

one_verb : (a : List ℕ) (k : Key) → same_parts (key.Verb a) k ≡ true → key.Verb a ≡ k
one_verb a (key.Verb b) e = ap key.Verb (same_bytes a b e)
one_verb a _ e = absurd (false≢true e)

one_activity : (a : List ℕ) (k : Key) → same_parts (key.Activity a) k ≡ true → key.Activity a ≡ k
one_activity a (key.Activity b) e = ap key.Activity (same_bytes a b e)
one_activity a _ e = absurd (false≢true e)

one_related_activity : (a : List ℕ) (k : Key) → same_parts (key.RelatedActivity a) k ≡ true → key.RelatedActivity a ≡ k
one_related_activity a (key.RelatedActivity b) e = ap key.RelatedActivity (same_bytes a b e)
one_related_activity a _ e = absurd (false≢true e)

one_agent : (a : Ifi) (k : Key) → same_parts (key.Agent a) k ≡ true → key.Agent a ≡ k
one_agent a (key.Agent b) e = ap key.Agent (same_ifis a b e)
one_agent a _ e = absurd (false≢true e)

one_related_agent : (a : Ifi) (k : Key) → same_parts (key.RelatedAgent a) k ≡ true → key.RelatedAgent a ≡ k
one_related_agent a (key.RelatedAgent b) e = ap key.RelatedAgent (same_ifis a b e)
one_related_agent a _ e = absurd (false≢true e)

one_registration : (a : List ℕ) (k : Key) → same_parts (key.Registration a) k ≡ true → key.Registration a ≡ k
one_registration a (key.Registration b) e = ap key.Registration (same_bytes a b e)
one_registration a _ e = absurd (false≢true e)

one_provider : (a : ℕ) (k : Key) → same_parts (key.Provider a) k ≡ true → key.Provider a ≡ k
one_provider a (key.Provider b) e = ap key.Provider (eqb-true a b e)
one_provider a _ e = absurd (false≢true e)

one_reference : (a : List ℕ) (k : Key) → same_parts (key.Reference a) k ≡ true → key.Reference a ≡ k
one_reference a (key.Reference b) e = ap key.Reference (same_bytes a b e)
one_reference a _ e = absurd (false≢true e)

one_voiding : (a : List ℕ) (k : Key) → same_parts (key.Voiding a) k ≡ true → key.Voiding a ≡ k
one_voiding a (key.Voiding b) e = ap key.Voiding (same_bytes a b e)
one_voiding a _ e = absurd (false≢true e)

one_any_reference : (k : Key) → same_parts key.AnyReference k ≡ true → key.AnyReference ≡ k
one_any_reference key.AnyReference e = refl
one_any_reference _ e = absurd (false≢true e)

parts_one : (a b : Key) → same_parts a b ≡ true → a ≡ b
parts_one (key.Statement a) k e = one_statement a k e
parts_one (key.Verb a) k e = one_verb a k e
parts_one (key.Activity a) k e = one_activity a k e
parts_one (key.RelatedActivity a) k e = one_related_activity a k e
parts_one (key.Agent a) k e = one_agent a k e
parts_one (key.RelatedAgent a) k e = one_related_agent a k e
parts_one (key.Registration a) k e = one_registration a k e
parts_one (key.Provider a) k e = one_provider a k e
parts_one (key.Reference a) k e = one_reference a k e
parts_one (key.Voiding a) k e = one_voiding a k e
parts_one key.AnyReference k e = one_any_reference k e

pub same_keys_are_one : SameKeysAreOne
same_keys_are_one a b e = parts_one a b (sym (by_parts a b) ∙ e)

-- ---- either way round

pub is_same-refl : (k : Key) → is_same_key k k ≡ true
is_same-refl k = by_parts k k ∙ parts_same k

pub is_same-sym : (a b : Key) → is_same_key a b ≡ is_same_key b a
is_same-sym a b =
    both_ways (is_same_key a b) (is_same_key b a) (λ e. ap (λ k. is_same_key k a) (sym (same_keys_are_one a b e)) ∙ is_same-refl a)
    (λ e. ap (λ k. is_same_key k b) (sym (same_keys_are_one b a e)) ∙ is_same-refl b)

pub ifi_sym : (a b : Ifi) → same_ifi a b ≡ same_ifi b a
ifi_sym a b =
    both_ways (same_ifi a b) (same_ifi b a) (λ e. ap (λ i. same_ifi i a) (sym (same_ifis a b e)) ∙ ifi_same a)
    (λ e. ap (λ i. same_ifi i b) (sym (same_ifis b a e)) ∙ ifi_same b)
