-- The derived equality of identifiers is the one that the definitions name, and identifiers that it calls the same are
-- one.
use Rattle.std.proofs.Common.{rules, ◌≡◌, ℕ, List, true, refl, ap, ◌∙◌}
use Rattle.std.specs.Str.{bytes_eq}
use Rattle.std.proofs.lemmas.Bool.{false≢true, and_from, and_parts}
use Rattle.std.proofs.lemmas.Slice.Eq.{bytes_eq-Decides}
use Rattle.lrs_agents.specs.Identifiers.{same_ifi}
use Rattle.lrs_agents.specs.declared.identifiers.Ifi.{Ifi}
use Rattle.lrs_agents.specs.declared.identifiers.Ifi.TheVariants.{Mbox, MboxSha1, OpenId, Account}
use Rattle.lrs_agents.specs.contracts.identifiers.IfiPartialEq.TheImpl as ifi_eq

pub same_agents : (a b : Ifi) → (ifi_eq.ghosts).eq a b ≡ same_ifi a b
same_agents (Mbox a) (Mbox b) = search rules
same_agents (Mbox a) (MboxSha1 b) = refl
same_agents (Mbox a) (OpenId b) = refl
same_agents (Mbox a) (Account h n) = refl
same_agents (MboxSha1 a) (Mbox b) = refl
same_agents (MboxSha1 a) (MboxSha1 b) = search rules
same_agents (MboxSha1 a) (OpenId b) = refl
same_agents (MboxSha1 a) (Account h n) = refl
same_agents (OpenId a) (Mbox b) = refl
same_agents (OpenId a) (MboxSha1 b) = refl
same_agents (OpenId a) (OpenId b) = search rules
same_agents (OpenId a) (Account h n) = refl
same_agents (Account h n) (Mbox b) = refl
same_agents (Account h n) (MboxSha1 b) = refl
same_agents (Account h n) (OpenId b) = refl
same_agents (Account h n) (Account g m) = search rules

-- ---- what is the same is one

pub same_bytes : (a b : List ℕ) → bytes_eq a b ≡ true → a ≡ b
same_bytes a b e = (bytes_eq-Decides a b).0 e

pub bytes_same : (a : List ℕ) → bytes_eq a a ≡ true
bytes_same a = (bytes_eq-Decides a a).1 refl

pub same_ifis : (a b : Ifi) → same_ifi a b ≡ true → a ≡ b
same_ifis (Mbox a) (Mbox b) e = ap Mbox (same_bytes a b e)
same_ifis (MboxSha1 a) (MboxSha1 b) e = ap MboxSha1 (same_bytes a b e)
same_ifis (OpenId a) (OpenId b) e = ap OpenId (same_bytes a b e)
same_ifis (Account h n) (Account g m) e =
    let both : (bytes_eq h g ≡ true) × (bytes_eq n m ≡ true) = and_parts (bytes_eq h g) (bytes_eq n m) e in
    ap (λ z. Account z n) (same_bytes h g both.0) ∙ ap (Account g) (same_bytes n m both.1)
same_ifis _ _ e = absurd (false≢true e)

pub ifi_same : (a : Ifi) → same_ifi a a ≡ true
ifi_same (Mbox a) = bytes_same a
ifi_same (MboxSha1 a) = bytes_same a
ifi_same (OpenId a) = bytes_same a
ifi_same (Account h n) = and_from (bytes_eq h h) (bytes_eq n n) (bytes_same h) (bytes_same n)
