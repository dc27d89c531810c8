-- A statement that is held is its four parts.
use Rattle.std.proofs.Common.{◌≡◌, ℕ, List, refl}
use Rattle.lrs_json.specs.declared.tree.Tree.{Tree}
use Rattle.xapi_received.specs.XapiFormatAuthorityAuthority.{Authority}
use Rattle.xapi_statement.specs.Stored.{StoredStatement}

abbrev pub of_parts : Tree → List ℕ → ℕ → Authority → StoredStatement
of_parts t i m a = record { received = t; id = i; stored = m; authority = a }

pub same_parts : (s : StoredStatement) (t : Tree) (i : List ℕ) (m : ℕ) (a : Authority) → t ≡ s.received → i ≡ s.id → m ≡ s.stored → a ≡ s.authority → of_parts t i m a ≡ s
same_parts s t i m a e f g h = rw (e, f, g, h) refl
