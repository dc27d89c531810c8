-- What callers see of a builder, and what it has laid.
use Rattle.std.specs.Prelude.{◌≡◌, ◌⊎◌, ℕ, List, ◌∷◌, length, drop, Bool, Option, Some}
use Rattle.std.specs.List.{AllByRecursion}
use Rattle.lrs_journal.specs.Store.{store, HasNoHeader, IsPayload, Stands}

-- A store over a disk that isn't open yet.
pub record Builder (D : Type 0) : Type 0 where
  pub disk : D
  -- the bytes that the header allows
  pub limit : ℕ
  -- where the frames end
  pub end : ℕ
  -- how many frames there are
  pub number : ℕ
  -- a call has failed
  pub broken : Bool

-- a store of these payloads with no end gate, and with a closed gate in front
abbrev pub shut_store : ℕ → List (List ℕ) → List ℕ
shut_store limit payloads = 0 ∷ drop 1 (store limit payloads)

-- The builder has laid frames of these payloads: where they end, how many they are, and what the disk holds if it
-- tells that.
pub record IsBuilding {D : Type 0} (told : D → Option (List ℕ)) (builder : Builder D)
    (payloads : List (List ℕ)) : Type 0 where
  pub sizes : AllByRecursion IsPayload payloads
  pub offset : builder.end ≡ length (store builder.limit payloads)
  pub counts : builder.number ≡ length payloads
  pub reads : (bytes : List ℕ) → told builder.disk ≡ Some bytes → bytes ≡ shut_store builder.limit payloads

-- no open header, or a store of these payloads
abbrev pub IsBuilt : ℕ → List (List ℕ) → List ℕ → Type 0
IsBuilt limit payloads bytes = HasNoHeader bytes ⊎ Stands bytes limit payloads
