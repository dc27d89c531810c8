-- Statements that come together: the ids under which they go, and how they are kept.
use Rattle.std.specs.Prelude.{ℕ, List, [], ◌∷◌, map, Option, Some, None}
use Rattle.lrs_json.specs.View.{view}
use Rattle.lrs_json.specs.declared.tree.Tree.{Tree}
use Rattle.xapi_postings.specs.XapiFormatAuthorityAuthority.{Authority}
use Rattle.xapi_postings.specs.XapiStatementStored.{StoredStatement}
use Rattle.xapi_postings.specs.XapiStatementStatement.{own_id}
use Rattle.lrs_ids.specs.Ids.{Supply, rest_of}

-- a statement, and the id under which it goes
pub record WithId : Type 0 where
  pub id : List ℕ
  pub tree : Tree

abbrev pub with_given : Option (List ℕ) → List (List ℕ) → List (List ℕ)
with_given None ids = ids
with_given (Some id) ids = id ∷ ids

-- the ids that they give themselves
abbrev pub given_ids : List Tree → List (List ℕ)
given_ids [] = []
given_ids (t ∷ ts) = with_given (own_id (view t)) (given_ids ts)

-- the id that it gives itself, else the made one
abbrev pub id_for : List ℕ → Option (List ℕ) → List ℕ
id_for made None = made
id_for made (Some own) = own

-- what is left after a statement: one less if none is its own
abbrev pub supply_behind : Supply → Option (List ℕ) → Supply
supply_behind supply None = rest_of supply
supply_behind supply (Some own) = supply

-- Each goes under the id that it gives itself, else under the next one that is made.
abbrev pub with_ids : Supply → List Tree → List WithId
with_ids supply [] = []
with_ids supply (t ∷ ts) =
    record { id = id_for (supply 0) (own_id (view t)); tree = t } ∷ with_ids (supply_behind supply (own_id (view t))) ts

-- what is left after all of them
abbrev pub supply_after : Supply → List Tree → Supply
supply_after supply [] = supply
supply_after supply (t ∷ ts) = supply_after (supply_behind supply (own_id (view t))) ts

abbrev pub ids_under : List WithId → List (List ℕ)
ids_under ns = map (λ (n : WithId). n.id) ns

abbrev pub held_of : ℕ → Authority → WithId → StoredStatement
held_of moment by s = record { received = s.tree; id = s.id; stored = moment; authority = by }

-- the statements as they are kept, if their caller has an authority
abbrev pub kept_by : ℕ → Option Authority → List WithId → List StoredStatement
kept_by moment None ns = []
kept_by moment (Some by) ns = map (held_of moment by) ns
