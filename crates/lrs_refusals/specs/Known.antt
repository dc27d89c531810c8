-- What is known of the statements of a write: under which of their ids one is held, and the ids under which those go
-- that come together.
use Rattle.std.specs.Prelude.{◌≡◌, ℕ, Bool, false, not, List, [], ◌∷◌, map, Option, Some, None}
use Rattle.std.specs.List.{AllByRecursion, prefix_len}
use Rattle.lrs_made.specs.LrsHistoryOccasions.{supply_in}
use Rattle.lrs_ids.specs.IdSupply.{GiveSame, left_of}
use Rattle.lrs_json.specs.View.{view}
use Rattle.lrs_json.specs.declared.tree.Tree.{Tree}
use Rattle.lrs_names.specs.declared.draw.Draw.{Draw}
use Rattle.lrs_made.specs.LrsStateState.{State, used_in}
use Rattle.lrs_record.specs.declared.entry.Write.{Write}
use Rattle.lrs_record.specs.declared.entry.Write.TheVariants.{Put, Post}
use Rattle.lrs_refusals.specs.declared.known.Batch.{Batch}
use Rattle.lrs_refusals.specs.declared.known.Known.{Known}
use Rattle.lrs_refusals.specs.declared.known.Known.TheVariants as known
use Rattle.xapi_index.specs.Batches.{WithId, ids_under, supply_after, with_ids}
use Rattle.xapi_statement.specs.Statements.{is_held}
use Rattle.xapi_statement.specs.Statement.{own_id}

-- ---- which ids are held

-- a statement is held under that id, if one is given
abbrev pub is_given_held : State → Option (List ℕ) → Bool
is_given_held st None = false
is_given_held st (Some id) = is_held id st.statements

-- the same under the id that a statement gives itself
abbrev pub is_own_held : State → Tree → Bool
is_own_held st t = is_given_held st (own_id (view t))

abbrev pub own_held : State → List Tree → List Bool
own_held st ts = map (is_own_held st) ts

-- Each of these tells whether a statement is held under the id at its index. There may be more ids, of which nothing is
-- told.
abbrev pub TellHeld : State → List Bool → List (List ℕ) → Type 0
TellHeld st [] ids = Unit {0}
TellHeld st (held ∷ more) [] = Unit {0}
TellHeld st (held ∷ more) (id ∷ ids) = (held ≡ is_held id st.statements) × TellHeld st more ids

-- the first of these tells it of that id
abbrev pub TellsNext : State → List Bool → List ℕ → Type 0
TellsNext st [] id = Unit {0}
TellsNext st (held ∷ more) id = held ≡ is_held id st.statements

-- ---- statements that come together

-- A statement is held under the id under which this one goes exactly if one is under the id that this one gives itself:
-- a made id is that of no held statement.
abbrev pub IsTold : State → WithId → Type 0
IsTold st n = is_own_held st n.tree ≡ is_held n.id st.statements

abbrev pub AreTold : State → List WithId → Type 0
AreTold st ns = AllByRecursion (IsTold st) ns

-- These are the ids under which the statements of a post with that draw go, and those that are left; and what is told
-- of the first of them is so.
pub record IsBatch (st : State) (draw : Draw) (ts : List Tree) (b : Batch) : Type 0 where
  pub ids : b.ids ≡ ids_under (with_ids (supply_in st (Post ts) draw) ts)
  pub left : GiveSame (left_of (used_in st) b.supply) (supply_after (supply_in st (Post ts) draw) ts)
  pub held : TellHeld st b.held b.ids

-- ---- a write

-- what is told of its statements, from the first one on
abbrev pub flags_of : Write → Known → List Bool
flags_of (Put id statement) (known.Put held) = held ∷ []
flags_of (Post statements) (known.Batch b) = b.held
flags_of other k = []

-- how many of its first statements are known not to be held
abbrev pub leading_new : Write → Known → ℕ
leading_new w k = prefix_len not (flags_of w k)

abbrev pub batch_in : Known → Option Batch
batch_in (known.Batch b) = Some b
batch_in other = None

-- what is known of the id of a put is so
abbrev pub IsKnownUnder : State → List ℕ → Known → Type 0
IsKnownUnder st id (known.Put held) = held ≡ is_held id st.statements
IsKnownUnder st id other = Unit {0}

-- what is known of these statements of a post is so
abbrev pub IsKnownOf : State → Draw → List Tree → Known → Type 0
IsKnownOf st draw ts (known.Batch b) = IsBatch st draw ts b
IsKnownOf st draw ts other = Unit {0}

-- what is known of the statements of a write with that draw is so
abbrev pub IsKnown : State → Draw → Write → Known → Type 0
IsKnown st draw (Put id statement) k = IsKnownUnder st id k
IsKnown st draw (Post statements) k = IsKnownOf st draw statements k
IsKnown st draw other k = Unit {0}
