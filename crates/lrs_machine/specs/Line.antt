-- The line of a desk: what became of each act that changed its journal, and the history that these made.
use Rattle.std.specs.Prelude.{◌≡◌, ◌≤◌, ◌-◌, ◌&&◌, not, ℕ, List, [], ◌∷◌, ◌++◌, length, map, slice_get, Bool, true}
use Rattle.std.specs.Prelude.{false, if◌then◌else◌, Option, Some, None, is_some}
use Rattle.lrs_record.specs.declared.entry.Entry.{Entry}
pub use Rattle.lrs_turn.specs.Lists.{BeginsWith}

-- What became of an act that changed the journal, or of an entry that stood at the opening.
pub record Record : Type 0 where
  -- the entry that the act made, also one in doubt
  pub made : Option Entry
  -- it was acknowledged
  pub acknowledged : Bool
  -- the act ended the doubt about an earlier entry
  pub landed : Bool
  -- the disk's moment at the act's end
  pub moment : ℕ

abbrev pub with_made : Option Entry → List Entry → List Entry
with_made None h = h
with_made (Some e) h = e ∷ h

-- the history: the entries made
abbrev pub entries : List Record → List Entry
entries [] = []
entries (r ∷ line) = with_made r.made (entries line)

-- An entry is in doubt after a record: its own if it isn't acknowledged, and an earlier one if it didn't land.
abbrev pub doubt_behind : Bool → Record → Bool
doubt_behind doubt r = if is_some r.made then not r.acknowledged else (doubt && not r.landed)

abbrev pub doubt_from : Bool → List Record → Bool
doubt_from doubt [] = doubt
doubt_from doubt (r ∷ line) = doubt_from (doubt_behind doubt r) line

-- the last entry made is in doubt
abbrev pub in_doubt : List Record → Bool
in_doubt line = doubt_from false line

-- how many entries stand without doubt
abbrev pub sure : List Record → ℕ
sure line = if in_doubt line then length (entries line) - 1 else length (entries line)

-- ---- the opening

-- the record of an entry that stood at the opening, which ended at this moment
abbrev pub opening_record : ℕ → Entry → Record
opening_record moment e = record { made = Some e; acknowledged = true; landed = false; moment = moment }

-- the line of a desk at its opening
abbrev pub opened_line : ℕ → List Entry → List Record
opened_line moment opening = map (opening_record moment) opening

-- the line of an opening, and of the acts since then
abbrev pub line_of : ℕ → List Entry → List Record → List Record
line_of moment opening acts = opened_line moment opening ++ acts

-- no record is of a later moment
abbrev pub AreBefore : ℕ → List Record → Type 0
AreBefore moment line = (k : ℕ) (r : Record) → slice_get line k ≡ Some r → r.moment ≤ moment
