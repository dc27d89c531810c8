-- How a pass keeps what callers see of it: as the view of a seat at the table.
use Rattle.std.specs.Prelude.{◌≡◌, ℕ, List, [], ◌∷◌, ◌<◌, length, false}
use Rattle.atomic_table.specs.Seated.{TableId}
use Rattle.lrs_turn.specs.declared.view.View.{View}
use Rattle.lrs_turn.specs.declared.view.Sight.{Sight}
use Rattle.lrs_turn.specs.Lists.{Each, times, total}
use Rattle.lrs_turn.specs.Passes.{Pass, opened}
use Rattle.lrs_turn.specs.Rule.{Fits, Meaning, Whole, starter, view_in, sight_in}

module _ {T : Type 0} where
  abbrev pub sight_of : Pass T → Sight T
  sight_of pass = record {
    front = pass.front;
    marks = pass.marks;
    tide = pass.tide;
    opening = pass.opening;
    passes = pass.turns.passes;
  }

  abbrev pub view_of : Pass T → View T
  view_of pass = record {
    sights = sight_of pass ∷ [];
    own = pass.own;
    parts = 1;
    holds = pass.holds;
    out = false;
    line = pass.line;
    level = pass.level;
  }

  -- what callers see of a pass that stands at this table with these views
  abbrev pub pass_in : TableId → List (View T) → Pass T
  pass_in table views =
      let v = view_in views in
      let x = sight_in v.sights in
      record {
        turns = record { id = table; passes = x.passes };
        holds = v.holds;
        front = x.front;
        own = v.own;
        marks = x.marks;
        tide = x.tide;
        opening = x.opening;
        line = v.line;
        level = v.level;
      }

  -- callers see all that a pass has
  abbrev pub IsPass : TableId → List (View T) → ℕ → Type 0
  IsPass table views seen = (views ≡ view_of (pass_in table views) ∷ []) × (seen ≡ length (pass_in table views).front)

-- the table has a word for the length of the list, one for the turn, and the state's slot
abbrev pub AreTurns : TableId → ℕ → Type 0
AreTurns table passes = (table.words ≡ 2) × (table.slots ≡ 1) × (0 < passes)

module _ {T : Type 0} where
  -- a view that stands for these passes
  pub record Covers (passes : List (Pass T)) (v : View T) : Type 0 where
    pub holds : v.holds ≡ false
    pub parts : v.parts ≡ length passes
    pub own : (n : ℕ) → times n v.own ≡ total (λ (p : Pass T). times n p.own) passes
    pub sights : (a : Whole T) → Each (Fits a) v.sights → Each (λ (p : Pass T). Fits a (sight_of p)) passes

module _ {S T : Type 0} (m : Meaning S T) where
  abbrev pub opened_at : TableId → ℕ → S → Pass T
  opened_at table passes s = opened (record { id = table; passes = passes }) (m.line s) (m.marks s) (m.tide s)

  -- the view of the first seat of so many passes, while it still stands for this part of them
  abbrev pub fresh : S → ℕ → ℕ → View T
  fresh s passes parts = record (starter (m.line s) (m.marks s) (m.tide s) passes) { parts = parts }
