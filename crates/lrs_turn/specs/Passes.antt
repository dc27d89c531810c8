-- What callers see of turns and of their passes.
use Rattle.std.specs.Prelude.{◌≡◌, ◌⊎◌, ℕ, ◌<◌, ◌≤◌, List, [], ◌∷◌, ◌++◌, length, Bool, true, false, All}
use Rattle.atomic_table.specs.Seated.{TableId}
use Rattle.lrs_turn.specs.Lists.{times, total}

-- Which turns these are, and how many passes they have.
pub record Turns : Type 0 where
  pub id : TableId
  pub passes : ℕ

-- What one worker knows of the one list of records.
pub record Pass (T : Type 0) : Type 0 where
  -- of which turns it is
  pub turns : Turns
  -- whether it holds the turn
  pub holds : Bool
  -- the records that it has seen: the list begins with them
  pub front : List T
  -- the numbers of the records that it committed
  pub own : List ℕ
  -- the marks of each state that it takes
  pub marks : List ℕ
  -- numbers, of which no state that it takes has a lower one
  pub tide : List ℕ
  -- how many records the list had when the turns were made
  pub opening : ℕ
  -- the list as it is committed, and the tide of the state when it was taken: both count only while it holds the turn
  pub line : List T
  pub level : List ℕ

module _ {T : Type 0} where
  -- it is of these turns and doesn't hold the turn
  abbrev pub IsIdle : Turns → Pass T → Type 0
  IsIdle turns pass = (pass.turns ≡ turns) × (pass.holds ≡ false)

  -- it is of these turns and holds the turn
  abbrev pub HasTurn : Turns → Pass T → Type 0
  HasTurn turns pass = (pass.turns ≡ turns) × (pass.holds ≡ true)

  -- a pass of new turns, whose state has this list, these marks and this tide
  abbrev pub opened : Turns → List T → List ℕ → List ℕ → Pass T
  opened turns line marks tide = record {
    turns = turns;
    holds = false;
    front = line;
    own = [];
    marks = marks;
    tide = tide;
    opening = length line;
    line = [];
    level = [];
  }

  -- the pass with the turn, after a state of this list and this tide was taken
  abbrev pub taken : List T → List ℕ → Pass T → Pass T
  taken line tide pass = record pass { holds = true; line = line; level = tide }

  -- the pass has seen the committed list
  abbrev pub pointed : Pass T → Pass T
  pointed pass = record pass { front = pass.line }

  -- the pass has committed one record more, and has seen the list with it
  abbrev pub committed : List T → Pass T → Pass T
  committed line pass = record pass { front = line; line = line; own = pass.own ++ length pass.line ∷ [] }

  -- the pass without the turn, after a state of this tide was given
  abbrev pub given : List ℕ → Pass T → Pass T
  given tide pass = record pass { holds = false; tide = tide }

  -- the pass without the turn, after it gave back what it took and knows no more than before
  abbrev pub rested : Pass T → Pass T
  rested pass = record pass { holds = false }

  -- the same list with one record more
  abbrev pub IsOneMore : List T → List T → Type 0
  IsOneMore new old = (r : T) × (new ≡ old ++ r ∷ [])

-- Each number from the opening to the end of the list is once in the own of just one pass, and no other is in any.
pub record OwnsEach {T : Type 0} (passes : List (Pass T)) (opening count : ℕ) : Type 0 where
  pub opened : All (λ (p : Pass T). p.opening ≡ opening) passes
  pub once : (n : ℕ) → opening ≤ n → n < count → total (λ (p : Pass T). times n p.own) passes ≡ 1
  pub none : (n : ℕ) → (n < opening) ⊎ (count ≤ n) → total (λ (p : Pass T). times n p.own) passes ≡ 0
