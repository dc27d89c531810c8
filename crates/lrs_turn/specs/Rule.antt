-- The rule of the turn, and what its steps tell.
use Rattle.std.specs.Prelude.{◌≡◌, ◌≢◌, ◌⊎◌, ℕ, ◌+◌, ◌-◌, ◌<◌, ◌≤◌, List, [], ◌∷◌, ◌++◌, map, length}
use Rattle.std.specs.Prelude.{Option, Some, None, Bool, true, false}
use mathlib.Core.Option as core
use lib.ListN.{get_elem?}
use Rattle.atomic_table.specs.Table.{State, Me}
use Rattle.lrs_turn.specs.Lists.{BeginsWith, Each, NoneFalls, total, times}
use Rattle.lrs_turn.specs.declared.view.View.{View}
use Rattle.lrs_turn.specs.declared.view.Sight.{Sight}

-- What a state shows.
pub record Meaning (S T : Type 0) : Type 0 where
  pub line : S → List T
  pub marks : S → List ℕ
  pub tide : S → List ℕ

abbrev pub meaning : {S T : Type 0} → (S → List T) → (S → List ℕ) → (S → List ℕ) → Meaning S T
meaning line marks tide = record { line = line; marks = marks; tide = tide }

-- The one list and the tide, and the marks, the opening and the number of passes, which never change.
pub record Whole (T : Type 0) : Type 0 where
  pub log : List T
  pub marks : List ℕ
  pub tide : List ℕ
  pub opening : ℕ
  pub passes : ℕ

module _ {T : Type 0} where
  -- a view that stands for no pass
  abbrev pub spent : View T
  spent = record { sights = []; own = []; parts = 0; holds = false; out = false; line = []; level = [] }

  abbrev pub view_in : List (View T) → View T
  view_in [] = spent
  view_in (v ∷ rest) = v

  abbrev pub blank_sight : Sight T
  blank_sight = record { front = []; marks = []; tide = []; opening = 0; passes = 0 }

  abbrev pub sight_in : List (Sight T) → Sight T
  sight_in [] = blank_sight
  sight_in (x ∷ rest) = x

  -- what a pass has seen is so, and the only pass has seen the last tide
  pub record Fits (a : Whole T) (x : Sight T) : Type 0 where
    pub front : BeginsWith x.front a.log
    pub marks : x.marks ≡ a.marks
    pub tide : NoneFalls x.tide a.tide
    pub opening : x.opening ≡ a.opening
    pub passes : x.passes ≡ a.passes
    pub alone : a.passes ≡ 1 → x.tide ≡ a.tide

  abbrev pub AreAt : List (View T) → ℕ → View T → Type 0
  AreAt views k v = get_elem? views k ≡ core.some v

  abbrev pub parts_of : View T → ℕ
  parts_of v = v.parts

  abbrev pub own_times : ℕ → View T → ℕ
  own_times n v = times n v.own

  -- The parts add up to all passes, and a view that stands for none has seen nothing. Each number from the opening to
  -- the end of the list is once in just one own, and no other is in any.
  pub record Books (passes opening count : ℕ) (views : List (View T)) : Type 0 where
    pub parts : total parts_of views ≡ passes
    pub spent : (k : ℕ) (v : View T) → AreAt views k v → v.parts ≡ 0 → v.own ≡ []
    pub blind : (k : ℕ) (v : View T) → AreAt views k v → v.parts ≡ 0 → v.sights ≡ []
    pub once : (n : ℕ) → opening ≤ n → n < count → total (own_times n) views ≡ 1
    pub none : (n : ℕ) → (n < opening) ⊎ (count ≤ n) → total (own_times n) views ≡ 0
    pub grown : opening ≤ count

  -- what the steps make of a view
  abbrev pub seeing : List T → Sight T → Sight T
  seeing list x = record x { front = list }

  abbrev pub pointed_view : View T → View T
  pointed_view v = record v { sights = map (seeing v.line) v.sights }

  abbrev pub committed_view : List T → View T → View T
  committed_view list v = record v {
    line = list;
    sights = map (seeing list) v.sights;
    own = v.own ++ length v.line ∷ [];
  }

  abbrev pub rising : List ℕ → Sight T → Sight T
  rising tide x = record x { tide = tide }

  abbrev pub given_view : List ℕ → View T → View T
  given_view tide v = record v { holds = false; out = false; sights = map (rising tide) v.sights }

  -- a view that gives one part away, the view that gets it, and two that become one
  abbrev pub less : View T → View T
  less v = record v { parts = v.parts - 1 }

  abbrev pub another : View T → View T
  another v = record { sights = v.sights; own = []; parts = 1; holds = false; out = false; line = []; level = [] }

  abbrev pub both : View T → View T → View T
  both v w = record v { sights = v.sights ++ w.sights; own = v.own ++ w.own; parts = v.parts + w.parts }

  -- the first view, with all parts
  abbrev pub starter : List T → List ℕ → List ℕ → ℕ → View T
  starter line marks tide passes = record {
    sights = record { front = line; marks = marks; tide = tide; opening = length line; passes = passes } ∷ [];
    own = [];
    parts = passes;
    holds = false;
    out = false;
    line = [];
    level = [];
  }

-- the word of the turn: 1 while somebody holds it
abbrev pub turn_of : Option ℕ → ℕ
turn_of None = 0
turn_of (Some holder) = 1

module _ {S T : Type 0} (m : Meaning S T) where
  abbrev pub Shows : Whole T → S → Type 0
  Shows a s = (m.line s ≡ a.log) × (m.marks s ≡ a.marks) × (m.tide s ≡ a.tide)

  -- where the slot is while somebody holds the turn: out with its seat, or at home and empty
  abbrev pub StandsAt : List (core.Option (Option S)) → Bool → Type 0
  StandsAt homes out = ((out ≡ true) × (homes ≡ core.none ∷ [])) ⊎ ((out ≡ false) × (homes ≡ core.some None ∷ []))

  -- with the turn free the state is at home and shows the whole; else one view, which has a part, knows the list
  abbrev pub Turn : Whole T → List (core.Option (Option S)) → List (View T) → Option ℕ → Type 0
  Turn a homes views None =
      ((k : ℕ) (v : View T) → AreAt views k v → v.holds ≡ false)
      × ((s : S) × (homes ≡ core.some (Some s) ∷ []) × Shows a s)
  Turn a homes views (Some j) =
      ((k : ℕ) (v : View T) → AreAt views k v → k ≢ j → v.holds ≡ false)
      × ((v : View T) × AreAt views j v × (0 < v.parts) × (v.line ≡ a.log) × (v.level ≡ a.tide)
      × StandsAt homes v.out × (v.holds ≡ true))

  -- Between any two steps.
  pub record KeptBy (passes : ℕ) (a : Whole T) (holder : Option ℕ) (s : State (Option S) (View T)) : Type 0 where
    pub words : s.words ≡ length a.log ∷ turn_of holder ∷ []
    pub count : a.passes ≡ passes
    pub sights : (k : ℕ) (v : View T) → AreAt s.views k v → Each (Fits a) v.sights
    pub turn : Turn a s.homes s.views holder
    pub books : Books passes a.opening (length a.log) s.views

  abbrev pub Kept : ℕ → State (Option S) (View T) → Type 0
  Kept passes s = (a : Whole T) × (holder : Option ℕ) × KeptBy passes a holder s

  -- what each step tells: the seat before, the number found, and the seat after
  abbrev pub Takes : Me (Option S) (View T) → ℕ → Me (Option S) (View T) → Type 0
  Takes v n w =
      (n ≡ 1 → w ≡ v)
      × (n ≢ 1 → (a : Whole T) × (s : S) × Shows a s × Each (Fits a) v.0.sights
      × (w ≡ (record v.0 { holds = true; out = true; line = m.line s; level = m.tide s }, (0, Some s) ∷ [])))

module _ {S T : Type 0} where
  abbrev pub Rests : Me (Option S) (View T) → Me (Option S) (View T) → Type 0
  Rests v w = w ≡ (record v.0 { out = false }, [])

  abbrev pub Fetches : Me (Option S) (View T) → Me (Option S) (View T) → Type 0
  Fetches v w = w ≡ (record v.0 { out = true }, (0, None) ∷ [])

  abbrev pub Gives : List ℕ → Me (Option S) (View T) → Me (Option S) (View T) → Type 0
  Gives tide v w = w ≡ (given_view tide v.0, [])

  abbrev pub Points : Me (Option S) (View T) → Me (Option S) (View T) → Type 0
  Points v w = w ≡ (pointed_view v.0, v.1)

  abbrev pub Commits : List T → Me (Option S) (View T) → Me (Option S) (View T) → Type 0
  Commits list v w = w ≡ (committed_view list v.0, v.1)
