-- What is read of an input.
use Rattle.std.specs.Prelude.{◌≡◌, ◌≤◌, ◌+◌, ℕ, List, [], ◌++◌, length, Option, option_map, IfSome}
use Rattle.lrs_disk.specs.Faults.{Rises}
use Rattle.lrs_console.specs.declared.reading.InputRefused.{InputRefused}
use Rattle.lrs_console.specs.declared.reading.InputRefused.TheVariants as refused
use Rattle.xapi_statement.specs.declared.length.TheConstants.{LONGEST_STATEMENT}

-- the most bytes that an input may have: those of a statement
abbrev pub longest_input : ℕ
longest_input = LONGEST_STATEMENT

-- these bytes were given
abbrev pub HasGiven : List ℕ → Option (List ℕ) → Option (List ℕ) → Type 0
HasGiven bytes left_old left_new = left_old ≡ option_map (λ rest. bytes ++ rest) left_new

-- if these bytes were given since some start, those are now
abbrev pub GivesOn : List ℕ → List ℕ → Option (List ℕ) → Option (List ℕ) → Type 0
GivesOn before now left_old left_new = (start : Option (List ℕ)) → HasGiven before start left_old
    → HasGiven now start left_new

abbrev pub IsAtEnd : Option (List ℕ) → Type 0
IsAtEnd left = IfSome left (λ rest. rest ≡ [])

-- why no piece is read: running out of memory is free
abbrev pub IsNoPiece : ℕ → ℕ → InputRefused → Type 0
IsNoPiece before now refused.TooLong = ⊥
IsNoPiece before now refused.Failed = Rises before now
IsNoPiece before now refused.Memory = Unit {0}

-- the bytes are those that the input tells, where it tells any
abbrev pub AreOfInput : List ℕ → Option (List ℕ) → Type 0
AreOfInput bytes left = IfSome left (λ told. bytes ≡ told)

-- P holds of the bytes that the input tells, or of some bytes if it tells none
abbrev pub ForInput : Option (List ℕ) → (List ℕ → Type 0) → Type 0
ForInput left P = (input : List ℕ) × AreOfInput input left × P input

-- the bytes are the whole input
abbrev pub IsInput : List ℕ → Option (List ℕ) → Type 0
IsInput bytes left = (length bytes ≤ longest_input) × AreOfInput bytes left

-- Why an input isn't taken: it is too long, of which just one byte too much is read, or a call of it failed. Running
-- out of memory is free.
abbrev pub IsNotInput : Option (List ℕ) → Option (List ℕ) → ℕ → ℕ → InputRefused → Type 0
IsNotInput left_old left_new before now refused.TooLong = (front : List ℕ) × (length front ≡ longest_input + 1)
    × HasGiven front left_old left_new
IsNotInput left_old left_new before now refused.Failed = Rises before now
IsNotInput left_old left_new before now refused.Memory = Unit {0}
