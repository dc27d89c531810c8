-- What a lobby is asked, and its count of faults.
use Rattle.std.specs.Prelude.{◌≡◌, ◌<◌, ◌≤◌, ◌++◌, ◌∷◌, [], ℕ, List, Option, Result, Ok, Err, All, Any, option_map}
use Rattle.lrs_disk.specs.Door.{DoorState}
use Rattle.lrs_disk.specs.Faults.{Rises}
use Rattle.lrs_disk.specs.declared.lobby.DoorsRefused.{DoorsRefused}
use Rattle.lrs_disk.specs.declared.lobby.DoorsRefused.TheVariants as refusals

-- so many doors of one address
pub record DoorsAsked : Type 0 where
  pub address : List ℕ
  pub count : ℕ

-- What was asked is added to what was asked before. Without memory nothing was asked.
abbrev pub AsksForDoors : {T : Type 0} → DoorsAsked → Result T DoorsRefused → Option (List DoorsAsked)
    → Option (List DoorsAsked) → Type 0
AsksForDoors request (Ok doors) old new = new ≡ option_map (λ (before : List DoorsAsked). before ++ request ∷ []) old
AsksForDoors request (Err refusals.Failed) old new =
    new ≡ option_map (λ (before : List DoorsAsked). before ++ request ∷ []) old
AsksForDoors request (Err refusals.Memory) old new = new ≡ old

-- the count of faults rises if doors are refused though memory lasts, and stays otherwise
abbrev pub HasDoorsCause : {T : Type 0} → ℕ → ℕ → Result T DoorsRefused → Type 0
HasDoorsCause before now (Ok doors) = now ≡ before
HasDoorsCause before now (Err refusals.Failed) = (before ≤ now) × Rises before now
HasDoorsCause before now (Err refusals.Memory) = now ≡ before

-- a count of faults that rises if one of these doors has failed, and stays otherwise
pub record CountsFaults (before now : ℕ) (doors : List DoorState) : Type 0 where
  pub later : before ≤ now
  pub failed : Any (λ (door : DoorState). 0 < door.faults) doors → Rises before now
  pub kept : All (λ (door : DoorState). door.faults ≡ 0) doors → now ≡ before
