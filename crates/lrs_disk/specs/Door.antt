-- What is seen of a door.
use Rattle.std.specs.Prelude.{◌≡◌, ◌≤◌, ◌++◌, ◌∷◌, [], ℕ, Bool, true, false, List, Option, Some, None, IfSome}
use Rattle.std.specs.Prelude.{option_map, nat_lt}
use Rattle.std.specs.Option.{ForSome}
use Rattle.lrs_disk.specs.Faults.{Rises}
use Rattle.lrs_disk.specs.declared.door.Next.{Next}
use Rattle.lrs_disk.specs.declared.door.Next.TheVariants as answers

-- A link that was given back: all that it brought and what it took, if it tells them, and whether its count of
-- faults rose while it was out.
pub record Returned : Type 0 where
  pub stream : Option (List ℕ)
  pub taken : Option (List ℕ)
  pub rose : Bool

-- A door. The streams, the links that were given back and the readings are seen if it tells them.
pub record DoorState : Type 0 where
  -- the last answer was that no link will come any more
  pub closed : Bool
  -- the name of the link that is out
  pub out : Option ℕ
  -- of the links still to come
  pub streams : Option (List (List ℕ))
  -- in the order in which they were given back
  pub returned : Option (List Returned)
  -- of the clock so far
  pub readings : Option (List ℕ)
  -- how often it failed to give a link
  pub faults : ℕ

-- Nothing was asked of it so far, and what it tells of links and readings begins here.
pub record IsFresh (d : DoorState) : Type 0 where
  pub not_closed : d.closed ≡ false
  pub none_out : d.out ≡ None
  pub none_returned : ForSome d.returned (λ links. links ≡ [])
  pub no_reading : ForSome d.readings (λ readings. readings ≡ [])
  pub no_fault : d.faults ≡ 0

abbrev pub IfJoined : {L : Type 0} → Next L → (L → Type 0) → Type 0
IfJoined (answers.Joined link) P = P link
IfJoined answers.Closed P = Unit {0}
IfJoined answers.Failed P = Unit {0}

abbrev pub is_closed : {L : Type 0} → Next L → Bool
is_closed (answers.Joined link) = false
is_closed answers.Closed = true
is_closed answers.Failed = false

-- the name of the link that joined
abbrev pub name_joined : {L : Type 0} → (L → ℕ) → Next L → Option ℕ
name_joined name (answers.Joined link) = Some (name link)
name_joined name answers.Closed = None
name_joined name answers.Failed = None

-- A link brings the first of the streams that were to come. The door is closed if there are none.
abbrev pub Brings : {L : Type 0} → (L → Option (List ℕ)) → Next L → Option (List (List ℕ))
    → Option (List (List ℕ)) → Type 0
Brings stream (answers.Joined link) None new = new ≡ None
Brings stream (answers.Joined link) (Some []) new = ⊥
Brings stream (answers.Joined link) (Some (first ∷ rest)) new = (stream link ≡ Some first) × (new ≡ Some rest)
Brings stream answers.Closed old new = IfSome old (λ streams. streams ≡ []) × (new ≡ old)
Brings stream answers.Failed old new = new ≡ old

-- the count of faults rises if the door fails to give a link, and stays otherwise
abbrev pub HasNextCause : {L : Type 0} → ℕ → ℕ → Next L → Type 0
HasNextCause before now (answers.Joined link) = now ≡ before
HasNextCause before now answers.Closed = now ≡ before
HasNextCause before now answers.Failed = (before ≤ now) × Rises before now

-- what a door keeps of a link, which came with no fault
abbrev pub link_returned : Option (List ℕ) → Option (List ℕ) → ℕ → Returned
link_returned stream taken faults = record { stream = stream; taken = taken; rose = nat_lt 0 faults }

-- the link that was out was given back
abbrev pub with_returned : DoorState → Returned → DoorState
with_returned d link =
    record d { out = None; returned = option_map (λ (links : List Returned). links ++ link ∷ []) d.returned }

abbrev pub IsFailed : {L : Type 0} → Next L → Type 0
IsFailed (answers.Joined link) = ⊥
IsFailed answers.Closed = ⊥
IsFailed answers.Failed = Unit {0}
