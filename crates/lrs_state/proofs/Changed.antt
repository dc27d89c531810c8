-- Sessions that are changed, and room for one that begins.
use Rattle.std.proofs.Common.{◌≡◌, ℕ, ◌<◌, ◌≤◌, List, length, get_or, refl, sym, ap, Option, Bool, true, false}
use Rattle.std.specs.Prelude.{slice_set}
use Rattle.std.specs.Option.{option_map_or}
use Rattle.std.proofs.lemmas.Option.{slice_get_past, slice_get_read}
use Rattle.lrs_state.specs.Sessions.{HasRoomIf, with_changed}
use Rattle.lrs_state.specs.declared.sessions.HeldSession.{HeldSession}

-- ---- the one of a number

-- it is there
pub changed_at : (change : HeldSession → HeldSession) (held : List HeldSession) (k : ℕ) (s : HeldSession) → k < length held → s ≡ get_or held k s → slice_set held k (change s) ≡ with_changed change held k
changed_at change held k s less is =
    ap (λ (o : Option HeldSession). option_map_or (λ (x : HeldSession). slice_set held k (change x)) o held) (sym (slice_get_read held (length held) k s refl less is))

-- it isn't there
pub changed_none : (change : HeldSession → HeldSession) (held : List HeldSession) (k : ℕ) → length held ≤ k → held ≡ with_changed change held k
changed_none change held k past = ap (λ (o : Option HeldSession). option_map_or (λ (x : HeldSession). slice_set held k (change x)) o held) (sym (slice_get_past held k past))

-- ---- room

pub room_for_one : (launched : Bool) (spare : ℕ) → 1 ≤ spare → HasRoomIf launched spare
room_for_one false spare room = tt
room_for_one true spare room = room

pub room_for_none : (launched : Bool) (spare : ℕ) → launched ≡ false → HasRoomIf launched spare
room_for_none false spare none = tt
room_for_none true spare none = cc none
