-- What a lobby makes of the doors that are given back.
use Rattle.std.proofs.Common.{◌≡◌, ◌<◌, ◌≤◌, ℕ, zero, suc, Bool, true, false, List, [], ◌∷◌, length, map, nat_lt, get_or, All, refl, ap, sym, ◌∙◌, arith}
use Rattle.std.specs.List.{list_any}
use Rattle.std.proofs.lemmas.Bool.{lt-ltb}
use Rattle.std.proofs.lemmas.List.Elements.{All-tail}
use Rattle.lrs_disk.specs.Door.{DoorState}
use Rattle.lrs_disk.specs.Faults.{Rises}
use Rattle.lrs_disk.specs.Lobby.{CountsFaults}

module _ {D : Type 0} (state : D → DoorState) where
  abbrev pub has_failed : List D → Bool
  has_failed doors = list_any (λ (door : D). nat_lt 0 (state door).faults) doors

  -- a door that has failed is found
  found : (doors : List D) (k : ℕ) (x : DoorState) → k < length (map state doors) → get_or (map state doors) k x ≡ x → 0 < x.faults → has_failed doors ≡ true
  found [] k x within is failed = absurd (omega (arith, within))
  found (door ∷ doors) zero x within is failed =
      let there : nat_lt 0 (state door).faults ≡ true = lt-ltb 0 (state door).faults (omega (arith, failed, ap (λ (d : DoorState). d.faults) is)) in
      rw there refl
  found (door ∷ doors) (suc k) x within is failed =
      let later : has_failed doors ≡ true = found doors k x (omega (arith, within)) is failed in
      grind (arith, later)

  -- where none has failed, none is found
  none : (doors : List D) → All (λ (d : DoorState). d.faults ≡ 0) (map state doors) → has_failed doors ≡ false
  none [] sound = refl
  none (door ∷ doors) sound =
      let here : nat_lt 0 (state door).faults ≡ false = ap (λ (n : ℕ). nat_lt 0 n) (sound 0 (state door) (omega arith)) in
      rw here (none doors (All-tail (λ (d : DoorState). d.faults ≡ 0) (state door) (map state doors) sound))

  -- one has failed, and a fault was counted
  pub counted : (doors : List D) (before now : ℕ) → has_failed doors ≡ true → before ≤ now → Rises before now → CountsFaults before now (map state doors)
  counted doors before now failed later rises = record {
    later = later;
    failed = λ one. rises;
    kept = λ all. absurd (cc (sym failed ∙ none doors all));
  }

  -- none has failed, and none was counted
  pub uncounted : (doors : List D) (count : ℕ) → has_failed doors ≡ false → CountsFaults count count (map state doors)
  uncounted doors count sound = record {
    later = omega arith;
    failed = λ one. absurd (cc (sym sound ∙ found doors one.0 one.1 one.2 one.3 one.4));
    kept = λ all. refl;
  }
