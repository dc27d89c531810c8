-- How many items registers have, and their ids.
use Rattle.std.proofs.Common.{◌≡◌, ℕ, ◌+◌, ◌<◌, ◌^◌, arith, List, [], ◌∷◌, length, map, refl, ap, Some, Bool, true, false, cond, ◌||◌}
use Rattle.std.specs.Prelude.{is_some}
use Rattle.std.specs.Str.{bytes_eq}
use Rattle.lrs_names.specs.Members.{is_one_of}
use Rattle.lrs_state.specs.Counted.{first_under}
use Rattle.lrs_register.proofs.Changes.{length-change}
use Rattle.lrs_register.specs.Changes.{with_change}
use Rattle.lrs_register.specs.Register.{Registered}
use Rattle.lrs_register.specs.declared.change.Change.{Change}

-- an item more can be counted
pub still_few : {K T : Type 0} (under : T → T → Bool) (inside seen : Registered K T) (new : List T) (change : Change T) → inside ≡ seen → new ≡ with_change under inside.held change
    → length seen.held + 1 < 2 ^ 32 → length new < 2 ^ 32
still_few {K} {T} under inside seen new change same is few =
    let before = ap (λ (r : Registered K T). length r.held) same in
    let behind = ap (λ (xs : List T). length xs) is in
    omega (arith, few, before, behind, length-change under inside.held change)

-- ---- used ids

pub used_told : {T : Type 0} (key_of : T → List ℕ) (id : List ℕ) (xs : List T) → is_some (first_under key_of id xs) ≡ is_one_of (map key_of xs) id
used_told key_of id [] = refl
used_told {T} key_of id (x ∷ xs) = by_test (bytes_eq (key_of x) id) (used_told key_of id xs)
  where
    by_test : (b : Bool) → is_some (first_under key_of id xs) ≡ is_one_of (map key_of xs) id → is_some (cond b (Some x) (first_under key_of id xs)) ≡ b || is_one_of (map key_of xs) id
    by_test true more = refl
    by_test false more = more
