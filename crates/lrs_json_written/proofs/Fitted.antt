-- What is readable at a limit is so by its parts.
use Rattle.std.proofs.Common.{◌≡◌, ◌≤◌, ℕ, List, ◌∷◌, true, not, ◌&&◌, refl, ap, ◌∙◌, arith}
use Rattle.std.proofs.lemmas.Bool.{and_parts, not-true}
use Rattle.lrs_json.specs.Depth.{depth_of_elements, depth_of_members}
use Rattle.lrs_json.specs.Fits.{FitElements, FitMembers}
use Rattle.lrs_json.specs.Json.{Elements, no_elements, element, Members, no_members, member}
use Rattle.lrs_json.specs.Names.{are_new, is_among}
use Rattle.lrs_json_written.specs.Fitting.{AreReadable, HaveReadable, names_of}

pub elements_fit : (limit : ℕ) (js : Elements) → AreReadable limit js → FitElements js × (depth_of_elements js ≤ limit)
elements_fit limit no_elements r = (tt, omega arith)
elements_fit limit (element j js) r =
    let rest = elements_fit limit js r.1 in
    ((r.0.0, rest.0), omega (arith, r.0.1, rest.1))

pub elements_apart : (limit : ℕ) (js : Elements) → FitElements js → depth_of_elements js ≤ limit → AreReadable limit js
elements_apart limit no_elements fit shallow = tt
elements_apart limit (element j js) fit shallow = ((fit.0, omega (arith, shallow)), elements_apart limit js fit.1 (omega (arith, shallow)))

pub named_fit : (limit : ℕ) (names : List (List ℕ)) (ms : Members) → are_new names (names_of ms) ≡ true → HaveReadable limit ms → FitMembers names ms × (depth_of_members ms ≤ limit)
named_fit limit names no_members new r = (tt, omega arith)
named_fit limit names (member k j ms) new r =
    let parts = and_parts (not (is_among k names)) (are_new (k ∷ names) (names_of ms)) new in
    let rest = named_fit limit (k ∷ names) ms parts.1 r.2 in
    ((r.0, not-true (is_among k names) parts.0, r.1.0, rest.0), omega (arith, r.1.1, rest.1))

pub named_apart : (limit : ℕ) (names : List (List ℕ)) (ms : Members) → FitMembers names ms → depth_of_members ms ≤ limit → (are_new names (names_of ms) ≡ true) × HaveReadable limit ms
named_apart limit names no_members fit shallow = (refl, tt)
named_apart limit names (member k j ms) fit shallow =
    let rest = named_apart limit (k ∷ names) ms fit.3 (omega (arith, shallow)) in
    (ap (λ b. not b && are_new (k ∷ names) (names_of ms)) fit.1 ∙ rest.0, (fit.0, (fit.2, omega (arith, shallow)), rest.1))
