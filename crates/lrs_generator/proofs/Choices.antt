-- What the index of a statement makes of its verb and of its object.
use Rattle.std.proofs.Common.{◌≡◌, ℕ, ◌-◌, ◌/◌, ◌%◌, ◌^◌, ◌++◌, true, false, codes, refl, arith}
use Rattle.std.specs.Fmt.{decimal}
use Rattle.std.specs.Prelude.{◌==◌}
use Rattle.std.proofs.lemmas.Bool.Decides.{nat_tests}
use Rattle.lrs_generator.specs.Generated.{id_at, id_json, object_json, reference_json, verb_iri}

pub voided_verb : (i x : ℕ) → i % 50 ≡ 49 → verb_iri i x ≡ codes "http://adlnet.gov/expapi/verbs/voided"
voided_verb i x e = let voids : (i % 50 == 49) ≡ true = grind (arith, nat_tests) in rw voids refl

pub other_verb : (i x : ℕ) → (i % 50 ≡ 49 → ⊥) → verb_iri i x ≡ codes "http://v.invalid/" ++ decimal (x / 2 ^ 33 % 7)
other_verb i x e = let voids : (i % 50 == 49) ≡ false = grind (arith, nat_tests) in rw voids refl

pub voided_object : (seed i x : ℕ) → i % 50 ≡ 49 → object_json seed i x ≡ reference_json (id_at seed (i - 2))
voided_object seed i x e = let voids : (i % 50 == 49) ≡ true = grind (arith, nat_tests) in rw voids refl

pub referred_object : (seed i x : ℕ) → (i % 50 ≡ 49 → ⊥) → i % 10 ≡ 9 → object_json seed i x ≡ reference_json (id_at seed (i - 1))
referred_object seed i x e f =
    let voids : (i % 50 == 49) ≡ false = grind (arith, nat_tests) in
    let refers : (i % 10 == 9) ≡ true = grind (arith, nat_tests) in
    rw (voids, refers) refl

pub other_object : (seed i x : ℕ) → (i % 50 ≡ 49 → ⊥) → (i % 10 ≡ 9 → ⊥) → object_json seed i x ≡ id_json (codes "http://a.invalid/" ++ decimal (x / 2 ^ 40 % 50))
other_object seed i x e f =
    let voids : (i % 50 == 49) ≡ false = grind (arith, nat_tests) in
    let refers : (i % 10 == 9) ≡ false = grind (arith, nat_tests) in
    rw (voids, refers) refl
