use Rattle.std.proofs.Common.{◌≡◌, ℕ, ◌<◌, ◌+◌, ◌^◌, ℤ, pos, ◌+ℤ◌, ◌-ℤ◌, ◌*ℤ◌, Ok, refl, ap, sym, ◌∙◌, arith, w32, w64, to_z, of_z, to_z-of_z, FitsSigned, rules}
use Rattle.std.specs.Int.{w128}
use Rattle.jiff_core.proofs.SignedLemmas.{signed_arith, signed_casts}
use borrow.Author.Differences.{up, down}
use Rattle.lrs_time.specs.Timestamp.{nanoseconds}
use Rattle.lrs_time.specs.Reading.{instant_of_parts}
use Rattle.lrs_time.proofs.TimestampLemmas.{is_day-true}
use Rattle.lrs_time.proofs.timestamps.Parts.instant.Goals as goal

-- a number between these bounds comes back from its bits
wide : (z : ℤ) → up z < down z + 2 ^ 63 → down z < up z + 2 ^ 63 → (to_z w64 (of_z w64 z) ≡ z) × (to_z w128 (of_z w128 z) ≡ z)
wide z h k = (omega (arith, signed_casts), omega (arith, signed_casts))

wider : (z : ℤ) → up z < down z + 2 ^ 126 → down z < up z + 2 ^ 126 → to_z w128 (of_z w128 z) ≡ z
wider z h k = omega (arith, signed_casts)

-- a product by a second's nanoseconds, and a fraction of a second more
far : (z : ℤ) (n : ℕ) → up z < down z + 2 ^ 60 → down z < up z + 2 ^ 60 → n < 1_000_000_000 → (to_z w128 (of_z w128 (z *ℤ pos 1_000_000_000)) ≡ z *ℤ pos 1_000_000_000) × (to_z w128 (of_z w128 (z *ℤ pos 1_000_000_000 +ℤ pos n)) ≡ z *ℤ pos 1_000_000_000 +ℤ pos n)
far z n h k small = (wider (z *ℤ pos 1_000_000_000) (omega (arith, signed_arith)) (omega (arith, signed_arith)), wider (z *ℤ pos 1_000_000_000 +ℤ pos n) (omega (arith, signed_arith)) (omega (arith, signed_arith)))

same64 : (n : ℕ) → n < 1_000_000_000 → (to_z w64 n ≡ pos n) × (to_z w128 n ≡ pos n)
same64 n h = (omega (arith, signed_casts), omega (arith, signed_casts))

bounds32 : (z : ℤ) → FitsSigned w32 z → (up z < down z + 2 ^ 32) × (down z < up z + 2 ^ 32)
bounds32 z f = (omega (arith, signed_arith), omega (arith, signed_arith))

-- what the code reckons in its types is the number of nanoseconds
reckoned : (day ahead : ℤ) (second nanosecond : ℕ) → FitsSigned w32 day → FitsSigned w32 ahead → second < 86_400 → nanosecond < 1_000_000_000 → to_z w128 (of_z w128 (to_z w128 (of_z w128 (to_z w128 (of_z w128 (to_z w64 (of_z w64 (to_z w64 (of_z w64 (to_z w64 (of_z w64 (to_z w64 (of_z w64 (to_z w32 (of_z w32 day))) *ℤ pos 86_400)) +ℤ to_z w64 second)) -ℤ to_z w64 (of_z w64 (to_z w32 (of_z w32 ahead))))))) *ℤ pos 1_000_000_000)) +ℤ to_z w128 nanosecond)) ≡ nanoseconds day second ahead nanosecond
reckoned day ahead second nanosecond f g small part =
    let b = bounds32 day f in
    let a = bounds32 ahead g in
    let midnight = wide (day *ℤ pos 86_400) (omega (arith, signed_arith)) (omega (arith, signed_arith)) in
    let here = wide (day *ℤ pos 86_400 +ℤ pos second) (omega (arith, signed_arith)) (omega (arith, signed_arith)) in
    let utc = wide (day *ℤ pos 86_400 +ℤ pos second -ℤ ahead) (omega (arith, signed_arith)) (omega (arith, signed_arith)) in
    let whole = far (day *ℤ pos 86_400 +ℤ pos second -ℤ ahead) nanosecond (omega (arith, signed_arith)) (omega (arith, signed_arith)) part in
    simp (to_z-of_z f, to_z-of_z g, (wide day (omega (arith, signed_arith)) (omega (arith, signed_arith))).0, (wide ahead (omega (arith, signed_arith)) (omega (arith, signed_arith))).0, (same64 second (omega arith)).0, midnight.0, here.0, utc.0, utc.1, whole.0, (same64 nanosecond part).1, whole.1) refl

pub returns : goal.returns
returns c =
    let day = is_day-true c.args.self.now.date.year c.args.self.now.date.month c.args.self.now.date.day (c.in-Some.ensures.found.0 refl) in
    let day_fits : FitsSigned w32 c.in-Some.day = search rules in
    let ahead_fits : FitsSigned w32 c.seconds_ahead.result = search rules in
    let value : c.from_nanoseconds.result ≡ instant_of_parts c.args.self.now =
    rw (← c.in-Some.ensures.value, ← c.seconds_ahead.ensures) (c.from_nanoseconds.ensures ∙ reckoned c.in-Some.day c.seconds_ahead.result c.args.self.now.second c.args.self.now.nanosecond day_fits ahead_fits c.requires.second c.requires.nanosecond) in
    rw (day, sym c.is_negative_zero.ensures ∙ c.if-is_negative_zero.false) (ap Ok value)
