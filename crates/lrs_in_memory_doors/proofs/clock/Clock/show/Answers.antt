use Rattle.std.proofs.Common.{◌≡◌, ◌≤◌, ◌+◌, ◌-◌, ◌^◌, ◌++◌, ◌∷◌, [], ℕ, List, Bool, true, false, min, nat_lt, refl, ap, sym, ◌∙◌, arith, add-one, Some, None, if◌then◌else◌, get_or}
use Rattle.std.proofs.lemmas.Bool.{ltb-true, lt-ltb}
use Rattle.std.proofs.lemmas.List.{get_or_read}
use Rattle.lrs_in_memory_doors.specs.Clock.{reading_at, readings, told_readings}
use Rattle.lrs_disk.specs.Readings.{AddsReading}
use Rattle.lrs_in_memory_doors.proofs.clock.Clock.show.Goals as goal

told_if : (before after : List ℕ) (reading : ℕ) (was is : Bool) → (is ≡ true → was ≡ true) → (is ≡ true → after ≡ before ++ reading ∷ []) → AddsReading (if was then Some before else None) (if is then Some after else None) reading
told_if before after reading was false told more = tt
told_if before after reading true true told more = more refl
told_if before after reading false true told more = absurd (cc (told refl))

-- one reading more
told_more : (clock : List ℕ) (number later reading : ℕ) → number ≤ 2 ^ 64 - 1 → later ≡ min (number + 1) (2 ^ 64 - 1) → reading ≡ reading_at clock number → AddsReading (told_readings clock number) (told_readings clock later) reading
told_more clock number later reading fits is shown = told_if (readings clock number) (readings clock later) reading (nat_lt number (2 ^ 64 - 1)) (nat_lt later (2 ^ 64 - 1))
    (λ told. lt-ltb number (2 ^ 64 - 1) (omega (arith, ltb-true later (2 ^ 64 - 1) told)))
    (λ told. let next : later ≡ number + 1 = omega (arith, ltb-true later (2 ^ 64 - 1) told) in
    ap (λ n. readings clock n) next ∙ rw add-one refl ∙ ap (λ r. readings clock number ++ r ∷ []) (sym shown))

pub returns-in_default-clause-read : goal.returns-in_default-clause-read
returns-in_default-clause-read c = told_more c.args.self.now.numbers.items c.args.self.now.shown c.saturating_add-self.result c.index.result.now (omega arith) (omega arith)
    (get_or_read c.args.self.now.numbers.items c.min.result c.index.result.now (omega arith) c.index.ensures 0 ∙ ap (λ k. get_or c.args.self.now.numbers.items k 0) (omega (arith, c.min.ensures, c.len.ensures)))
