use Rattle.std.proofs.Common.{◌≡◌, ◌≢◌, ◌⊎◌, inl, inr, ◌∙◌, ◌<◌, ℕ, ◌∷◌, ◌++◌, length, min, take, ap, sym, arith}
use Rattle.std.specs.Int.{w32, w64, to_be_bytes}
use Rattle.lrs_journal.proofs.Frames.{shut_ahead, torn_ahead, whole_ahead}
use Rattle.lrs_journal.proofs.replay.ahead_of.Goals as goal

pub returns-then-left-lt2-clause-found : goal.returns-then-left-lt2-clause-found
returns-then-left-lt2-clause-found c bytes left same =
    let shut : (c.args.left < 2) ⊎ (c.args.gate ≢ 1) = elim c.then-left-lt2.either [
      | inl few ↦ inl few
      | inr other ↦ inr other.1
    ] in
    let few : min 13 c.args.left ≡ min 13 (length bytes) = ap (λ (n : ℕ). min 13 n) left in
    let read : (min 13 c.args.left < 2) ⊎ (c.args.gate ≢ 1) = elim shut [
      | inl lt ↦ inl (omega (arith, lt))
      | inr other ↦ inr other
    ] in
    shut_ahead bytes (to_be_bytes w32 c.args.size ++ to_be_bytes w64 c.args.number) c.args.gate (min 13 c.args.left) few same read

pub returns-then-left-bytes-clause-found : goal.returns-then-left-bytes-clause-found
returns-then-left-bytes-clause-found c bytes left same =
    let word = to_be_bytes w32 c.args.size ++ to_be_bytes w64 c.args.number in
    let few : min 13 c.args.left ≡ min 13 (length bytes) = ap (λ (n : ℕ). min 13 n) left in
    torn_ahead c.args.format c.args.k bytes (min 13 c.args.left) c.args.size c.args.number few (ap (λ (y : ℕ). take (min 13 c.args.left) (y ∷ word)) (sym c.if-gate-ne1.false) ∙ same) (omega (arith, c.if-left-lt2.false))
    (omega arith) (omega arith) (omega arith) (inl (omega (arith, c.if-left-bytes.true, c.frame_head.ensures, c.from.ensures, left)))

pub returns-then-has_number-clause-found : goal.returns-then-has_number-clause-found
returns-then-has_number-clause-found c bytes left same =
    let word = to_be_bytes w32 c.args.size ++ to_be_bytes w64 c.args.number in
    let few : min 13 c.args.left ≡ min 13 (length bytes) = ap (λ (n : ℕ). min 13 n) left in
    whole_ahead c.args.format c.args.k bytes (min 13 c.args.left) c.args.size c.args.number few (ap (λ (y : ℕ). take (min 13 c.args.left) (y ∷ word)) (sym c.if-gate-ne1.false) ∙ same)
    (omega (arith, c.if-left-bytes.false, c.frame_head.ensures, c.from.ensures, left)) (c.has_number.ensures.yes c.if-has_number.true)

pub returns-clause-found : goal.returns-clause-found
returns-clause-found c bytes left same =
    let word = to_be_bytes w32 c.args.size ++ to_be_bytes w64 c.args.number in
    let few : min 13 c.args.left ≡ min 13 (length bytes) = ap (λ (n : ℕ). min 13 n) left in
    torn_ahead c.args.format c.args.k bytes (min 13 c.args.left) c.args.size c.args.number few (ap (λ (y : ℕ). take (min 13 c.args.left) (y ∷ word)) (sym c.if-gate-ne1.false) ∙ same) (omega (arith, c.if-left-lt2.false))
    (omega arith) (omega arith) (omega arith) (inr (c.has_number.ensures.no c.if-has_number.false))
