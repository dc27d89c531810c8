use Rattle.std.proofs.Common.{◌≡◌, ◌<◌, ◌∷◌, [], ℕ, List, Bool, get_or, length, ap, sym, ◌∙◌, refl, true, false, arith}
use Rattle.std.specs.List.{position_or_len}
use Rattle.std.specs.Str.{bytes_eq}
use Rattle.std.proofs.lemmas.List.Sums.{position_or_len_is}
use Rattle.lrs_in_memory.specs.Named.{is_named}
use Rattle.lrs_in_memory.proofs.shelf.index_of.Goals as goal

pub returns-then-eq : goal.returns-then-eq
returns-then-eq c =
    let named : is_named c.args.name.now c.index-disks-index.result ≡ true = ap (λ l. bytes_eq l c.args.name.now) (sym c.as_str.ensures.value) ∙ sym c.eq.ensures ∙ c.if-eq.true in
    sym (position_or_len_is (is_named c.args.name.now) c.args.disks.now c.loop-index.index c.index-disks-index.result (omega arith) (λ k lt. c.loop-index.invariant k c.index-disks-index.result lt)
    (λ lt. ap (is_named c.args.name.now) (sym c.index-disks-index.is) ∙ named))

-- nothing passes, so that the first index is the end
position_end : {X : Type 0} (p : X → Bool) (xs : List X) (i : ℕ) → i ≡ length xs → ((k : ℕ) (d : X) → k < i → p (get_or xs k d) ≡ false) → length xs ≡ position_or_len p xs
position_end p [] i is fails = refl
position_end p (x ∷ xs) i is fails = sym (position_or_len_is p (x ∷ xs) (length (x ∷ xs)) x (omega arith) (λ k lt. fails k x (omega arith)) (λ lt. absurd (omega (arith, lt))))

pub returns : goal.returns
returns c = position_end (is_named c.args.name.now) c.args.disks.now c.loop-index.index (omega arith) c.loop-index.invariant
