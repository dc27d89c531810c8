-- A text of 36 bytes is read in the hyphenated form or not at all.
use Rattle.std.proofs.Common.{◌≡◌, ℕ, true, false, List, length, Option, Some, None, refl, ◌∙◌, arith}
use Rattle.std.specs.Prelude.{◌==◌}
use Rattle.std.proofs.lemmas.Bool.{false≢true}
use Rattle.std.proofs.lemmas.Bool.Decides.{nat_tests}
use Rattle.uuid.specs.Text.{parsed, parsed_hyphenated}
use Rattle.lrs_names.proofs.id.Id.read.Goals as goal

empty : (o : Option (List ℕ)) → ((u : List ℕ) → o ≡ Some u → ⊥) → None ≡ o
empty None h = refl
empty (Some u) h = absurd (h u refl)

only_hyphenated : (s : List ℕ) → length s ≡ 36 → parsed s ≡ parsed_hyphenated s
only_hyphenated s e =
    let not_simple : (length s == 32) ≡ false = grind (arith, nat_tests) in
    let hyphenated : (length s == 36) ≡ true = grind (arith, nat_tests) in
    rw (not_simple, hyphenated) refl

pub returns-in-Err-clause-reads : goal.returns-in-Err-clause-reads
returns-in-Err-clause-reads c =
    empty (parsed_hyphenated c.args.text.now)
    (λ u e. false≢true (c.in-Err.ensures.ok.1 (u, only_hyphenated c.args.text.now c.if-text-ne36.false ∙ e)))
