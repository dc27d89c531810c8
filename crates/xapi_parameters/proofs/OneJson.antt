-- A JSON text spells one value.
use Rattle.std.proofs.Common.{◌≡◌, ℕ, List, sym, ◌∙◌}
use Rattle.std.proofs.lemmas.Option.{same_Some}
use Rattle.lrs_json_reader.specs.Grammar.{IsText}
use Rattle.lrs_json_reader.specs.Located.{Located}
use Rattle.lrs_json_spelled.proofs.Law.{located_again}

pub one_json : (bytes : List ℕ) (p q : Located) → IsText p bytes → IsText q bytes → p ≡ q
one_json bytes p q h k = same_Some p q (sym (located_again bytes p h) ∙ located_again bytes q k)
