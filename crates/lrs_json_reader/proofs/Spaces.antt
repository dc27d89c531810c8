-- Words and white space at the front of a list.
use Rattle.std.proofs.Common.{◌≡◌, ℕ, List, ◌++◌, true, false, length, drop, nat_eq, refl, sym, true≢false}
use Rattle.std.specs.List.{starts_with}
use Rattle.std.proofs.lemmas.Slice.Eq.{starts_is}
use Rattle.std.proofs.lemmas.Bool.Decides.{Decides-eqb}
use Rattle.lrs_decimal.specs.Numbers.{Stops}
use Rattle.lrs_decimal.proofs.Runs.{run, behind, Each-run, run-behind, behind_again}
use Rattle.lrs_json_reader.specs.Grammar.{is_space, Spaces}

pub word_here : (s p : List ℕ) → true ≡ starts_with nat_eq s p → s ≡ p ++ drop (length p) s
word_here s p e = (starts_is Decides-eqb s p true e).0 refl

pub no_word : (s p : List ℕ) → false ≡ starts_with nat_eq s p → (rest : List ℕ) → s ≡ p ++ rest → ⊥
no_word s p e rest h = true≢false (sym ((starts_is Decides-eqb s p false e).1 rest h))

pub Spaces-behind : (bs : List ℕ) → Spaces bs (behind is_space bs)
Spaces-behind bs = (run is_space bs, Each-run is_space bs, run-behind is_space bs)

pub behind-Spaces : (bs rest : List ℕ) → Spaces bs rest → Stops is_space rest → behind is_space bs ≡ rest
behind-Spaces bs rest s stops = behind_again is_space bs s.0 rest s.2 s.1 stops
