-- What ends a number and what opens an item.
use Rattle.std.proofs.Common.{◌≡◌, ◌≢◌, ℕ, List, [], ◌∷◌, ◌++◌, true, false, sym, ap, ◌∙◌, true≢false, refl, IsTrue, arith}
use Rattle.lrs_decimal.specs.Numbers.{Each, Ends, goes_on_number}
use Rattle.lrs_decimal.proofs.NumberLemmas.{begins_number}
use Rattle.lrs_json_reader.specs.Located.{Located, null, boolean, number, string, array, object, Elements, no_elements, element, Members, no_members, member}
use Rattle.lrs_json_reader.specs.Grammar.{is_space, Spaces, Quoted, Value, Listed, Paired}
use Rattle.lrs_json_reader.specs.Steps.{Opens}
use Rattle.lrs_json_reader.proofs.Values.{Starts, starts, starts_no_space}

space_no_digit : (b : ℕ) → IsTrue (is_space b) → goes_on_number b ≡ false
space_no_digit b s = grind arith

Spaces-Ends_at : (space bs rest : List ℕ) (x : ℕ) → goes_on_number x ≡ false → Each is_space space → bs ≡ space ++ x ∷ rest → Ends bs
Spaces-Ends_at [] bs rest x d each e = rw e d
Spaces-Ends_at (y ∷ ys) bs rest x d each e = rw e (space_no_digit y each.0)

pub Spaces-Ends : (bs rest : List ℕ) (x : ℕ) → goes_on_number x ≡ false → Spaces bs (x ∷ rest) → Ends bs
Spaces-Ends bs rest x d s = Spaces-Ends_at s.0 bs rest x d s.1 s.2

last_Ends_at : (space bs : List ℕ) → Each is_space space → bs ≡ space ++ [] → Ends bs
last_Ends_at [] bs each e = rw e tt
last_Ends_at (y ∷ ys) bs each e = rw e (space_no_digit y each.0)

-- white space to the end
pub last_Ends : (bs : List ℕ) → Spaces bs [] → Ends bs
last_Ends bs s = last_Ends_at s.0 bs s.1 s.2

pub Listed-Ends : (ps : Elements) (bs rest : List ℕ) → Listed true ps bs rest → Ends bs
Listed-Ends no_elements bs rest l = Spaces-Ends bs rest 93 refl l
Listed-Ends (element p ps) bs rest l = Spaces-Ends bs l.0 44 refl l.3

pub Paired-Ends : (ms : Members) (bs rest : List ℕ) → Paired true ms bs rest → Ends bs
Paired-Ends no_members bs rest l = Spaces-Ends bs rest 125 refl l
Paired-Ends (member left k p ms) bs rest l = Spaces-Ends bs l.0 44 refl l.6

pub digit_not : (b c : ℕ) → IsTrue (begins_number b) → begins_number c ≡ false → b ≢ c
digit_not b c d f e = true≢false (sym d ∙ ap begins_number e ∙ f)

pub starts_not_93 : (p : Located) (b : ℕ) → Starts p b → b ≢ 93
starts_not_93 null b s = λ e. omega arith
starts_not_93 (boolean true) b s = λ e. omega arith
starts_not_93 (boolean false) b s = λ e. omega arith
starts_not_93 (number left n) b s = digit_not b 93 s refl
starts_not_93 (string n) b s = λ e. omega arith
starts_not_93 (array ps) b s = λ e. omega arith
starts_not_93 (object ms) b s = λ e. omega arith

pub Value-Opens : (p : Located) (bs rest : List ℕ) → Value p bs rest → Opens 93 bs
Value-Opens p bs rest v = let s = starts p bs rest v in rw s.2 (starts_no_space p s.0 s.3, starts_not_93 p s.0 s.3)

pub Quoted-Opens : (k bs rest : List ℕ) → Quoted k bs rest → Opens 125 bs
Quoted-Opens k bs rest q = rw q.2 (refl, λ e. omega arith)
