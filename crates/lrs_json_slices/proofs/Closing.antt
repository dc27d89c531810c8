-- What is behind the closing bracket of a written array or object.
use Rattle.std.proofs.Common.{◌≡◌, ◌<◌, ℕ, suc, ◌+◌, ◌-◌, ◌==◌, codes, if◌then◌else◌, List, [], ◌∷◌, ◌++◌, Bool, true, false, IsTrue, refl, sym, ap, ◌∙◌, arith}
use Rattle.std.specs.List.{flat_map}
use Rattle.std.proofs.lemmas.Grind.{common_steps}
use Rattle.lrs_decimal.specs.Numbers.{Each}
use Rattle.lrs_decimal.proofs.NumberLemmas.{is_numeric, IsNumber-numeric}
use Rattle.lrs_json.specs.Json.{Json, null, boolean, number, string, array, object, Elements, no_elements, element, Members, no_members, member}
use Rattle.lrs_json.specs.Spellable.{IsSpellable, AreSpellableElements, AreSpellableMembers}
use Rattle.lrs_json.specs.Written.{comma_if, elements_text, escaped, members_text, quoted, written}
use Rattle.lrs_json_reader.specs.Brackets.{closes, mode_after, opens}
use Rattle.lrs_json_reader.specs.declared.depth.ScanState.TheVariants.{Outside, Inside, Escaped}
use Rattle.lrs_json_reader.proofs.Alike.{element_parts, member_parts}
use Rattle.lrs_json_reader.proofs.Scan.{is_quiet, numeric_quiet}
use Rattle.lrs_json_slices.specs.Scanning.{behind_close, behind_quote}
use Rattle.lrs_json_slices.proofs.Quotes.{quote_left}

-- some bracket is open
abbrev pub IsOpen : ℕ → Type 0
IsOpen d = (d == 0) ≡ false

pub is_open : (d : ℕ) → 0 < d → IsOpen d
is_open d l = grind (arith, common_steps)

-- ---- strings

at_mark : (d b : ℕ) (bs : List ℕ) (q k : Bool) → (b == 34) ≡ q → (b == 92) ≡ k → behind_close d Inside bs ≡ behind_close d Outside (behind_quote false bs) → behind_close d Escaped bs ≡ behind_close d Outside (behind_quote true bs)
    → behind_close d (mode_after Inside b) bs ≡ behind_close d Outside (if b == 34 then bs else behind_quote (b == 92) bs)
at_mark d b bs true k e f inside passed = rw e refl
at_mark d b bs false true e f inside passed = rw (e, f) passed
at_mark d b bs false false e f inside passed = rw (e, f) inside

mutual
  in_string : (d : ℕ) (bs : List ℕ) → IsOpen d → behind_close d Inside bs ≡ behind_close d Outside (behind_quote false bs)
  in_string d [] deep = refl
  in_string d (b ∷ bs) deep = rw deep (at_mark d b bs (b == 34) (b == 92) refl refl (in_string d bs deep) (in_escape d bs deep))

  in_escape : (d : ℕ) (bs : List ℕ) → IsOpen d → behind_close d Escaped bs ≡ behind_close d Outside (behind_quote true bs)
  in_escape d [] deep = refl
  in_escape d (b ∷ bs) deep = rw deep (in_string d bs deep)

-- from the opening quote on
pub string_passed : (d : ℕ) (bs : List ℕ) → IsOpen d → behind_close d Outside (34 ∷ bs) ≡ behind_close d Outside (behind_quote false bs)
string_passed d bs deep = rw deep (in_string d bs deep)

-- what the byte before them makes of the bytes behind it
pub string_if : (b d : ℕ) (behind : List ℕ) → b ≡ 34 → 0 < d → behind_close d Outside (behind_quote false behind) ≡ behind_close d (mode_after Outside b) behind
string_if b d behind quote l = rw quote (sym (in_string d behind (is_open d l)))

quoted_passed : (d : ℕ) (text rest : List ℕ) → IsOpen d → behind_close d Outside (quoted text ++ rest) ≡ behind_close d Outside rest
quoted_passed d text rest deep = string_passed d ((flat_map escaped text ++ 34 ∷ []) ++ rest) deep ∙ ap (behind_close d Outside) (quote_left text rest)

-- ---- bytes that are no brackets and no quotes

quiet : (d b : ℕ) (bs : List ℕ) → IsOpen d → IsTrue (is_quiet b) → behind_close d Outside (b ∷ bs) ≡ behind_close d Outside bs
quiet d b bs deep q =
    let o : opens b ≡ false = grind arith in
    let k : closes b ≡ false = grind arith in
    let n : (b == 34) ≡ false = grind arith in
    rw (o, k, n, deep) refl

quiet_run : (d : ℕ) (xs bs : List ℕ) → IsOpen d → Each is_quiet xs → behind_close d Outside (xs ++ bs) ≡ behind_close d Outside bs
quiet_run d [] bs deep each = refl
quiet_run d (x ∷ xs) bs deep each = quiet d x (xs ++ bs) deep each.0 ∙ quiet_run d xs bs deep each.1

numerals_quiet : (s : List ℕ) → Each is_numeric s → Each is_quiet s
numerals_quiet [] each = tt
numerals_quiet (b ∷ s) each = (numeric_quiet b each.0, numerals_quiet s each.1)

comma_passed : (d : ℕ) (later : Bool) (bs : List ℕ) → IsOpen d → behind_close d Outside (comma_if later ++ bs) ≡ behind_close d Outside bs
comma_passed d true bs deep = quiet d 44 bs deep refl
comma_passed d false bs deep = refl

-- ---- brackets

-- what is found from behind a closing bracket on
abbrev goes_on : ℕ → List ℕ → List ℕ
goes_on d rest = if d == 0 then rest else behind_close d Outside rest

still_open : (d : ℕ) (rest : List ℕ) → IsOpen d → goes_on d rest ≡ behind_close d Outside rest
still_open d rest deep = rw deep refl

list_closed : (d : ℕ) (rest : List ℕ) → behind_close (suc d) Outside (93 ∷ rest) ≡ goes_on d rest
list_closed d rest = let e : suc d - 1 ≡ d = omega arith in rw e refl

object_closed : (d : ℕ) (rest : List ℕ) → behind_close (suc d) Outside (125 ∷ rest) ≡ goes_on d rest
object_closed d rest = let e : suc d - 1 ≡ d = omega arith in rw e refl

list_opened : (d : ℕ) (rest : List ℕ) → behind_close d Outside (91 ∷ rest) ≡ behind_close (suc d) Outside rest
list_opened d rest = let one : d + 1 ≡ suc d = omega arith in let some : (d + 1 == 0) ≡ false = grind (arith, common_steps) in rw some (ap (λ m. behind_close m Outside rest) one)

object_opened : (d : ℕ) (rest : List ℕ) → behind_close d Outside (123 ∷ rest) ≡ behind_close (suc d) Outside rest
object_opened d rest = let one : d + 1 ≡ suc d = omega arith in let some : (d + 1 == 0) ≡ false = grind (arith, common_steps) in rw some (ap (λ m. behind_close m Outside rest) one)

mutual
  passed : (j : Json) (d : ℕ) (rest : List ℕ) → IsSpellable j → IsOpen d → behind_close d Outside (written j ++ rest) ≡ behind_close d Outside rest
  passed null d rest f deep = quiet_run d (codes "null") rest deep (refl, (refl, (refl, (refl, tt))))
  passed (boolean true) d rest f deep = quiet_run d (codes "true") rest deep (refl, (refl, (refl, (refl, tt))))
  passed (boolean false) d rest f deep = quiet_run d (codes "false") rest deep (refl, (refl, (refl, (refl, (refl, tt)))))
  passed (number s) d rest f deep = quiet_run d s rest deep (numerals_quiet s (IsNumber-numeric s f))
  passed (string s) d rest f deep = quoted_passed d s rest deep
  passed (array js) d rest f deep = list_opened d (elements_text false js ++ rest) ∙ items_passed js false d rest f ∙ still_open d rest deep
  passed (object ms) d rest f deep = object_opened d (members_text false ms ++ rest) ∙ members_passed ms false d rest f ∙ still_open d rest deep

  pub items_passed : (js : Elements) (later : Bool) (d : ℕ) (rest : List ℕ) → AreSpellableElements js → behind_close (suc d) Outside (elements_text later js ++ rest) ≡ goes_on d rest
  items_passed no_elements later d rest f = list_closed d rest
  items_passed (element j js) later d rest f =
      let deep : IsOpen (suc d) = is_open (suc d) (omega arith) in
      let more = elements_text true js ++ rest in
      ap (behind_close (suc d) Outside) (element_parts later j js rest) ∙ comma_passed (suc d) later (written j ++ more) deep ∙ passed j (suc d) more f.0 deep ∙ items_passed js true d rest f.1

  pub members_passed : (ms : Members) (later : Bool) (d : ℕ) (rest : List ℕ) → AreSpellableMembers ms → behind_close (suc d) Outside (members_text later ms ++ rest) ≡ goes_on d rest
  members_passed no_members later d rest f = object_closed d rest
  members_passed (member k j ms) later d rest f =
      let deep : IsOpen (suc d) = is_open (suc d) (omega arith) in
      let more = members_text true ms ++ rest in
      ap (behind_close (suc d) Outside) (member_parts later k j ms rest) ∙ comma_passed (suc d) later (quoted k ++ 58 ∷ (written j ++ more)) deep ∙ quoted_passed (suc d) k (58 ∷ (written j ++ more)) deep
      ∙ quiet (suc d) 58 (written j ++ more) deep refl ∙ passed j (suc d) more f.1 deep ∙ members_passed ms true d rest f.2
