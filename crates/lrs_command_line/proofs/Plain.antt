-- A plain line and the parts that it is of.
use Rattle.std.proofs.Common.{◌≡◌, ◌&&◌, ◌||◌, ◌∙◌, not, ℕ, Bool, true, false, cond, List, [], ◌∷◌, Some, refl, sym, ap, subst}
use Rattle.std.specs.Prelude.{slice_get}
use Rattle.std.specs.Str.{bytes_eq}
use Rattle.std.proofs.lemmas.Slice.Eq.{bytes_eq-Decides}
use Rattle.std.proofs.lemmas.Bool.{and_parts, not-true}
use Rattle.lrs_json.specs.Names.{is_among}
use Rattle.lrs_command_line.specs.CommandLine.{Part, word, option, line_of, words_of, value_of, is_no_option, ArePlain}
use Rattle.lrs_command_line.specs.Shapes.{is_option, is_plain, alone, value_behind}

-- each of these is spelled as the name of an option
abbrev pub AreOptions : List (List ℕ) → Type 0
AreOptions options = (name : List ℕ) → is_among name options ≡ true → is_no_option name ≡ false

pub same : (a b : List ℕ) → bytes_eq a b ≡ true → a ≡ b
same a b e = (bytes_eq-Decides a b).0 e

other : (a b : List ℕ) (r : Bool) → is_no_option a ≡ true → is_no_option b ≡ false → bytes_eq a b ≡ r → r ≡ false
other a b true x y e = let swapped : true ≡ false = sym x ∙ ap is_no_option (same a b e) ∙ y in cc
other a b false x y e = refl

-- a word that stands alone is none of the options
pub differs : (a b : List ℕ) → is_no_option a ≡ true → is_no_option b ≡ false → bytes_eq a b ≡ false
differs a b x y = let r : bytes_eq a b ≡ bytes_eq a b = refl in rw (other a b (bytes_eq a b) x y r) refl

pub differs_back : (a b : List ℕ) → is_no_option a ≡ true → is_no_option b ≡ false → bytes_eq b a ≡ false
differs_back a b x y = by (bytes_eq b a) refl where
  by : (r : Bool) → bytes_eq b a ≡ r → r ≡ false
  by true e = let swapped : true ≡ false = sym x ∙ ap is_no_option (sym (same b a e)) ∙ y in cc
  by false e = refl

pub plain_line : (options : List (List ℕ)) (parts : List Part) → AreOptions options → ArePlain options parts → is_plain options false (line_of parts) ≡ true
plain_line options [] are plain = refl
plain_line options (word w ∷ parts) are plain = rw plain.0 (plain_line options parts are plain.1)
plain_line options (option name value ∷ parts) are plain =
    rw (are name plain.0, plain.0, differs_back value name plain.2 (are name plain.0), plain.1, plain.2, plain_line options parts are plain.3) refl

-- what a line that is plain is made of
abbrev pub IsMadeOf : List (List ℕ) → List (List ℕ) → List Part → Type 0
IsMadeOf options words parts = (words ≡ line_of parts) × ArePlain options parts

by_option : (options : List (List ℕ)) (name value : List ℕ) (words : List (List ℕ)) → is_no_option name ≡ false
    → (is_option options name (value ∷ words) && (is_no_option value && is_plain options false words)) ≡ true
    → (parts : List Part) × IsMadeOf options words parts → (parts : List Part) × IsMadeOf options (name ∷ value ∷ words) parts
by_option options name value words named e (parts, made) =
    let tests = and_parts (is_option options name (value ∷ words)) (is_no_option value && is_plain options false words) e in
    let once = and_parts (is_among name options) (not (is_among name (value ∷ words))) tests.0 in
    let good = and_parts (is_no_option value) (is_plain options false words) tests.1 in
    let alone_once : is_among name (value ∷ words) ≡ false = not-true (is_among name (value ∷ words)) once.1 in
    let behind : is_among name (value ∷ words) ≡ is_among name words = behind_value (bytes_eq name value) (is_among name words) alone_once in (
      option name value ∷ parts,
      (ap (λ ws. name ∷ value ∷ ws) made.0, (once.0, subst (λ ws. is_among name ws ≡ false) made.0 (sym behind ∙ alone_once), good.0, made.1)),
    )
  where
    behind_value : (a b : Bool) → (a || b) ≡ false → (a || b) ≡ b
    behind_value true b e = cc
    behind_value false b e = refl

-- a line that is taken for plain has parts
pub parts_of : (options words : List (List ℕ)) → is_plain options false words ≡ true → (parts : List Part) × IsMadeOf options words parts
parts_of options [] e = ([], (refl, tt))
parts_of options (w ∷ []) e = single (is_no_option w) refl e where
  single : (b : Bool) → is_no_option w ≡ b → cond b true (is_option options w [] && false) ≡ true → (parts : List Part) × IsMadeOf options (w ∷ []) parts
  single true named e = (word w ∷ [], (refl, (named, tt)))
  single false named e = let bad = and_parts (is_option options w []) false e in cc
parts_of options (w ∷ value ∷ words) e = by_first (is_no_option w) refl e (λ k. parts_of options (value ∷ words) k) (λ k. parts_of options words k) where
  after : (parts : List Part) × IsMadeOf options (value ∷ words) parts → is_no_option w ≡ true → (parts : List Part) × IsMadeOf options (w ∷ value ∷ words) parts
  after (parts, made) named = (word w ∷ parts, (ap (λ ws. w ∷ ws) made.0, (named, made.1)))

  by_first : (b : Bool) → is_no_option w ≡ b
      → cond b (is_plain options false (value ∷ words)) (is_option options w (value ∷ words) && (is_no_option value && is_plain options false words)) ≡ true
      → (is_plain options false (value ∷ words) ≡ true → (parts : List Part) × IsMadeOf options (value ∷ words) parts)
      → (is_plain options false words ≡ true → (parts : List Part) × IsMadeOf options words parts)
      → (parts : List Part) × IsMadeOf options (w ∷ value ∷ words) parts
  by_first true named e alone behind = after (alone e) named
  by_first false named e alone behind =
      let good = and_parts (is_no_option value) (is_plain options false words) (and_parts (is_option options w (value ∷ words)) (is_no_option value && is_plain options false words) e).1 in
      by_option options w value words named e (behind good.1)

pub alone_of : (options : List (List ℕ)) (parts : List Part) → AreOptions options → ArePlain options parts → alone false (line_of parts) ≡ words_of parts
alone_of options [] are plain = refl
alone_of options (word w ∷ parts) are plain = rw plain.0 (ap (λ ws. w ∷ ws) (alone_of options parts are plain.1))
alone_of options (option name value ∷ parts) are plain = rw (are name plain.0) (alone_of options parts are plain.3)

pub value_found : (options : List (List ℕ)) (name : List ℕ) (parts : List Part) → AreOptions options → is_no_option name ≡ false → ArePlain options parts
    → value_behind name (line_of parts) ≡ value_of name parts
value_found options name [] are dash plain = refl
value_found options name (word w ∷ parts) are dash plain = rw (differs w name plain.0 dash) (value_found options name parts are dash plain.1)
value_found options name (option o value ∷ parts) are dash plain = at_option (bytes_eq o name) (value_found options name parts are dash plain.3) where
  at_option : (b : Bool) → value_behind name (line_of parts) ≡ value_of name parts
      → cond b (Some value) (cond (bytes_eq value name) (slice_get (line_of parts) 0) (value_behind name (line_of parts))) ≡ cond b (Some value) (value_of name parts)
  at_option true rest = refl
  at_option false rest = rw (differs value name plain.2 dash) rest
