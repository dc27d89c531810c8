-- What the reader's private functions say.
use Rattle.std.specs.Prelude.{◌≡◌, ℕ, ◌<◌, length, List, [], ◌∷◌, ◌++◌, ◌-◌, Bool, true, false, Option, Some, None}
use Rattle.std.specs.Prelude.{Result, Ok, Err, MatchResult, if◌then◌else◌}
use Rattle.lrs_decimal.specs.Numbers.{Ends}
use Rattle.lrs_json.specs.Json as Json
use Rattle.lrs_json.specs.Json.{string}
use Rattle.lrs_json.specs.View.{view, member_view}
use Rattle.lrs_json_reader.specs.Located.{Located, number, plain}
use Rattle.lrs_json_reader.specs.Grammar.{Spaces, Value, Quoted, IsText}
use Rattle.lrs_json.specs.Names.{is_among}
use Rattle.lrs_json_reader.specs.Flaws.{earlier, earliest, repeated_names, out_of_range_numbers}
use Rattle.lrs_json_reader.specs.declared.cursor.Stop.{Stop}
use Rattle.lrs_json_reader.specs.declared.cursor.Stop.TheVariants.{Memory}
use Rattle.lrs_json_reader.specs.declared.reader.Flaws.{Flaws}
use Rattle.lrs_json_reader.specs.declared.reader.Reader.{Reader}
use Rattle.lrs_json_reader.specs.declared.reading.ReadRefused.{ReadRefused}
use Rattle.lrs_json_reader.specs.declared.reading.ReadRefused.TheVariants.{Repeated, NumberRange}
use Rattle.lrs_json.specs.declared.tree.Tree.{Tree}
use Rattle.lrs_json.specs.declared.tree.Member.{Member}

-- the flaws that are known, and those of a value
abbrev pub noted : Flaws → Located → Flaws
noted flaws p = record {
  repeated = earlier flaws.repeated (earliest (repeated_names p));
  out_of_range = earlier flaws.out_of_range (earliest (out_of_range_numbers p));
}

-- a member of an object, with the bytes that are left from its name on
pub record Entry : Type 0 where
  pub left : ℕ
  pub name : List ℕ
  pub value : Located

abbrev pub plain_entry : Entry → List ℕ × Json.Json
plain_entry m = (m.name, plain m.value)

abbrev pub noted_entry : Flaws → Entry → Flaws
noted_entry flaws m = noted flaws m.value

-- a name, a colon and a value
abbrev pub Pair : Entry → List ℕ → List ℕ → Type 0
Pair m bytes rest = (c d e : List ℕ) × Quoted m.name bytes c × Spaces c (58 ∷ d) × Spaces d e × Value m.value e rest
    × (m.left ≡ length bytes)

-- The reader went from old to new over what t is, and has noted the flaws in it; nothing else stands there.
pub record Found {T X Y : Type 0} (Is : X → List ℕ → List ℕ → Type 0) (shown : X → Y) (seen : T → Y)
    (note : Flaws → X → Flaws) (old : Reader) (t : T) (new : Reader) : Type 0 where
  pub it : X
  pub here : Is it old.cursor new.cursor
  pub sees : seen t ≡ shown it
  pub notes : new.flaws ≡ note old.flaws it
  pub shorter : length new.cursor < length old.cursor
  pub only : (x : X) (rest : List ℕ) → Is x old.cursor rest → Ends rest → (x ≡ it) × (new.cursor ≡ rest)

-- If something stands, only memory ran out.
abbrev pub Misses : {X : Type 0} → (X → List ℕ → List ℕ → Type 0) → Reader → Stop → Type 0
Misses {X} Is old e = (x : X) (rest : List ℕ) → Is x old.cursor rest → Ends rest → e ≡ Memory

abbrev pub FindsOrMisses : {T X Y : Type 0} → (X → List ℕ → List ℕ → Type 0) → (X → Y) → (T → Y) → (Flaws → X → Flaws)
    → Reader → Result T Stop → Reader → Type 0
FindsOrMisses Is shown seen note old r new =
    MatchResult r (λ t. Found Is shown seen note old t new) (λ e. Misses Is old e)

-- the same of a literal word, of a string and of a number
abbrev pub ReadsWord : List ℕ → Tree → Reader → Result Tree Stop → Reader → Type 0
ReadsWord word tree old r new =
    FindsOrMisses {X = Unit {0}} (λ _ bytes rest. bytes ≡ word ++ rest) (λ _. view tree) view (λ flaws _. flaws)
    old r new

abbrev pub ReadsString : Reader → Result Tree Stop → Reader → Type 0
ReadsString old r new = FindsOrMisses Quoted string view (λ flaws _. flaws) old r new

abbrev pub NumberAt : ℕ × List ℕ → List ℕ → List ℕ → Type 0
NumberAt n bytes rest = Value (number n.0 n.1) bytes rest

abbrev pub ReadsNumber : Reader → Result Tree Stop → Reader → Type 0
ReadsNumber old r new =
    FindsOrMisses NumberAt (λ n. Json.number n.1) view (λ flaws n. noted flaws (number n.0 n.1)) old r new

abbrev pub ReadsValue : Reader → Result Tree Stop → Reader → Type 0
ReadsValue old r new = FindsOrMisses Value plain view noted old r new

abbrev pub ReadsMember : Reader → Result Member Stop → Reader → Type 0
ReadsMember old r new = FindsOrMisses Pair plain_entry member_view noted_entry old r new

abbrev pub has_items : {X : Type 0} → List X → Bool
has_items [] = false
has_items (x ∷ xs) = true

-- the repeated names among these, each by its offset, after others
abbrev pub repeated_among : List (List ℕ) → List (List ℕ) → List ℕ → List ℕ
repeated_among names [] lefts = []
repeated_among names (k ∷ ks) [] = []
repeated_among names (k ∷ ks) (left ∷ lefts) =
    (if is_among k names then left ∷ [] else []) ++ repeated_among (k ∷ names) ks lefts

abbrev pub no_flaws : Flaws
no_flaws = record { repeated = None; out_of_range = None }

-- The bytes are a text of the tree, and of no other, with these flaws.
pub record IsRead (bytes : List ℕ) (tree : Tree) (flaws : Flaws) : Type 0 where
  pub located : Located
  pub spelled : IsText located bytes
  pub sees : view tree ≡ plain located
  pub notes : flaws ≡ record {
    repeated = earliest (repeated_names located);
    out_of_range = earliest (out_of_range_numbers located);
  }
  pub only : (p : Located) → IsText p bytes → p ≡ located

abbrev pub ReadsText : List ℕ → Result (Tree × Flaws) Stop → Type 0
ReadsText bytes r = MatchResult r (λ t. IsRead bytes t.0 t.1) (λ e. (p : Located) → IsText p bytes → e ≡ Memory)

-- the answer if these flaws were noted
abbrev pub Judged : Tree → Option ℕ → Option ℕ → ℕ → Result Tree ReadRefused → Type 0
Judged tree (Some left) out length r = r ≡ Err (Repeated (length - left))
Judged tree None (Some left) length r = r ≡ Err (NumberRange (length - left))
Judged tree None None length r = r ≡ Ok tree

abbrev pub Judges : Tree → Flaws → ℕ → Result Tree ReadRefused → Type 0
Judges tree flaws length r = Judged tree flaws.repeated flaws.out_of_range length r
