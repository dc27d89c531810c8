-- The values of fields, as they are read from texts, spellings and trees.
use Rattle.std.proofs.Common.{◌≡◌, ℕ, ◌<◌, ◌^◌, List, [], ◌++◌, map, Result, Ok, Err, IfOk, Option, Some, None, IfSome, IsUtf8, append_assoc, sym, ap, ◌∙◌, subst}
use Rattle.std.specs.Fmt.{decimal}
use Rattle.std.proofs.lemmas.List.{append_cancel_left}
use Rattle.lrs_decimal.specs.Numbers.{Ends, IsNumber}
use Rattle.lrs_json.specs.Fits.{IsReadable}
use Rattle.lrs_json.specs.Json.{Json, array}
use Rattle.lrs_json.specs.View.{elements_of, view}
use Rattle.lrs_json.specs.Written.{quoted, written}
use Rattle.lrs_json.specs.declared.limits.TheConstants.{DEPTH}
use Rattle.lrs_json.specs.declared.tree.Tree.{Tree}
use Rattle.lrs_json.proofs.Back.{same_tree}
use Rattle.lrs_json_reader.specs.Steps.{Finds}
use Rattle.lrs_json_reader.specs.declared.cursor.Stop.{Stop}
use Rattle.lrs_json_reader.specs.declared.cursor.Stop.TheVariants.{Memory}
use Rattle.lrs_fields.specs.Reading.{IsKeptValue, MayFollowOptional, Reads, ReadsField, ReadsOptional, ReadsSpelling, optional_text}
use Rattle.lrs_fields.specs.Values.{AreLawfulTrees, Value, text_value, tree_value, trees_value, value_json}
use Rattle.lrs_fields.proofs.Decimals.{Fits-decimal}
use Rattle.lrs_fields.proofs.Sequences.{mapped}

-- ---- texts and their spellings

pub text_read : (old new : List ℕ) (r : Result (List ℕ) Stop) → IfOk r (λ t. IsUtf8 t × (old ≡ quoted t ++ new))
    → ((t rest : List ℕ) → IsUtf8 t → old ≡ quoted t ++ rest → Finds r (λ u. (u ≡ t) × (new ≡ rest))) → Reads quoted IsUtf8 Ends old r new
text_read old new r found all = record { found = found; all = λ t rest is f whole. all t rest is whole }

pub kept_text : (old new : List ℕ) (r : Result (List ℕ) Stop) → Reads quoted IsUtf8 Ends old r new → Reads (λ t. written (value_json (text_value t))) (IsKeptValue text_value) Ends old r new
kept_text old new (Ok t) reads =
    record { found = ((reads.found.0, tt), reads.found.1); all = λ a rest is f whole. reads.all a rest is.0 f whole }
kept_text old new (Err e) reads = record { found = tt; all = λ a rest is f whole. reads.all a rest is.0 f whole }

-- a text that is the spelling of something else
abbrev pub spelled_text : {A : Type 0} → List ℕ → (A → List ℕ) → A → List ℕ
spelled_text front spelling a = front ++ quoted (spelling a)

pub spelled : {A : Type 0} (front : List ℕ) (spelling : A → List ℕ) (P Q : A → Type 0) (old new text given : List ℕ) (r : Result A Stop) → ((a : A) → P a → IsUtf8 (spelling a) → Q a)
    → ((a : A) → Q a → P a × IsUtf8 (spelling a)) → given ≡ text → ReadsField front text_value old (Ok text) new → ReadsSpelling spelling P given r → Reads (spelled_text front spelling) Q Ends old r new
spelled front spelling P Q old new text given (Ok a) to from lent reads own =
    let same : text ≡ spelling a = sym lent ∙ own.found.1 in
    record {
      found = (to a own.found.0 (subst IsUtf8 same reads.found.0.0), reads.found.1 ∙ ap (λ t. (front ++ quoted t) ++ new) same);
      all = λ b rest is f whole.
          let may = from b is in
          let told = reads.all (spelling b) rest (may.1, tt) f whole in
          (own.all b may.0 (lent ∙ told.0), told.1);
    }
spelled front spelling P Q old new text given (Err e) to from lent reads own =
    record {
      found = tt;
      all = λ b rest is f whole.
          let may = from b is in
          let told = reads.all (spelling b) rest (may.1, tt) f whole in
          own.all b may.0 (lent ∙ told.0);
    }

pub unspelled : {A : Type 0} (front : List ℕ) (spelling : A → List ℕ) (P Q : A → Type 0) (old new own : List ℕ) (e : Stop) → ((a : A) → Q a → P a × IsUtf8 (spelling a))
    → ReadsField front text_value old (Err e) new → Reads (spelled_text front spelling) Q Ends old (Err e) own
unspelled front spelling P Q old new own e from reads =
    record { found = tt; all = λ b rest is f whole. reads.all (spelling b) rest ((from b is).1, tt) f whole }

-- ---- numbers

pub IsNumber-decimal : (n : ℕ) → n < 10 ^ 15 → IsNumber (decimal n)
IsNumber-decimal n small = (Fits-decimal n small).0

pub numbered : {A : Type 0} (spelling : A → List ℕ) (P : A → Type 0) (old new text given : List ℕ) (r : Result A Stop) → ((a : A) → P a → IsNumber (spelling a)) → given ≡ text → old ≡ text ++ new
    → ((s rest : List ℕ) → old ≡ s ++ rest → IsNumber s → Ends rest → (text ≡ s) × (new ≡ rest)) → ReadsSpelling spelling P given r → Reads spelling P Ends old r new
numbered spelling P old new text given (Ok a) number lent found all own =
    record {
      found = (own.found.0, found ∙ ap (λ t. t ++ new) (sym lent ∙ own.found.1));
      all = λ b rest is f whole. let told = all (spelling b) rest whole (number b is) f in (own.all b is (lent ∙ told.0), told.1);
    }
numbered spelling P old new text given (Err e) number lent found all own =
    record { found = tt; all = λ b rest is f whole. let told = all (spelling b) rest whole (number b is) f in own.all b is (lent ∙ told.0) }

pub no_number : {A : Type 0} (spelling : A → List ℕ) (P : A → Type 0) (old new : List ℕ) (e : Stop) → ((a : A) → P a → IsNumber (spelling a))
    → ((s rest : List ℕ) → old ≡ s ++ rest → IsNumber s → Ends rest → e ≡ Memory) → Reads spelling P Ends old (Err e) new
no_number spelling P old new e number all = record { found = tt; all = λ b rest is f whole. all (spelling b) rest whole (number b is) f }

-- ---- trees

pub tree_read : (old new : List ℕ) (r : Result Tree Stop) → IfOk r (λ t. IsReadable DEPTH (view t) × (old ≡ written (view t) ++ new))
    → ((j : Json) (rest : List ℕ) → IsReadable DEPTH j → old ≡ written j ++ rest → Ends rest → Finds r (λ t. (view t ≡ j) × (new ≡ rest)))
    → Reads (λ t. written (value_json (tree_value t))) (IsKeptValue tree_value) Ends old r new
tree_read old new (Ok t) found all =
    record {
      found = ((tt, found.0), found.1);
      all = λ u rest is f whole. let told = all (view u) rest is.1 whole f in (same_tree t u told.0, told.1);
    }
tree_read old new (Err e) found all = record { found = tt; all = λ u rest is f whole. all (view u) rest is.1 whole f }

pub trees_read : (old new : List ℕ) (r : Result (List Tree) Stop) → IfOk r (λ ts. AreLawfulTrees ts × (old ≡ written (array (elements_of (map view ts))) ++ new))
    → ((ts : List Tree) (rest : List ℕ) → AreLawfulTrees ts → old ≡ written (array (elements_of (map view ts))) ++ rest → Finds r (λ us. (us ≡ ts) × (new ≡ rest)))
    → Reads (λ ts. written (value_json (trees_value ts))) (IsKeptValue trees_value) Ends old r new
trees_read old new (Ok ts) found all =
    record { found = ((tt, found.0), found.1); all = λ us rest is f whole. all us rest is.1 whole }
trees_read old new (Err e) found all = record { found = tt; all = λ us rest is f whole. all us rest is.1 whole }

-- ---- fields that may be missing

there_all : {A : Type 0} (front : List ℕ) (value : A → Value) (old mid new : List ℕ) (r : Result A Stop) → old ≡ front ++ mid → ReadsField [] value mid r new → (o : Option A) (rest : List ℕ)
    → IfSome o (IsKeptValue value) → MayFollowOptional front rest → old ≡ optional_text front value o ++ rest → Finds (mapped Some r) (λ b. (b ≡ o) × (new ≡ rest))
there_all front value old mid new r took reads None rest is f whole = absurd (f.1 mid (sym whole ∙ took))
there_all front value old mid new (Ok b) took reads (Some a) rest is f whole =
    let told = reads.all a rest is f.0 (append_cancel_left front mid (written (value_json (value a)) ++ rest) (sym took ∙ whole ∙ append_assoc front (written (value_json (value a))) rest)) in
    (ap Some told.0, told.1)
there_all front value old mid new (Err e) took reads (Some a) rest is f whole =
    reads.all a rest is f.0 (append_cancel_left front mid (written (value_json (value a)) ++ rest) (sym took ∙ whole ∙ append_assoc front (written (value_json (value a))) rest))

pub there : {A : Type 0} (front : List ℕ) (value : A → Value) (old mid new : List ℕ) (r : Result A Stop) → old ≡ front ++ mid → ReadsField [] value mid r new → ReadsOptional front value old (mapped Some r) new
there front value old mid new (Ok a) took reads =
    record {
      found = (reads.found.0, took ∙ ap (λ m. front ++ m) reads.found.1 ∙ sym (append_assoc front (written (value_json (value a))) new));
      all = λ o rest is f whole. there_all front value old mid new (Ok a) took reads o rest is f whole;
    }
there front value old mid new (Err e) took reads =
    record { found = tt; all = λ o rest is f whole. there_all front value old mid new (Err e) took reads o rest is f whole }
