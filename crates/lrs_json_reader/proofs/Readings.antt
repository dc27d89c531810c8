-- What the reader says of one kind of value, said of all.
use Rattle.std.proofs.Common.{◌≡◌, ◌≢◌, ◌<◌, ℕ, List, ◌∷◌, ◌++◌, length, Result, Ok, Err, IsErrAnd, refl, sym, ap, ◌∙◌, subst, arith, length-append}
use Rattle.lrs_decimal.specs.Numbers.{Ends, IsNumber}
use Rattle.lrs_decimal.proofs.NumberLemmas.{IsNumber-begins}
use Rattle.lrs_json.specs.Json as Json
use Rattle.lrs_json_reader.specs.Located.{Located, number, string, plain}
use Rattle.lrs_json_reader.specs.Grammar.{Quoted, Value}
use Rattle.lrs_json.specs.View.{view}
use Rattle.lrs_json_reader.specs.Reading.{noted, Found, Misses, FindsOrMisses, ReadsWord, ReadsString, ReadsNumber, ReadsValue, NumberAt}
use Rattle.lrs_json_reader.specs.declared.cursor.Stop.{Stop}
use Rattle.lrs_json_reader.specs.declared.reader.Flaws.{Flaws}
use Rattle.lrs_json_reader.specs.declared.reader.Reader.{Reader}
use Rattle.lrs_json.specs.declared.tree.Tree.{Tree}
use Rattle.lrs_json_reader.proofs.FirstBytes.{starts_at, only_string, only_number}

pub widen : {T X Z Y : Type 0} (f : X → Z) (IsX : X → List ℕ → List ℕ → Type 0) (IsZ : Z → List ℕ → List ℕ → Type 0) (shownX : X → Y) (shownZ : Z → Y) (seen : T → Y) (noteX : Flaws → X → Flaws) (noteZ : Flaws → Z → Flaws)
    (old : Reader) (r : Result T Stop) (new : Reader)
    → ((x : X) (rest : List ℕ) → IsX x old.cursor rest → IsZ (f x) old.cursor rest)
    → ((z : Z) (rest : List ℕ) → IsZ z old.cursor rest → (x : X) × (z ≡ f x) × IsX x old.cursor rest)
    → ((x : X) → shownX x ≡ shownZ (f x)) → ((x : X) → noteX old.flaws x ≡ noteZ old.flaws (f x))
    → FindsOrMisses IsX shownX seen noteX old r new → FindsOrMisses IsZ shownZ seen noteZ old r new
widen f IsX IsZ shownX shownZ seen noteX noteZ old (Ok t) new to from shown note found =
    record {
      it = f found.it;
      here = to found.it new.cursor found.here;
      sees = found.sees ∙ shown found.it;
      notes = found.notes ∙ note found.it;
      shorter = found.shorter;
      only = λ z rest is ends. let g = from z rest is in let o = found.only g.0 rest g.2 ends in (g.1 ∙ ap f o.0, o.1);
    }
widen f IsX IsZ shownX shownZ seen noteX noteZ old (Err e) new to from shown note misses = λ z rest is ends. let g = from z rest is in misses g.0 rest g.2 ends

-- what a `?` hands on
pub reads_err : {T X Y : Type 0} {Q : Stop → Type 0} (Is : X → List ℕ → List ℕ → Type 0) (shown : X → Y) (seen : T → Y) (note : Flaws → X → Flaws) (old : Reader) (r : Result T Stop) (new : Reader)
    → IsErrAnd r Q → ((y : Stop) → Q y → Misses Is old y) → FindsOrMisses Is shown seen note old r new
reads_err Is shown seen note old (Ok t) new q f = absurd q
reads_err Is shown seen note old (Err y) new q f = f y q

pub shorter : (w old new : List ℕ) → old ≡ w ++ new → 0 < length w → length new < length old
shorter w old new e some = omega (arith, length-append w new, ap length e)

-- ---- each kind

pub word_value : (j : Located) (word : List ℕ) (tree : Tree) (b : ℕ) (more : List ℕ) (old : Reader) (r : Result Tree Stop) (new : Reader) → old.cursor ≡ b ∷ more
    → ((rest : List ℕ) → old.cursor ≡ word ++ rest → Value j old.cursor rest) → ((rest : List ℕ) → Value j old.cursor rest → old.cursor ≡ word ++ rest)
    → ((x : Located) (rest : List ℕ) → Value x old.cursor rest → x ≡ j) → view tree ≡ plain j → noted old.flaws j ≡ old.flaws → ReadsWord word tree old r new → ReadsValue old r new
word_value j word tree b more old r new here to from only shown note reads =
    widen (λ _. j) _ Value (λ _. view tree) plain view (λ flaws _. flaws) noted old r new (λ _ rest e. to rest e) (λ z rest v. let e = only z rest v in (tt, e, from rest (subst (λ k. Value k old.cursor rest) e v)))
    (λ _. shown) (λ _. sym note) reads

pub string_value : (more : List ℕ) (old : Reader) (r : Result Tree Stop) (new : Reader) → old.cursor ≡ 34 ∷ more → ReadsString old r new → ReadsValue old r new
string_value more old r new here reads =
    widen string Quoted Value Json.string plain view (λ flaws _. flaws) noted old r new (λ s rest q. q)
    (λ z rest v. let o = only_string z (starts_at z old.cursor more rest 34 here v) in (o.0, o.1, subst (λ k. Value k old.cursor rest) o.1 v))
    (λ s. refl) (λ s. refl) reads

pub number_value : (b : ℕ) (more : List ℕ) (old : Reader) (r : Result Tree Stop) (new : Reader) → old.cursor ≡ b ∷ more → b ≢ 110 → b ≢ 116 → b ≢ 102 → b ≢ 34 → b ≢ 91 → b ≢ 123 → ReadsNumber old r new → ReadsValue old r new
number_value b more old r new here n t f q l o reads =
    widen (λ k. number k.0 k.1) NumberAt Value (λ k. Json.number k.1) plain view (λ flaws k. noted flaws (number k.0 k.1)) noted old r new (λ k rest v. v)
    (λ z rest v. let w = only_number z b (starts_at z old.cursor more rest b here v) n t f q l o in (w.0, w.1, subst (λ k. Value k old.cursor rest) w.1 v))
    (λ k. refl) (λ k. refl) reads

-- ---- what was read

pair_same : (x : ℕ × List ℕ) (left : ℕ) (t : List ℕ) → x.0 ≡ left → t ≡ x.1 → x ≡ (left, t)
pair_same x left t a b = ap (λ z. (z, x.1)) a ∙ ap (λ z. (left, z)) (sym b)

pub number_done : (left : ℕ) (t mid : List ℕ) (tree : Tree) (old new : Reader) → view tree ≡ Json.number t → left ≡ length old.cursor → new.cursor ≡ mid → (old.cursor ≡ t ++ mid) × IsNumber t
    → ((s rest : List ℕ) → old.cursor ≡ s ++ rest → IsNumber s → Ends rest → (t ≡ s) × (mid ≡ rest)) → new.flaws ≡ noted old.flaws (number left t)
    → Found NumberAt (λ k. Json.number k.1) view (λ flaws k. noted flaws (number k.0 k.1)) old tree new
number_done left t mid tree old new sees at here found all flaws =
    let whole : old.cursor ≡ t ++ new.cursor = found.0 ∙ ap (λ z. t ++ z) (sym here) in
    record {
      it = (left, t);
      here = (whole, found.1, at);
      sees = sees;
      notes = flaws;
      shorter = let b = IsNumber-begins t found.1 in shorter t old.cursor new.cursor whole (rw b.2 (omega arith));
      only = λ x rest v ends. let q = all x.1 rest v.0 v.1 ends in (pair_same x left t (v.2 ∙ sym at) q.0, here ∙ q.1);
    }

pub string_done : (t : List ℕ) (tree : Tree) (old new : Reader) → view tree ≡ Json.string t → Quoted t old.cursor new.cursor → length new.cursor < length old.cursor
    → ((s rest : List ℕ) → Quoted s old.cursor rest → (t ≡ s) × (new.cursor ≡ rest)) → new.flaws ≡ old.flaws
    → Found Quoted Json.string view (λ flaws _. flaws) old tree new
string_done t tree old new sees found len all flaws =
    record { it = t; here = found; sees = sees; notes = flaws; shorter = len; only = λ s rest q ends. let a = all s rest q in (sym a.0, a.1) }
