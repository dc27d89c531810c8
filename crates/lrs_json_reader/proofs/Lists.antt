-- The steps of the loop over the elements of an array.
use Rattle.std.proofs.Common.{◌≡◌, ℕ, ◌<◌, List, [], ◌∷◌, ◌++◌, Bool, true, false, length, drop, map, Ok, Err, refl, sym, ap, ◌∙◌, subst, true≢false, arith}
use Rattle.std.proofs.lemmas.List.{map-append}
use Rattle.lrs_json.specs.Json as Json
use Rattle.lrs_json.specs.View.{view, elements_of}
use Rattle.lrs_json_reader.specs.Located.{Located, array, plain, plain_elements, Elements, no_elements, element}
use Rattle.lrs_json_reader.specs.Grammar.{Value, Listed}
use Rattle.lrs_json_reader.specs.Steps.{StepsToNext}
use Rattle.lrs_json_reader.specs.Reading.{noted, Misses, ReadsValue, has_items}
use Rattle.lrs_json_reader.specs.declared.cursor.Stop.{Stop}
use Rattle.lrs_json_reader.specs.declared.cursor.Stop.TheVariants.{Memory}
use Rattle.lrs_json_reader.specs.declared.reader.Reader.{Reader}
use Rattle.lrs_json.specs.declared.tree.Tree.{Tree, List as Many}
use Rattle.lrs_json_reader.proofs.StepLemmas.{Spaces-length}
use Rattle.lrs_json_reader.proofs.FirstBytes.{starts_at, only_array}
use Rattle.lrs_json_reader.proofs.Ends.{Listed-Ends, Value-Opens}
use Rattle.lrs_json_reader.proofs.Noting.{before_elements, elements-push, noted_all, noted_all-push, noted_all-array}
use Rattle.lrs_json.proofs.Views.{view-List}

-- From start on, these elements were read, and here is what follows them.
pub record ListSoFar (ts : List Tree) (start here : Reader) : Type 0 where
  pub ps : List Located
  pub sees : map view ts ≡ map plain ps
  pub notes : here.flaws ≡ noted_all start.flaws ps
  -- what completes the list completes it from its start
  pub sound : (more : Elements) (rest : List ℕ) → Listed (has_items ts) more here.cursor rest → Value (array (before_elements ps more)) start.cursor rest
  -- each list from the start goes on so
  pub complete : (all : Elements) (rest : List ℕ) → Value (array all) start.cursor rest → (more : Elements) × (all ≡ before_elements ps more) × Listed (has_items ts) more here.cursor rest
  pub shorter : length here.cursor < length start.cursor

pub has_items-push : {X : Type 0} (xs : List X) (x : X) → has_items (xs ++ x ∷ []) ≡ true
has_items-push [] x = refl
has_items-push (y ∷ xs) x = refl

pub list_start : (start here : Reader) (rest : List ℕ) → start.cursor ≡ 91 ∷ rest → here.cursor ≡ drop 1 start.cursor → here.flaws ≡ start.flaws → ListSoFar [] start here
list_start start here rest e d notes =
    let same : here.cursor ≡ rest = d ∙ ap (drop 1) e in
    let whole : start.cursor ≡ 91 ∷ here.cursor = e ∙ ap (λ z. 91 ∷ z) (sym same) in
    record {
      ps = [];
      sees = refl;
      notes = notes;
      sound = λ more end l. (here.cursor, whole, l);
      complete = λ all end v. let a : v.0 ≡ here.cursor = cc (v.1, whole) in (all, refl, subst (λ z. Listed false all z end) a v.2);
      shorter = omega (arith, ap length whole);
    }

-- what a list's rest is, where the reader finds that an item comes
item_comes : (later : Bool) (more : Elements) (here s rest : List ℕ) → StepsToNext later 93 here (Ok true) s → Listed later more here rest
    → (p : Located) × (left : Elements) × (c : List ℕ) × (more ≡ element p left) × Value p s c × Listed true left c rest
item_comes later no_elements here s rest go l = absurd (true≢false (go.all_end rest l).0)
item_comes later (element p left) here s rest go l =
    let at = go.all_more l.0 l.1 l.3 l.4 (Value-Opens p l.1 l.2 l.5) in
    (p, left, l.2, refl, subst (λ z. Value p z l.2) (sym at.1) l.5, l.6)

-- and where it finds the end
end_comes : (later : Bool) (more : Elements) (here s rest : List ℕ) → StepsToNext later 93 here (Ok false) s → Listed later more here rest → (more ≡ no_elements) × (s ≡ rest)
end_comes later no_elements here s rest go l = (refl, (go.all_end rest l).1)
end_comes later (element p left) here s rest go l = absurd (true≢false (sym (go.all_more l.0 l.1 l.3 l.4 (Value-Opens p l.1 l.2 l.5)).0))

-- and where it finds neither
none_comes : (later : Bool) (more : Elements) (here s rest : List ℕ) (y : Stop) → StepsToNext later 93 here (Err y) s → Listed later more here rest → y ≡ Memory
none_comes later no_elements here s rest y go l = go.all_end rest l
none_comes later (element p left) here s rest y go l = go.all_more l.0 l.1 l.3 l.4 (Value-Opens p l.1 l.2 l.5)

pub list_next : (ts new : List Tree) (t : Tree) (start here mid next : Reader) → new ≡ ts ++ t ∷ [] → mid.flaws ≡ here.flaws → ListSoFar ts start here → StepsToNext (has_items ts) 93 here.cursor (Ok true) mid.cursor → ReadsValue mid (Ok t) next
    → ListSoFar new start next
list_next ts new t start here mid next is kept so go found =
    let x = found.it in
    let later : has_items new ≡ true = ap has_items is ∙ has_items-push ts t in
    record {
      ps = so.ps ++ x ∷ [];
      sees = ap (map view) is ∙ map-append view ts (t ∷ []) ∙ ap (λ z. z ++ view t ∷ []) so.sees ∙ ap (λ z. map plain so.ps ++ z ∷ []) found.sees ∙ sym (map-append plain so.ps (x ∷ []));
      notes = found.notes ∙ ap (λ z. noted z x) (kept ∙ so.notes) ∙ sym (noted_all-push start.flaws so.ps x);
      sound = λ more rest l.
          let comes = go.goes refl in
          let tail : Listed true more next.cursor rest = subst (λ z. Listed z more next.cursor rest) later l in
          subst (λ z. Value (array z) start.cursor rest) (sym (elements-push so.ps x more)) (so.sound (element x more) rest (comes.0, mid.cursor, next.cursor, comes.1, comes.2, found.here, tail));
      complete = λ all rest v.
          let m = so.complete all rest v in
          let i = item_comes (has_items ts) m.0 here.cursor mid.cursor rest go m.2 in
          let r = found.only i.0 i.2 i.4 (Listed-Ends i.1 i.2 rest i.5) in
          let tail : Listed true i.1 next.cursor rest = subst (λ z. Listed true i.1 z rest) (sym r.1) i.5 in
          (i.1, m.1 ∙ ap (before_elements so.ps) (i.3 ∙ ap (λ z. element z i.1) r.0) ∙ sym (elements-push so.ps x i.1), subst (λ z. Listed z i.1 next.cursor rest) (sym later) tail);
      shorter = omega (arith, found.shorter, go.no_longer, so.shorter);
    }

-- a list that stands at the start, whatever stands there
list_at : (x : Located) (start rest0 rest : List ℕ) → start ≡ 91 ∷ rest0 → Value x start rest → (all : Elements) × (x ≡ array all) × Value (array all) start rest
list_at x start rest0 rest e v =
    let o = only_array x (starts_at x start rest0 rest 91 e v) in
    (o.0, o.1, subst (λ z. Value z start rest) o.1 v)

pub list_goes_fault : (ts : List Tree) (start here : Reader) (s rest0 : List ℕ) (y : Stop) → start.cursor ≡ 91 ∷ rest0 → ListSoFar ts start here → StepsToNext (has_items ts) 93 here.cursor (Err y) s → Misses Value start y
list_goes_fault ts start here s rest0 y e so go = λ x rest v ends.
    let l = list_at x start.cursor rest0 rest e v in
    let m = so.complete l.0 rest l.2 in
    none_comes (has_items ts) m.0 here.cursor s rest y go m.2

pub list_item_fault : (ts : List Tree) (start here mid : Reader) (rest0 : List ℕ) (y : Stop) → start.cursor ≡ 91 ∷ rest0 → ListSoFar ts start here → StepsToNext (has_items ts) 93 here.cursor (Ok true) mid.cursor → Misses Value mid y
    → Misses Value start y
list_item_fault ts start here mid rest0 y e so go misses = λ x rest v ends.
    let l = list_at x start.cursor rest0 rest e v in
    let m = so.complete l.0 rest l.2 in
    let i = item_comes (has_items ts) m.0 here.cursor mid.cursor rest go m.2 in
    misses i.0 i.2 i.4 (Listed-Ends i.1 i.2 rest i.5)

elements_plain : (ps : List Located) → plain_elements (before_elements ps no_elements) ≡ elements_of (map plain ps)
elements_plain [] = refl
elements_plain (p ∷ ps) = ap (Json.element (plain p)) (elements_plain ps)

pub list_done : (ts : List Tree) (start here new : Reader) (rest0 : List ℕ) → start.cursor ≡ 91 ∷ rest0 → new.flaws ≡ here.flaws → ListSoFar ts start here → StepsToNext (has_items ts) 93 here.cursor (Ok false) new.cursor
    → ReadsValue start (Ok (Many ts)) new
list_done ts start here new rest0 e kept so go =
    let is = before_elements so.ps no_elements in
    record {
      it = array is;
      here = so.sound no_elements new.cursor (go.ends refl);
      sees = view-List ts ∙ ap (λ z. Json.array (elements_of z)) so.sees ∙ ap Json.array (sym (elements_plain so.ps));
      notes = kept ∙ so.notes ∙ noted_all-array start.flaws so.ps;
      shorter = omega (arith, Spaces-length here.cursor (93 ∷ new.cursor) (go.ends refl), so.shorter);
      only = λ x rest v ends.
          let l = list_at x start.cursor rest0 rest e v in
          let m = so.complete l.0 rest l.2 in
          let d = end_comes (has_items ts) m.0 here.cursor new.cursor rest go m.2 in
          (l.1 ∙ ap array (m.1 ∙ ap (before_elements so.ps) d.0), d.1);
    }
