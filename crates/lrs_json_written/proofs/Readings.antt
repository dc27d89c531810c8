-- The parts of a written form, one after the other.
use Rattle.std.proofs.Common.{◌≡◌, ◌≢◌, ◌<◌, ℕ, ◌-◌, length, List, [], ◌∷◌, ◌++◌, map, Bool, true, false, not, IsErrAnd, Result, Ok, Err, IfOk, MatchBool, codes, refl, sym, ap, ◌∙◌, subst, true≢false, arith, append_assoc, length-append}
use Rattle.std.proofs.lemmas.List.{map-append}
use Rattle.std.specs.List.{AllByRecursion}
use Rattle.lrs_json.specs.Fits.{IsReadable}
use Rattle.lrs_json.specs.Json.{Json, null, boolean, number, string, array, object, Elements, no_elements, element, Members, no_members, member}
use Rattle.lrs_json.specs.Spellable.{AreSpellableElements, AreSpellableMembers}
use Rattle.lrs_json.specs.View.{elements_of, view}
use Rattle.lrs_json.specs.Written.{comma_if, elements_text, written}
use Rattle.lrs_json.specs.declared.tree.Tree.{Tree, Null, Bool as Boolean, Number, Words, List as Many}
use Rattle.lrs_json.proofs.Back.{same_trees}
use Rattle.lrs_json.proofs.Views.{view-Bool, view-List, view-Null, view-Number, view-Words}
use Rattle.lrs_json_reader.specs.Grammar.{Value}
use Rattle.lrs_json_reader.specs.Located as Located
use Rattle.lrs_json_reader.specs.Steps.{Finds, Opens, StepsOverCommaOr, comma_or}
use Rattle.lrs_json_reader.specs.declared.cursor.Stop.{Stop}
use Rattle.lrs_json_reader.specs.declared.cursor.Stop.TheVariants.{Memory}
use Rattle.lrs_json_reader.proofs.Alike.{alike, alike_elements, element_parts, first_same}
use Rattle.lrs_json_reader.proofs.Ends.{Value-Opens}
use Rattle.lrs_json_reader.proofs.FirstBytes.{begins_array, begins_object, begins_string, first_is, kind, only_false, only_null, only_number, only_true}
use Rattle.lrs_json_reader.proofs.Rereads.{elements_Ends, tail_same}
use Rattle.lrs_json_reader.proofs.Values.{Starts, starts}
use Rattle.lrs_json_reader.proofs.WrittenLemmas.{Fits-IsSpellable, locate, written-Value}
use Rattle.lrs_json_written.specs.Fitting.{AreReadable, HaveReadable}
use Rattle.lrs_json_written.specs.Reading.{ReadsTree, ReadsLeaf, ReadsWord, ReadsText, ReadsNumber, TextAt, NumeralInRangeAt, ReadsNextItem, ReadsItems}
use Rattle.lrs_json_written.proofs.Fitted.{elements_apart, elements_fit}

-- ---- the kind of a value, by its first byte

array_only : (limit : ℕ) (old more : List ℕ) → old ≡ 91 ∷ more → (j : Json) (rest : List ℕ) → IsReadable limit j → old ≡ written j ++ rest → (js : Elements) × (j ≡ array js) × IsReadable limit (array js) × (old ≡ written (array js) ++ rest)
array_only limit old more is j rest ok e =
    let o = begins_array j rest (first_is j old more rest 91 (Fits-IsSpellable j ok.0) is e) in
    (o.0, o.1, subst (IsReadable limit) o.1 ok, e ∙ ap (λ (i : Json). written i ++ rest) o.1)

pub object_only : (limit : ℕ) (old more : List ℕ) → old ≡ 123 ∷ more → (j : Json) (rest : List ℕ) → IsReadable limit j → old ≡ written j ++ rest → (ms : Members) × (j ≡ object ms) × IsReadable limit (object ms) × (old ≡ written (object ms) ++ rest)
object_only limit old more is j rest ok e =
    let o = begins_object j rest (first_is j old more rest 123 (Fits-IsSpellable j ok.0) is e) in
    (o.0, o.1, subst (IsReadable limit) o.1 ok, e ∙ ap (λ (i : Json). written i ++ rest) o.1)

-- ---- values that hold no others

pub leaf_reads : {X : Type 0} (Is : X → List ℕ → List ℕ → Type 0) (shown : X → Tree) (json : X → Json) (limit : ℕ) (old new : List ℕ) (r : Result Tree Stop)
    → ((x : X) (rest : List ℕ) → Is x old rest → (view (shown x) ≡ json x) × IsReadable limit (json x) × (old ≡ written (json x) ++ rest))
    → ((j : Json) (rest : List ℕ) → IsReadable limit j → old ≡ written j ++ rest → (x : X) × (j ≡ json x) × Is x old rest) → ReadsLeaf Is shown old r new → ReadsTree limit old r new
leaf_reads {X} Is shown json limit old new (Ok t) is only reads =
    let x : X = reads.found.0 in
    let p = is x new reads.found.2 in
    let seen : view t ≡ json x = ap view reads.found.1 ∙ p.0 in
    record {
      found = (subst (IsReadable limit) (sym seen) p.1, p.2 ∙ ap (λ (i : Json). written i ++ new) (sym seen));
      all = λ j rest ok e ends.
          let o = only j rest ok e in
          let a = reads.all o.0 rest o.2 ends in
          (ap view a.0 ∙ (is o.0 rest o.2).0 ∙ sym o.1, a.1);
    }
leaf_reads {X} Is shown json limit old new (Err y) is only reads =
    record { found = tt; all = λ j rest ok e ends. let o = only j rest ok e in reads.all o.0 rest o.2 ends }

-- no value stands there
pub nothing_reads : (limit : ℕ) (old new : List ℕ) (y : Stop) → ((j : Json) (rest : List ℕ) → IsReadable limit j → old ≡ written j ++ rest → y ≡ Memory) → ReadsTree limit old (Err y) new
nothing_reads limit old new y none = record { found = tt; all = λ j rest ok e ends. none j rest ok e }

-- ---- each kind of them

-- the first byte of what stands there
pub begins : (limit : ℕ) (old : List ℕ) (j : Json) (rest : List ℕ) → IsReadable limit j → old ≡ written j ++ rest → (b : ℕ) × (more : List ℕ) × (old ≡ b ∷ more) × Starts (locate j rest) b
begins limit old j rest ok e = starts (locate j rest) old rest (subst (λ (t : List ℕ). Value (locate j rest) t rest) (sym e) (written-Value j rest (Fits-IsSpellable j ok.0)))

pub null_reads : (limit : ℕ) (old more new : List ℕ) (r : Result Tree Stop) → old ≡ 110 ∷ more → ReadsWord (codes "null") Null old r new → ReadsTree limit old r new
null_reads limit old more new r is =
    leaf_reads {X = Unit {0}} (λ _ bytes rest. bytes ≡ codes "null" ++ rest) (λ _. Null) (λ _. null) limit old new r (λ _ rest at. (view-Null, (tt, omega arith), at))
    (λ j rest ok e. let k = kind j rest Located.null (only_null (locate j rest) (first_is j old more rest 110 (Fits-IsSpellable j ok.0) is e)) in (tt, k, e ∙ ap (λ (i : Json). written i ++ rest) k))

pub true_reads : (limit : ℕ) (old more new : List ℕ) (r : Result Tree Stop) → old ≡ 116 ∷ more → ReadsWord (codes "true") (Boolean true) old r new → ReadsTree limit old r new
true_reads limit old more new r is =
    leaf_reads {X = Unit {0}} (λ _ bytes rest. bytes ≡ codes "true" ++ rest) (λ _. Boolean true) (λ _. boolean true) limit old new r (λ _ rest at. (view-Bool true, (tt, omega arith), at))
    (λ j rest ok e. let k = kind j rest (Located.boolean true) (only_true (locate j rest) (first_is j old more rest 116 (Fits-IsSpellable j ok.0) is e)) in (tt, k, e ∙ ap (λ (i : Json). written i ++ rest) k))

pub false_reads : (limit : ℕ) (old more new : List ℕ) (r : Result Tree Stop) → old ≡ 102 ∷ more → ReadsWord (codes "false") (Boolean false) old r new → ReadsTree limit old r new
false_reads limit old more new r is =
    leaf_reads {X = Unit {0}} (λ _ bytes rest. bytes ≡ codes "false" ++ rest) (λ _. Boolean false) (λ _. boolean false) limit old new r (λ _ rest at. (view-Bool false, (tt, omega arith), at))
    (λ j rest ok e. let k = kind j rest (Located.boolean false) (only_false (locate j rest) (first_is j old more rest 102 (Fits-IsSpellable j ok.0) is e)) in (tt, k, e ∙ ap (λ (i : Json). written i ++ rest) k))

pub text_reads : (limit : ℕ) (old more new : List ℕ) (r : Result Tree Stop) → old ≡ 34 ∷ more → ReadsText old r new → ReadsTree limit old r new
text_reads limit old more new r is =
    leaf_reads TextAt Words string limit old new r (λ s rest at. (view-Words s, (at.0, omega arith), at.1))
    (λ j rest ok e.
    let o = begins_string j rest (first_is j old more rest 34 (Fits-IsSpellable j ok.0) is e) in
    let ok' : IsReadable limit (string o.0) = subst (IsReadable limit) o.1 ok in
    (o.0, o.1, (ok'.0, e ∙ ap (λ (i : Json). written i ++ rest) o.1)))

pub number_reads : (limit b : ℕ) (old more new : List ℕ) (r : Result Tree Stop) → old ≡ b ∷ more → b ≢ 110 → b ≢ 116 → b ≢ 102 → b ≢ 34 → b ≢ 91 → b ≢ 123 → ReadsNumber old r new → ReadsTree limit old r new
number_reads limit b old more new r is n t f q l o =
    leaf_reads NumeralInRangeAt Number number limit old new r (λ s rest at. (view-Number s, ((at.0, at.1), omega arith), at.2))
    (λ j rest ok e.
    let only = only_number (locate j rest) b (first_is j old more rest b (Fits-IsSpellable j ok.0) is e) n t f q l o in
    let k : j ≡ number only.0.1 = kind j rest (Located.number only.0.0 only.0.1) only.1 in
    let ok' : IsReadable limit (number only.0.1) = subst (IsReadable limit) k ok in
    (only.0.1, k, (ok'.0.0, ok'.0.1, e ∙ ap (λ (i : Json). written i ++ rest) k)))

-- ---- what is readable can be spelled

elements_spelled : (limit : ℕ) (js : Elements) → AreReadable limit js → AreSpellableElements js
elements_spelled limit no_elements ok = tt
elements_spelled limit (element j js) ok = (Fits-IsSpellable j ok.0.0, elements_spelled limit js ok.1)

pub members_spelled : (limit : ℕ) (ms : Members) → HaveReadable limit ms → AreSpellableMembers ms
members_spelled limit no_members ok = tt
members_spelled limit (member k j ms) ok = (ok.0, Fits-IsSpellable j ok.1.0, members_spelled limit ms ok.2)

-- ---- arrays

pub goes_shorter : (close : ℕ) (old front new : List ℕ) (goes : Bool) → old ≡ front ++ comma_or close goes ∷ new → length new < length old
goes_shorter close old front new goes e = omega (arith, ap length e ∙ length-append front (comma_or close goes ∷ new))

pub next_shorter : (limit : ℕ) (read new : List Tree) (here next : List ℕ) (goes : Bool) → ReadsNextItem limit read here (Ok goes) new next → length next < length here
next_shorter limit read new here next goes item = goes_shorter 93 here (written (view item.found.0)) next goes item.found.3

-- the items that were read, each with its comma
abbrev pub heads : List Json → List ℕ
heads [] = []
heads (j ∷ js) = written j ++ 44 ∷ heads js

abbrev pub items_front : Bool → List Json → List ℕ
items_front true js = heads js
items_front false js = elements_text false (elements_of js)

head_parts : (j : Json) (more here : List ℕ) → (written j ++ 44 ∷ more) ++ here ≡ written j ++ 44 ∷ (more ++ here)
head_parts j more here = append_assoc (written j) (44 ∷ more) here

heads_pushed : (js : List Json) (j : Json) (here : List ℕ) → heads (js ++ j ∷ []) ++ here ≡ heads js ++ (written j ++ 44 ∷ here)
heads_pushed [] j here = head_parts j [] here
heads_pushed (k ∷ js) j here = head_parts k (heads (js ++ j ∷ [])) here ∙ ap (λ (z : List ℕ). written k ++ 44 ∷ z) (heads_pushed js j here) ∙ sym (head_parts k (heads js) (written j ++ 44 ∷ here))

items_closed : (js : List Json) (j : Json) (later : Bool) (here : List ℕ) → elements_text later (elements_of (js ++ j ∷ [])) ++ here ≡ comma_if later ++ (heads js ++ (written j ++ 93 ∷ here))
items_closed [] j later here = element_parts later j no_elements here
items_closed (k ∷ js) j later here =
    element_parts later k (elements_of (js ++ j ∷ [])) here
    ∙ ap (λ (z : List ℕ). comma_if later ++ (written k ++ z)) (items_closed js j true here)
    ∙ ap (λ (z : List ℕ). comma_if later ++ z) (sym (head_parts k (heads js) (written j ++ 93 ∷ here)))

items_pushed : (goes : Bool) (js : List Json) (j : Json) (here : List ℕ) → items_front goes (js ++ j ∷ []) ++ here ≡ heads js ++ (written j ++ comma_or 93 goes ∷ here)
items_pushed true js j here = heads_pushed js j here
items_pushed false js j here = items_closed js j false here

readable_pushed : (limit : ℕ) (js : List Json) (j : Json) → AreReadable limit (elements_of js) → IsReadable limit j → AreReadable limit (elements_of (js ++ j ∷ []))
readable_pushed limit [] j ok one = (one, tt)
readable_pushed limit (k ∷ js) j ok one = (ok.0, readable_pushed limit js j ok.1 one)

pub not_empty : {A : Type 0} (xs : List A) (x : A) → xs ++ x ∷ [] ≡ [] → ⊥
not_empty [] x e = cc e
not_empty (y ∷ xs) x e = cc e

-- Behind the opening bracket these were read, and here is what follows them.
pub record ItemsSoFar (limit : ℕ) (start : List ℕ) (goes : Bool) (read : List Tree) (here : List ℕ) : Type 0 where
  pub readable : AreReadable limit (elements_of (map view read))
  pub so_far : start ≡ 91 ∷ (items_front goes (map view read) ++ here)
  pub some : goes ≡ true → read ≡ [] → (rest : List ℕ) → here ≡ 93 ∷ rest → ⊥

pub items_begun : (limit : ℕ) (start mid here : List ℕ) (comes : Bool) → start ≡ (91 ∷ []) ++ mid → MatchBool comes (mid ≡ (93 ∷ []) ++ here) ((here ≡ mid) × ((rest : List ℕ) → mid ≡ (93 ∷ []) ++ rest → ⊥)) → ItemsSoFar limit start (not comes) [] here
items_begun limit start mid here true e took =
    record { readable = tt; so_far = e ∙ ap (λ (z : List ℕ). 91 ∷ z) took; some = λ so none rest h. true≢false (sym so) }
items_begun limit start mid here false e took =
    record { readable = tt; so_far = e ∙ ap (λ (z : List ℕ). 91 ∷ z) (sym took.0); some = λ so none rest h. took.1 rest (sym took.0 ∙ h) }

pub items_next : (limit : ℕ) (start : List ℕ) (read new : List Tree) (here next : List ℕ) (goes : Bool) → ItemsSoFar limit start true read here → ReadsNextItem limit read here (Ok goes) new next → ItemsSoFar limit start goes new next
items_next limit start read new here next goes so item =
    let t : Tree = item.found.0 in
    let js = map view read in
    let seen : map view new ≡ js ++ view t ∷ [] = ap (map view) item.found.1 ∙ map-append view read (t ∷ []) in
    record {
      readable = subst (λ (is : List Json). AreReadable limit (elements_of is)) (sym seen) (readable_pushed limit js (view t) so.readable item.found.2);
      so_far =
          so.so_far ∙ ap (λ (z : List ℕ). 91 ∷ (heads js ++ z)) item.found.3
          ∙ ap (λ (z : List ℕ). 91 ∷ z) (sym (items_pushed goes js (view t) next) ∙ ap (λ (is : List Json). items_front goes is ++ next) (sym seen));
      some = λ _ none rest h. absurd (not_empty read t (sym item.found.1 ∙ none));
    }

elements_go : (js : Elements) (mid rest : List ℕ) {P : Type 0} → ((goes : Bool) (more : List ℕ) → mid ≡ comma_or 93 goes ∷ more → P) → mid ≡ elements_text true js ++ rest → P
elements_go no_elements mid rest f e = f false rest e
elements_go (element j js) mid rest f e = f true ((written j ++ elements_text true js) ++ rest) e

pub item_done : (limit : ℕ) (read new : List Tree) (t : Tree) (old mid next : List ℕ) (r : Result Bool Stop) → new ≡ read ++ t ∷ [] → ReadsTree limit old (Ok t) mid → StepsOverCommaOr 93 mid r next → ReadsNextItem limit read old r new next
item_done limit read new t old mid next (Ok goes) is tree on =
    record { found = (t, is, tree.found.0, tree.found.1 ∙ ap (λ (z : List ℕ). written (view t) ++ z) on.found); all = λ j js rest ok e. tt }
item_done limit read new t old mid next (Err y) is tree on =
    record { found = tt; all = λ j js rest ok e. elements_go js mid rest (λ goes more at. on.all goes more at) (tree.all j (elements_text true js ++ rest) ok e (elements_Ends js rest)).1 }

pub item_fault : (limit : ℕ) (read : List Tree) (old new : List ℕ) (r : Result Bool Stop) (y : Stop) → IsErrAnd r (λ e. e ≡ y) → ReadsTree limit old (Err y) new → ReadsNextItem limit read old r read new
item_fault limit read old new (Ok goes) y is tree = absurd is
item_fault limit read old new (Err z) y is tree =
    record { found = tt; all = λ j js rest ok e. is ∙ tree.all j (elements_text true js ++ rest) ok e (elements_Ends js rest) }

-- what stands behind the items that were read
after_heads : (limit : ℕ) (read : List Json) (all : Elements) (here rest : List ℕ) → AreReadable limit (elements_of read) → AreReadable limit all → 44 ∷ (heads read ++ here) ≡ elements_text true all ++ rest
    → (j : Json) × (js : Elements) × IsReadable limit j × (here ≡ written j ++ (elements_text true js ++ rest))
after_heads limit read no_elements here rest ok whole e = let bad : ◌≡◌ {A = ℕ} 44 93 = first_same 44 93 (heads read ++ here) rest e in absurd (omega arith)
after_heads limit [] (element k ks) here rest ok whole e = (k, ks, whole.0, tail_same 44 here (written k ++ (elements_text true ks ++ rest)) (e ∙ element_parts true k ks rest))
after_heads limit (r ∷ read) (element k ks) here rest ok whole e =
    let inside : written r ++ 44 ∷ (heads read ++ here) ≡ written k ++ (elements_text true ks ++ rest) =
    sym (head_parts r (heads read) here) ∙ tail_same 44 ((written r ++ 44 ∷ heads read) ++ here) (written k ++ (elements_text true ks ++ rest)) (e ∙ element_parts true k ks rest) in
    let same = alike r k (44 ∷ (heads read ++ here)) (elements_text true ks ++ rest) (Fits-IsSpellable r ok.0.0) (Fits-IsSpellable k whole.0.0) refl (elements_Ends ks rest) inside in
    after_heads limit read ks here rest ok.1 whole.1 same.1

no_bracket : (limit : ℕ) (j : Json) (more rest : List ℕ) → IsReadable limit j → written j ++ rest ≡ 93 ∷ more → ⊥
no_bracket limit j more rest ok e =
    let opens : Opens 93 (93 ∷ more) = subst (Opens 93) e (Value-Opens (locate j rest) (written j ++ rest) rest (written-Value j rest (Fits-IsSpellable j ok.0))) in opens.1 refl

item_left : (limit : ℕ) (read : List Json) (all : Elements) (here rest : List ℕ) → (read ≡ [] → (end : List ℕ) → here ≡ 93 ∷ end → ⊥) → AreReadable limit (elements_of read) → AreReadable limit all → heads read ++ here ≡ elements_text false all ++ rest
    → (j : Json) × (js : Elements) × IsReadable limit j × (here ≡ written j ++ (elements_text true js ++ rest))
item_left limit [] no_elements here rest some ok whole e = absurd (some refl rest e)
item_left limit (r ∷ read) no_elements here rest some ok whole e = absurd (no_bracket limit r rest (44 ∷ (heads read ++ here)) ok.0 (sym (head_parts r (heads read) here) ∙ e))
item_left limit read (element k ks) here rest some ok whole e =
    after_heads limit read (element k ks) here rest ok whole (ap (λ (z : List ℕ). 44 ∷ z) (e ∙ element_parts false k ks rest) ∙ sym (element_parts true k ks rest))

no_views : (read : List Tree) → map view read ≡ [] → read ≡ []
no_views [] e = refl
no_views (t ∷ read) e = cc e

pub items_fault : (limit : ℕ) (start : List ℕ) (read new : List Tree) (here next end : List ℕ) (r : Result (List Tree) Stop) (y : Stop) → IsErrAnd r (λ e. e ≡ y) → ItemsSoFar limit start true read here → ReadsNextItem limit read here (Err y) new next → ReadsItems limit start r end
items_fault limit start read new here next end (Ok ts) y is so item = absurd is
items_fault limit start read new here next end (Err z) y is so item =
    record {
      found = tt;
      all = λ js rest ok e.
          let left = item_left limit (map view read) js here rest (λ none. so.some refl (no_views read none)) so.readable ok (tail_same 91 (heads (map view read) ++ here) (elements_text false js ++ rest) (sym so.so_far ∙ e)) in
          is ∙ item.all left.0 left.1 rest left.2 left.3;
    }

pub items_unopened : (limit : ℕ) (start end : List ℕ) (r : Result (List Tree) Stop) (y : Stop) → IsErrAnd r (λ e. e ≡ y) → ((rest : List ℕ) → start ≡ (91 ∷ []) ++ rest → y ≡ Memory) → ReadsItems limit start r end
items_unopened limit start end (Ok ts) y is none = absurd is
items_unopened limit start end (Err z) y is none = record { found = tt; all = λ js rest ok e. is ∙ none (elements_text false js ++ rest) e }

pub items_done : (limit : ℕ) (start here : List ℕ) (read : List Tree) → ItemsSoFar limit start false read here → ReadsItems limit start (Ok read) here
items_done limit start here read so =
    let is = elements_of (map view read) in
    record {
      found = (so.readable, so.so_far);
      all = λ js rest ok e. alike_elements is js false here rest (elements_spelled limit is so.readable) (elements_spelled limit js ok) (tail_same 91 (elements_text false is ++ here) (elements_text false js ++ rest) (sym so.so_far ∙ e));
    }

-- ---- an array as a value

pub list_deep : (limit : ℕ) (old more new : List ℕ) (y : Stop) → limit ≡ 0 → old ≡ 91 ∷ more → ReadsTree limit old (Err y) new
list_deep limit old more new y none is =
    nothing_reads limit old new y (λ j rest ok e. let a = array_only limit old more is j rest ok e in absurd (omega (arith, none, a.2.1)))

list_parts : (limit : ℕ) (js : Elements) → IsReadable limit (array js) → AreReadable (limit - 1) js
list_parts limit js ok = elements_apart (limit - 1) js ok.0 (omega (arith, ok.1))

pub list_fault : (limit : ℕ) (old more new : List ℕ) (r : Result Tree Stop) (y : Stop) → old ≡ 91 ∷ more → IsErrAnd r (λ e. e ≡ y) → ReadsItems (limit - 1) old (Err y) new → ReadsTree limit old r new
list_fault limit old more new (Ok t) y is at items = absurd at
list_fault limit old more new (Err z) y is at items =
    nothing_reads limit old new z (λ j rest ok e. let a = array_only limit old more is j rest ok e in at ∙ items.all a.0 rest (list_parts limit a.0 a.2) a.3)

pub list_done : (limit : ℕ) (old more new : List ℕ) (ts : List Tree) → old ≡ 91 ∷ more → 0 < limit → ReadsItems (limit - 1) old (Ok ts) new → ReadsTree limit old (Ok (Many ts)) new
list_done limit old more new ts is some items =
    let js = elements_of (map view ts) in
    let seen : view (Many ts) ≡ array js = view-List ts in
    let fit = elements_fit (limit - 1) js items.found.0 in
    let ok : IsReadable limit (array js) = (fit.0, omega (arith, some, fit.1)) in
    record {
      found = (subst (IsReadable limit) (sym seen) ok, items.found.1 ∙ ap (λ (i : Json). written i ++ new) (sym seen));
      all = λ j rest ok' e ends.
          let a = array_only limit old more is j rest ok' e in
          let same = items.all a.0 rest (list_parts limit a.0 a.2) a.3 in
          (seen ∙ ap array same.0 ∙ sym a.1, same.1);
    }

-- ---- an array as a list of trees

each_readable : (limit : ℕ) (ts : List Tree) → AreReadable limit (elements_of (map view ts)) → AllByRecursion (λ t. IsReadable limit (view t)) ts
each_readable limit [] ok = tt
each_readable limit (t ∷ ts) ok = (ok.0, each_readable limit ts ok.1)

pub each_found : (limit : ℕ) (old new : List ℕ) (r : Result (List Tree) Stop) → IfOk r (λ ts. AreReadable limit (elements_of (map view ts)) × (old ≡ written (array (elements_of (map view ts))) ++ new))
    → IfOk r (λ ts. AllByRecursion (λ t. IsReadable limit (view t)) ts × (old ≡ written (array (elements_of (map view ts))) ++ new))
each_found limit old new (Ok ts) found = (each_readable limit ts found.0, found.1)
each_found limit old new (Err y) found = tt

pub all_readable : (limit : ℕ) (ts : List Tree) → AllByRecursion (λ t. IsReadable limit (view t)) ts → AreReadable limit (elements_of (map view ts))
all_readable limit [] ok = tt
all_readable limit (t ∷ ts) ok = (ok.0, all_readable limit ts ok.1)

pub trees_found : (new rest : List ℕ) (ts : List Tree) (r : Result (List Tree) Stop) → Finds r (λ us. (elements_of (map view us) ≡ elements_of (map view ts)) × (new ≡ rest)) → Finds r (λ us. (us ≡ ts) × (new ≡ rest))
trees_found new rest ts (Ok us) found = (same_trees us ts found.0, found.1)
trees_found new rest ts (Err y) found = found
