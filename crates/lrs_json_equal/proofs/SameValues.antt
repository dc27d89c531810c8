-- The same value is an equivalence.
use Rattle.std.proofs.Common.{◌≡◌, ◌≢◌, ℕ, length, arith, Bool, true, false, ◌&&◌, List, [], ◌∷◌, Option, Some, None, is_some, if◌then◌else◌, refl, sym, ap, ◌∙◌, subst, true≢false, Equal, Less, Greater}
use Rattle.std.proofs.lemmas.Bool.{and_from, or_parts}
use Rattle.std.proofs.lemmas.Cmp.{nat_list_eq_equiv}
use Rattle.std.specs.Option.{option_map_or}
use Rattle.std.specs.declared.cmp.Ordering.{Ordering}
use Rattle.std.specs.Ordering.{is_eq}
use Rattle.std.specs.Str.{bytes_eq}
use Rattle.lrs_decimal.specs.Values.{order}
use Rattle.lrs_decimal.proofs.Orders.{order-refl, order-sym, order-trans}
use Rattle.lrs_json.specs.Json.{Json, null, boolean, number, string, array, object, Elements, no_elements, element, Members, no_members, member}
use Rattle.std.proofs.lemmas.Slice.Eq.{bytes_eq-Decides}
use Rattle.std.specs.Cmp.{first_so, second_so}
use Rattle.lrs_json.specs.View.{elements_of}
use Rattle.lrs_json.specs.Find.{find_member}
use Rattle.lrs_json.specs.Names.{is_among}
use Rattle.lrs_json.specs.Fits.{Fits, FitElements, FitMembers}
use Rattle.lrs_json_equal.specs.SameValue.{same, same_elements, same_members, are_named}

pub is_equal : (o : Ordering) → is_eq o ≡ true → o ≡ Equal
is_equal Less e = absurd (true≢false (sym e))
is_equal Equal e = refl
is_equal Greater e = absurd (true≢false (sym e))

equal_is : (o : Ordering) → o ≡ Equal → is_eq o ≡ true
equal_is o e = ap is_eq e

boolean-refl : (b : Bool) → same (boolean b) (boolean b) ≡ true
boolean-refl true = refl
boolean-refl false = refl

pub text-refl : (s : List ℕ) → bytes_eq s s ≡ true
text-refl s = nat_list_eq_equiv.refl s

-- ---- what has the same value is of the same kind

is_null : (k : Json) → same null k ≡ true → k ≡ null
is_null null e = refl
is_null _ e = absurd (true≢false (sym e))

is_boolean : (b : Bool) (k : Json) → same (boolean b) k ≡ true → (c : Bool) × (k ≡ boolean c)
is_boolean b (boolean c) e = (c, refl)
is_boolean b _ e = absurd (true≢false (sym e))

is_number : (s : List ℕ) (k : Json) → same (number s) k ≡ true → (t : List ℕ) × (k ≡ number t)
is_number s (number t) e = (t, refl)
is_number s _ e = absurd (true≢false (sym e))

is_string : (s : List ℕ) (k : Json) → same (string s) k ≡ true → (t : List ℕ) × (k ≡ string t)
is_string s (string t) e = (t, refl)
is_string s _ e = absurd (true≢false (sym e))

is_array : (js : Elements) (k : Json) → same (array js) k ≡ true → (ks : Elements) × (k ≡ array ks)
is_array js (array ks) e = (ks, refl)
is_array js _ e = absurd (true≢false (sym e))

is_object : (ms : Members) (k : Json) → same (object ms) k ≡ true → (ns : Members) × (k ≡ object ns)
is_object ms (object ns) e = (ns, refl)
is_object ms _ e = absurd (true≢false (sym e))

is_none : (ks : Elements) → same_elements no_elements ks ≡ true → ks ≡ no_elements
is_none no_elements e = refl
is_none (element k ks) e = absurd (true≢false (sym e))

is_element : (j : Json) (js ks : Elements) → same_elements (element j js) ks ≡ true → (k : Json) × (more : Elements) × (ks ≡ element k more)
is_element j js no_elements e = absurd (true≢false (sym e))
is_element j js (element k ks) e = (k, ks, refl)

-- ---- looking up

pub found_at : (k : List ℕ) (t : Bool) (j : Json) (rest : Option Json) → t ≡ true → (if t then Some j else rest) ≡ Some j
found_at k t j rest e = ap (λ b. if b then Some j else rest) e

pub passed : (t : Bool) (j : Json) (rest : Option Json) → t ≡ false → (if t then Some j else rest) ≡ rest
passed t j rest e = ap (λ b. if b then Some j else rest) e

some_same : (i j : Json) → Some i ≡ Some j → i ≡ j
some_same i j e = cc e

none_some : (j : Json) → ◌≡◌ {A = Option Json} None (Some j) → ⊥
none_some j e = cc e

-- a value that is found fits
Fits-found_at : (t : Bool) (j i : Json) (rest : Option Json) → (if t then Some j else rest) ≡ Some i → Fits j → (rest ≡ Some i → Fits i) → Fits i
Fits-found_at true j i rest e f g = subst Fits (some_same j i e) f
Fits-found_at false j i rest e f g = g e

pub Fits-found : (ms : Members) (names : List (List ℕ)) (k : List ℕ) (i : Json) → FitMembers names ms → find_member k ms ≡ Some i → Fits i
Fits-found no_members names k i f e = absurd (none_some i e)
Fits-found (member n j ms) names k i f e = Fits-found_at (bytes_eq n k) j i (find_member k ms) e f.2 (Fits-found ms (n ∷ names) k i f.3)

-- What is looked up in the whole, of a name not yet seen, is found in what is left.
abbrev Leads : List (List ℕ) → Members → Members → Type 0
Leads names whole ms = (k : List ℕ) → is_among k names ≡ false → find_member k whole ≡ find_member k ms

leads_on : (names : List (List ℕ)) (whole ms : Members) (n : List ℕ) (j : Json) → Leads names whole (member n j ms) → Leads (n ∷ names) whole ms
leads_on names whole ms n j leads k e =
    leads k (or_parts (bytes_eq k n) (is_among k names) e).1 ∙ passed (bytes_eq n k) j (find_member k ms) (nat_list_eq_equiv.symm n k ∙ (or_parts (bytes_eq k n) (is_among k names) e).0)

leads_first : (names : List (List ℕ)) (whole ms : Members) (n : List ℕ) (j : Json) → Leads names whole (member n j ms) → is_among n names ≡ false → find_member n whole ≡ Some j
leads_first names whole ms n j leads new = leads n new ∙ found_at n (bytes_eq n n) j (find_member n ms) (text-refl n)

-- ---- reflexive

mutual
  pub same-refl : (j : Json) → Fits j → same j j ≡ true
  same-refl null f = refl
  same-refl (boolean b) f = boolean-refl b
  same-refl (number s) f = equal_is (order s s) (order-refl s)
  same-refl (string s) f = text-refl s
  same-refl (array js) f = elements-refl js f
  same-refl (object ms) f = and_from (same_members ms ms) (are_named ms ms) (members-refl ms ms [] (λ k e. refl) f) (named-refl ms ms [] (λ k e. refl) f)

  elements-refl : (js : Elements) → FitElements js → same_elements js js ≡ true
  elements-refl no_elements f = refl
  elements-refl (element j js) f = and_from (same j j) (same_elements js js) (same-refl j f.0) (elements-refl js f.1)

  members-refl : (ms whole : Members) (names : List (List ℕ)) → Leads names whole ms → FitMembers names ms → same_members ms whole ≡ true
  members-refl no_members whole names leads f = refl
  members-refl (member n j ms) whole names leads f =
      and_from (option_map_or (same j) (find_member n whole) false) (same_members ms whole)
      (ap (λ o. option_map_or (same j) o false) (leads_first names whole ms n j leads f.1) ∙ same-refl j f.2) (members-refl ms whole (n ∷ names) (leads_on names whole ms n j leads) f.3)

  named-refl : (ms whole : Members) (names : List (List ℕ)) → Leads names whole ms → FitMembers names ms → are_named ms whole ≡ true
  named-refl no_members whole names leads f = refl
  named-refl (member n j ms) whole names leads f =
      and_from (is_some (find_member n whole)) (are_named ms whole) (ap is_some (leads_first names whole ms n j leads f.1)) (named-refl ms whole (n ∷ names) (leads_on names whole ms n j leads) f.3)

-- ---- symmetric

-- what is found on the left is the same on the right
same_found_at : (t : Bool) (j i : Json) (rest o : Option Json) → (if t then Some j else rest) ≡ Some i → (t ≡ true → option_map_or (same j) o false ≡ true) → (rest ≡ Some i → option_map_or (same i) o false ≡ true) → option_map_or (same i) o false ≡ true
same_found_at true j i rest o e f g = subst (λ z. option_map_or (same z) o false ≡ true) (some_same j i e) (f refl)
same_found_at false j i rest o e f g = g e

pub name_is : (n k : List ℕ) → bytes_eq n k ≡ true → n ≡ k
name_is n k e = (bytes_eq-Decides n k).0 e

same_found : (ms ns : Members) (k : List ℕ) (i : Json) → same_members ms ns ≡ true → find_member k ms ≡ Some i → option_map_or (same i) (find_member k ns) false ≡ true
same_found no_members ns k i e f = absurd (none_some i f)
same_found (member n j ms) ns k i e f =
    let own = option_map_or (same j) (find_member n ns) false in
    same_found_at (bytes_eq n k) j i (find_member k ms) (find_member k ns) f
    (λ t. ap (λ z. option_map_or (same j) (find_member z ns) false) (sym (name_is n k t)) ∙ first_so own (same_members ms ns) e) (same_found ms ns k i (second_so own (same_members ms ns) e))

-- each name that is found is one of the others
named_found_at : (t : Bool) (j i : Json) (rest o : Option Json) → (if t then Some j else rest) ≡ Some i → (t ≡ true → is_some o ≡ true) → (rest ≡ Some i → is_some o ≡ true) → is_some o ≡ true
named_found_at true j i rest o e f g = f refl
named_found_at false j i rest o e f g = g e

named_found : (ms ns : Members) (k : List ℕ) (i : Json) → are_named ms ns ≡ true → find_member k ms ≡ Some i → is_some (find_member k ns) ≡ true
named_found no_members ns k i e f = absurd (none_some i f)
named_found (member n j ms) ns k i e f =
    named_found_at (bytes_eq n k) j i (find_member k ms) (find_member k ns) f (λ t. ap (λ z. is_some (find_member z ns)) (sym (name_is n k t)) ∙ first_so (is_some (find_member n ns)) (are_named ms ns) e)
    (named_found ms ns k i (second_so (is_some (find_member n ns)) (are_named ms ns) e))

some_value : (o : Option Json) → is_some o ≡ true → (j : Json) × (o ≡ Some j)
some_value None e = absurd (true≢false (sym e))
some_value (Some j) e = (j, refl)

mapped_some : (f : Json → Bool) (o : Option Json) → option_map_or f o false ≡ true → is_some o ≡ true
mapped_some f None e = e
mapped_some f (Some j) e = refl

-- the names on the left are names on the right
same_named : (ms ns : Members) → same_members ms ns ≡ true → are_named ms ns ≡ true
same_named no_members ns e = refl
same_named (member n j ms) ns e =
    let own = option_map_or (same j) (find_member n ns) false in
    and_from (is_some (find_member n ns)) (are_named ms ns) (mapped_some (same j) (find_member n ns) (first_so own (same_members ms ns) e)) (same_named ms ns (second_so own (same_members ms ns) e))

boolean-sym : (b c : Bool) → same (boolean b) (boolean c) ≡ true → same (boolean c) (boolean b) ≡ true
boolean-sym true true e = e
boolean-sym true false e = e
boolean-sym false true e = e
boolean-sym false false e = e

sym_at : (t : Bool) (j i k : Json) (rest : Option Json) → (if t then Some j else rest) ≡ Some i → (same j k ≡ true → same k j ≡ true) → (rest ≡ Some i → same i k ≡ true → same k i ≡ true) → same i k ≡ true → same k i ≡ true
sym_at true j i k rest e f g s = let is = some_same j i e in subst (λ z. same k z ≡ true) is (f (subst (λ z. same z k ≡ true) (sym is) s))
sym_at false j i k rest e f g s = g e s

-- What is found in ms is turned round; what leads on from the whole of ns is turned round by it.
members-sym : (rest ms ns : Members) (names : List (List ℕ)) → Leads names ns rest → FitMembers names rest → same_members ms ns ≡ true → are_named rest ms ≡ true
    → ((k : List ℕ) (j i : Json) → find_member k ms ≡ Some j → Fits i → same j i ≡ true → same i j ≡ true) → same_members rest ms ≡ true
members-sym no_members ms ns names leads f covered named flips = refl
members-sym (member n i rest) ms ns names leads f covered named flips =
    let there = some_value (find_member n ms) (first_so (is_some (find_member n ms)) (are_named rest ms) named) in
    let j = there.0 in
    let here : find_member n ns ≡ Some i = leads_first names ns rest n i leads f.1 in
    let same_one : same j i ≡ true = ap (λ o. option_map_or (same j) o false) (sym here) ∙ same_found ms ns n j covered there.1 in
    and_from (option_map_or (same i) (find_member n ms) false) (same_members rest ms) (ap (λ o. option_map_or (same i) o false) there.1 ∙ flips n j i there.1 f.2 same_one)
    (members-sym rest ms ns (n ∷ names) (leads_on names ns rest n i leads) f.3 covered (second_so (is_some (find_member n ms)) (are_named rest ms) named) flips)

objects-sym : (ms ns : Members) → FitMembers [] ns → same (object ms) (object ns) ≡ true → ((k : List ℕ) (j i : Json) → find_member k ms ≡ Some j → Fits i → same j i ≡ true → same i j ≡ true) → same (object ns) (object ms) ≡ true
objects-sym ms ns f e flips =
    let covered = first_so (same_members ms ns) (are_named ns ms) e in
    and_from (same_members ns ms) (are_named ms ns) (members-sym ns ms ns [] (λ k z. refl) f covered (second_so (same_members ms ns) (are_named ns ms) e) flips) (same_named ms ns covered)

mutual
  pub same-sym : (j k : Json) → Fits k → same j k ≡ true → same k j ≡ true
  same-sym null k f e = subst (λ z. same z null ≡ true) (sym (is_null k e)) refl
  same-sym (boolean b) k f e = let o = is_boolean b k e in subst (λ z. same z (boolean b) ≡ true) (sym o.1) (boolean-sym b o.0 (subst (λ z. same (boolean b) z ≡ true) o.1 e))
  same-sym (number s) k f e =
      let o = is_number s k e in
      subst (λ z. same z (number s) ≡ true) (sym o.1) (equal_is (order o.0 s) (order-sym s o.0 (is_equal (order s o.0) (subst (λ z. same (number s) z ≡ true) o.1 e))))
  same-sym (string s) k f e = let o = is_string s k e in subst (λ z. same z (string s) ≡ true) (sym o.1) (sym (nat_list_eq_equiv.symm s o.0) ∙ subst (λ z. same (string s) z ≡ true) o.1 e)
  same-sym (array js) k f e = let o = is_array js k e in subst (λ z. same z (array js) ≡ true) (sym o.1) (elements-sym js o.0 (subst Fits o.1 f) (subst (λ z. same (array js) z ≡ true) o.1 e))
  same-sym (object ms) k f e =
      let o = is_object ms k e in
      subst (λ z. same z (object ms) ≡ true) (sym o.1) (objects-sym ms o.0 (subst Fits o.1 f) (subst (λ z. same (object ms) z ≡ true) o.1 e) (found-sym ms))

  elements-sym : (js ks : Elements) → FitElements ks → same_elements js ks ≡ true → same_elements ks js ≡ true
  elements-sym no_elements ks f e = subst (λ z. same_elements z no_elements ≡ true) (sym (is_none ks e)) refl
  elements-sym (element j js) ks f e =
      let o = is_element j js ks e in
      let g = subst FitElements o.2 f in
      let d = subst (λ z. same_elements (element j js) z ≡ true) o.2 e in
      subst (λ z. same_elements z (element j js) ≡ true) (sym o.2)
      (and_from (same o.0 j) (same_elements o.1 js) (same-sym j o.0 g.0 (first_so (same j o.0) (same_elements js o.1) d)) (elements-sym js o.1 g.1 (second_so (same j o.0) (same_elements js o.1) d)))

  -- of each value that is found in ms
  found-sym : (ms : Members) (k : List ℕ) (j i : Json) → find_member k ms ≡ Some j → Fits i → same j i ≡ true → same i j ≡ true
  found-sym no_members k j i e f s = absurd (none_some j e)
  found-sym (member n h ms) k j i e f s = sym_at (bytes_eq n k) h j i (find_member k ms) e (same-sym h i f) (λ z. found-sym ms k j i z f) s

-- ---- transitive

boolean-trans : (b c d : Bool) → same (boolean b) (boolean c) ≡ true → same (boolean c) (boolean d) ≡ true → same (boolean b) (boolean d) ≡ true
boolean-trans true true d e f = f
boolean-trans true false d e f = absurd (true≢false (sym e))
boolean-trans false true d e f = absurd (true≢false (sym e))
boolean-trans false false d e f = f

-- the names on the right are names two steps on
named-trans : (os ns ms : Members) → are_named os ns ≡ true → are_named ns ms ≡ true → are_named os ms ≡ true
named-trans no_members ns ms e f = refl
named-trans (member n h os) ns ms e f =
    let there = some_value (find_member n ns) (first_so (is_some (find_member n ns)) (are_named os ns) e) in
    and_from (is_some (find_member n ms)) (are_named os ms) (named_found ns ms n there.0 f there.1) (named-trans os ns ms (second_so (is_some (find_member n ns)) (are_named os ns) e) f)

mapped_at : (j i : Json) (o : Option Json) → ((h : Json) → same j i ≡ true → same i h ≡ true → same j h ≡ true) → same j i ≡ true → option_map_or (same i) o false ≡ true → option_map_or (same j) o false ≡ true
mapped_at j i None f s e = e
mapped_at j i (Some h) f s e = f h s e

mapped-trans : (j : Json) (ns os : Members) (n : List ℕ) (o : Option Json) → find_member n ns ≡ o → ((i h : Json) → same j i ≡ true → same i h ≡ true → same j h ≡ true) → option_map_or (same j) o false ≡ true → same_members ns os ≡ true
    → option_map_or (same j) (find_member n os) false ≡ true
mapped-trans j ns os n None found f e covered = absurd (true≢false (sym e))
mapped-trans j ns os n (Some i) found f e covered = mapped_at j i (find_member n os) (f i) e (same_found ns os n i covered found)

mutual
  pub same-trans : (j k l : Json) → same j k ≡ true → same k l ≡ true → same j l ≡ true
  same-trans null k l e f = subst (λ z. same z l ≡ true) (is_null k e) f
  same-trans (boolean b) k l e f =
      let o = is_boolean b k e in
      let g = subst (λ z. same z l ≡ true) o.1 f in
      let p = is_boolean o.0 l g in
      subst (λ z. same (boolean b) z ≡ true) (sym p.1) (boolean-trans b o.0 p.0 (subst (λ z. same (boolean b) z ≡ true) o.1 e) (subst (λ z. same (boolean o.0) z ≡ true) p.1 g))
  same-trans (number s) k l e f =
      let o = is_number s k e in
      let g = subst (λ z. same z l ≡ true) o.1 f in
      let p = is_number o.0 l g in
      let first = is_equal (order s o.0) (subst (λ z. same (number s) z ≡ true) o.1 e) in
      let second = is_equal (order o.0 p.0) (subst (λ z. same (number o.0) z ≡ true) p.1 g) in
      subst (λ z. same (number s) z ≡ true) (sym p.1) (equal_is (order s p.0) (order-trans s o.0 p.0 first second))
  same-trans (string s) k l e f =
      let o = is_string s k e in
      let is : s ≡ o.0 = name_is s o.0 (subst (λ z. same (string s) z ≡ true) o.1 e) in
      subst (λ z. same (string z) l ≡ true) (sym is) (subst (λ z. same z l ≡ true) o.1 f)
  same-trans (array js) k l e f =
      let o = is_array js k e in
      let g = subst (λ z. same z l ≡ true) o.1 f in
      let p = is_array o.0 l g in
      subst (λ z. same (array js) z ≡ true) (sym p.1) (elements-trans js o.0 p.0 (subst (λ z. same (array js) z ≡ true) o.1 e) (subst (λ z. same (array o.0) z ≡ true) p.1 g))
  same-trans (object ms) k l e f =
      let o = is_object ms k e in
      let g = subst (λ z. same z l ≡ true) o.1 f in
      let p = is_object o.0 l g in
      let ns = o.0 in
      let os = p.0 in
      let one = subst (λ z. same (object ms) z ≡ true) o.1 e in
      let two = subst (λ z. same (object ns) z ≡ true) p.1 g in
      subst (λ z. same (object ms) z ≡ true) (sym p.1)
      (and_from (same_members ms os) (are_named os ms) (members-trans ms ns os (first_so (same_members ms ns) (are_named ns ms) one) (first_so (same_members ns os) (are_named os ns) two))
      (named-trans os ns ms (second_so (same_members ns os) (are_named os ns) two) (second_so (same_members ms ns) (are_named ns ms) one)))

  elements-trans : (js ks ls : Elements) → same_elements js ks ≡ true → same_elements ks ls ≡ true → same_elements js ls ≡ true
  elements-trans no_elements ks ls e f = subst (λ z. same_elements z ls ≡ true) (is_none ks e) f
  elements-trans (element j js) ks ls e f =
      let o = is_element j js ks e in
      let g = subst (λ z. same_elements z ls ≡ true) o.2 f in
      let p = is_element o.0 o.1 ls g in
      let one = subst (λ z. same_elements (element j js) z ≡ true) o.2 e in
      let two = subst (λ z. same_elements (element o.0 o.1) z ≡ true) p.2 g in
      subst (λ z. same_elements (element j js) z ≡ true) (sym p.2)
      (and_from (same j p.0) (same_elements js p.1) (same-trans j o.0 p.0 (first_so (same j o.0) (same_elements js o.1) one) (first_so (same o.0 p.0) (same_elements o.1 p.1) two))
      (elements-trans js o.1 p.1 (second_so (same j o.0) (same_elements js o.1) one) (second_so (same o.0 p.0) (same_elements o.1 p.1) two)))

  members-trans : (ms ns os : Members) → same_members ms ns ≡ true → same_members ns os ≡ true → same_members ms os ≡ true
  members-trans no_members ns os e f = refl
  members-trans (member n j ms) ns os e f =
      let own = option_map_or (same j) (find_member n ns) false in
      and_from (option_map_or (same j) (find_member n os) false) (same_members ms os) (mapped-trans j ns os n (find_member n ns) refl (λ i h. same-trans j i h) (first_so own (same_members ms ns) e) f)
      (members-trans ms ns os (second_so own (same_members ms ns) e) f)

-- ---- lengths

pub absurd_or : (b c : Bool) → false ≡ c → false ≡ (b && c)
absurd_or true c e = e
absurd_or false c e = refl

-- lists of different lengths have no same values
pub lengths_differ : (js ks : List Json) → length js ≢ length ks → false ≡ same_elements (elements_of js) (elements_of ks)
lengths_differ [] [] n = absurd (n refl)
lengths_differ [] (k ∷ ks) n = refl
lengths_differ (j ∷ js) [] n = refl
lengths_differ (j ∷ js) (k ∷ ks) n =
    let tail : length js ≢ length ks = λ e. n (omega (arith, e)) in
    absurd_or (same j k) (same_elements (elements_of js) (elements_of ks)) (lengths_differ js ks tail)
