-- What is alike of objects, given that what is alike of their members is an equivalence.
use Rattle.std.proofs.Common.{◌≡◌, ℕ, List, [], ◌∷◌, Bool, true, false, ◌&&◌, ◌||◌, ◌⊎◌, inl, inr, Option, Some, None, is_some, if◌then◌else◌, refl, sym, ap, ◌∙◌, subst, true≢false}
use Rattle.std.proofs.lemmas.Bool.{and_from, or_cases, or_left, or_right}
use Rattle.std.proofs.lemmas.Cmp.{nat_list_eq_equiv}
use Rattle.std.specs.Str.{bytes_eq}
use Rattle.std.specs.Cmp.{both_ways, first_so, second_so}
use Rattle.lrs_json.specs.Names.{is_among}
use Rattle.xapi_alike.specs.Normal.{Normal, Named, unnamed, named}
use Rattle.xapi_alike.specs.Alike.{alike, has_name, any_named, named_alike, are_named}
use Rattle.xapi_alike.proofs.Neat.{Neat, NeatNamed, find_named, Leads, leads_on, leads_first, some_same, none_some, neat_found}
use Rattle.lrs_json_equal.proofs.SameValues.{name_is}

-- x is alike to what y is alike to
abbrev pub Agrees : Normal → Normal → Type 0
Agrees x y = (z : Normal) → alike x z ≡ alike y z

-- what is found in ms agrees with each that is alike
abbrev pub FoundAgree : Named → Type 0
FoundAgree ms = (k : List ℕ) (x y : Normal) → find_named k ms ≡ Some x → Neat y → alike x y ≡ true → Agrees x y

some_value : (o : Option Normal) → is_some o ≡ true → (x : Normal) × (o ≡ Some x)
some_value None e = absurd (true≢false (sym e))
some_value (Some x) e = (x, refl)

-- ---- names, and members of a name

has_some_at : (t b : Bool) (x : Normal) (rest : Option Normal) → b ≡ is_some rest → (t || b) ≡ is_some (if t then Some x else rest)
has_some_at true b x rest e = refl
has_some_at false b x rest e = e

pub has_some : (k : List ℕ) (ms : Named) → has_name k ms ≡ is_some (find_named k ms)
has_some k unnamed = refl
has_some k (named n x ms) = has_some_at (bytes_eq n k) (has_name k ms) x (find_named k ms) (has_some k ms)

any_agree : (k : List ℕ) (f g : Normal → Bool) (ms : Named) → ((z : Normal) → f z ≡ g z) → any_named k f ms ≡ any_named k g ms
any_agree k f g unnamed h = refl
any_agree k f g (named n x ms) h =
    ap (λ (b : Bool). (bytes_eq n k && b) || any_named k f ms) (h x) ∙ ap (λ (b : Bool). (bytes_eq n k && g x) || b) (any_agree k f g ms h)

found_any_at : (b c : Bool) (f : Normal → Bool) (x y : Normal) (rest : Option Normal) → (if b then Some x else rest) ≡ Some y → f y ≡ true → (rest ≡ Some y → c ≡ true) → ((b && f x) || c) ≡ true
found_any_at true c f x y rest e t later = or_left (f x) c (ap f (some_same x y e) ∙ t)
found_any_at false c f x y rest e t later = later e

-- what is found and passes is one that passes
pub found_any : (k : List ℕ) (f : Normal → Bool) (ms : Named) (y : Normal) → find_named k ms ≡ Some y → f y ≡ true → any_named k f ms ≡ true
found_any k f unnamed y e t = absurd (none_some y e)
found_any k f (named n x ms) y e t = found_any_at (bytes_eq n k) (any_named k f ms) f x y (find_named k ms) e t (λ h. found_any k f ms y h t)

any_has : (k : List ℕ) (f : Normal → Bool) (ms : Named) → any_named k f ms ≡ true → has_name k ms ≡ true
any_has k f unnamed e = e
any_has k f (named n x ms) e = here (or_cases (bytes_eq n k && f x) (any_named k f ms) e) (any_has k f ms)
  where
    here : ((bytes_eq n k && f x) ≡ true) ⊎ (any_named k f ms ≡ true) → (any_named k f ms ≡ true → has_name k ms ≡ true) → (bytes_eq n k || has_name k ms) ≡ true
    here (inl g) later = or_left (bytes_eq n k) (has_name k ms) (first_so (bytes_eq n k) (f x) g)
    here (inr g) later = or_right (bytes_eq n k) (has_name k ms) (later g)

-- a name that stood before stands no more
not_again : (k : List ℕ) (f : Normal → Bool) (ms : Named) (names : List (List ℕ)) → NeatNamed names ms → is_among k names ≡ true → any_named k f ms ≡ true → ⊥
not_again k f unnamed names n a e = true≢false (sym e)
not_again k f (named i x ms) names n a e = here (or_cases (bytes_eq i k && f x) (any_named k f ms) e) (not_again k f ms (i ∷ names) n.2 (or_right (bytes_eq k i) (is_among k names) a))
  where
    here : ((bytes_eq i k && f x) ≡ true) ⊎ (any_named k f ms ≡ true) → (any_named k f ms ≡ true → ⊥) → ⊥
    here (inl g) later = true≢false (sym a ∙ (ap (λ (z : List ℕ). is_among z names) (sym (name_is i k (first_so (bytes_eq i k) (f x) g))) ∙ n.0))
    here (inr g) later = later g

any_found_at : (b : Bool) (k n : List ℕ) (f : Normal → Bool) (x : Normal) (ms : Named) → bytes_eq n k ≡ b → ((b && f x) || any_named k f ms) ≡ true → (b ≡ true → any_named k f ms ≡ true → ⊥)
    → (any_named k f ms ≡ true → (y : Normal) × (find_named k ms ≡ Some y) × (f y ≡ true)) → (y : Normal) × ((if b then Some x else find_named k ms) ≡ Some y) × (f y ≡ true)
any_found_at true k n f x ms e t none_left later = here (or_cases (f x) (any_named k f ms) t)
  where
    here : (f x ≡ true) ⊎ (any_named k f ms ≡ true) → (y : Normal) × (Some x ≡ Some y) × (f y ≡ true)
    here (inl g) = (x, refl, g)
    here (inr g) = absurd (none_left refl g)
any_found_at false k n f x ms e t none_left later = later t

-- where names are distinct, one that passes is the one that is found
any_found : (k : List ℕ) (f : Normal → Bool) (ms : Named) (names : List (List ℕ)) → NeatNamed names ms → any_named k f ms ≡ true → (y : Normal) × (find_named k ms ≡ Some y) × (f y ≡ true)
any_found k f unnamed names n e = absurd (true≢false (sym e))
any_found k f (named i x ms) names n e =
    any_found_at (bytes_eq i k) k i f x ms refl e
    (λ t g. not_again k f ms (i ∷ names) n.2 (or_left (bytes_eq k i) (is_among k names) (sym (nat_list_eq_equiv.symm i k) ∙ t)) g)
    (λ g. any_found k f ms (i ∷ names) n.2 g)

-- ---- what is alike of two objects

alike_found_at : (t : Bool) (k : List ℕ) (w x : Normal) (rest : Option Normal) (ns : Named) → (if t then Some w else rest) ≡ Some x → (t ≡ true → any_named k (alike w) ns ≡ true)
    → (rest ≡ Some x → any_named k (alike x) ns ≡ true) → any_named k (alike x) ns ≡ true
alike_found_at true k w x rest ns e f g = subst (λ (z : Normal). any_named k (alike z) ns ≡ true) (some_same w x e) (f refl)
alike_found_at false k w x rest ns e f g = g e

alike_found : (ms ns : Named) (k : List ℕ) (x : Normal) → named_alike ms ns ≡ true → find_named k ms ≡ Some x → any_named k (alike x) ns ≡ true
alike_found unnamed ns k x e f = absurd (none_some x f)
alike_found (named n w ms) ns k x e f =
    let own = any_named n (alike w) ns in
    alike_found_at (bytes_eq n k) k w x (find_named k ms) ns f
    (λ t. ap (λ (z : List ℕ). any_named z (alike w) ns) (sym (name_is n k t)) ∙ first_so own (named_alike ms ns) e)
    (alike_found ms ns k x (second_so own (named_alike ms ns) e))

named_has : (ns ms : Named) (k : List ℕ) → are_named ns ms ≡ true → has_name k ns ≡ true → has_name k ms ≡ true
named_has unnamed ms k e f = absurd (true≢false (sym f))
named_has (named n w ns) ms k e f = here (or_cases (bytes_eq n k) (has_name k ns) f) (named_has ns ms k (second_so (has_name n ms) (are_named ns ms) e))
  where
    here : (bytes_eq n k ≡ true) ⊎ (has_name k ns ≡ true) → (has_name k ns ≡ true → has_name k ms ≡ true) → has_name k ms ≡ true
    here (inl t) later = ap (λ (z : List ℕ). has_name z ms) (sym (name_is n k t)) ∙ first_so (has_name n ms) (are_named ns ms) e
    here (inr t) later = later t

-- names that ms has are names that ns has
passes_on : (os ms ns : Named) → ((k : List ℕ) → has_name k ms ≡ true → has_name k ns ≡ true) → are_named os ms ≡ true → are_named os ns ≡ true
passes_on unnamed ms ns has e = refl
passes_on (named n w os) ms ns has e =
    and_from (has_name n ns) (are_named os ns) (has n (first_so (has_name n ms) (are_named os ms) e)) (passes_on os ms ns has (second_so (has_name n ms) (are_named os ms) e))

found_of : (k : List ℕ) (ms : Named) → has_name k ms ≡ true → (x : Normal) × (find_named k ms ≡ Some x)
found_of k ms e = some_value (find_named k ms) (sym (has_some k ms) ∙ e)

-- what ms is alike to ns is alike to; rest is what is left of ns
onward : (rest ms ns os : Named) (names : List (List ℕ)) → Leads names ns rest → NeatNamed names rest → NeatNamed [] ns → named_alike ms ns ≡ true → are_named rest ms ≡ true → FoundAgree ms → named_alike ms os ≡ true
    → named_alike rest os ≡ true
onward unnamed ms ns os names leads n nn e has agree f = refl
onward (named k y rest) ms ns os names leads n nn e has agree f =
    let there = found_of k ms (first_so (has_name k ms) (are_named rest ms) has) in
    let x = there.0 in
    let here : find_named k ns ≡ Some y = leads_first names ns rest k y leads n.0 in
    let one = any_found k (alike x) ns [] nn (alike_found ms ns k x e there.1) in
    let pair : alike x y ≡ true = ap (alike x) (some_same y one.0 (sym here ∙ one.1)) ∙ one.2 in
    and_from (any_named k (alike y) os) (named_alike rest os)
    (sym (any_agree k (alike x) (alike y) os (agree k x y there.1 n.1 pair)) ∙ alike_found ms os k x f there.1)
    (onward rest ms ns os (k ∷ names) (leads_on names ns rest k y leads) n.2 nn e (second_so (has_name k ms) (are_named rest ms) has) agree f)

-- what ns is alike to ms is alike to; rest is what is left of ms
backward : (rest ms ns os : Named) (names : List (List ℕ)) → Leads names ms rest → NeatNamed names rest → NeatNamed [] ns → named_alike rest ns ≡ true → FoundAgree ms → named_alike ns os ≡ true → named_alike rest os ≡ true
backward unnamed ms ns os names leads n nn e agree f = refl
backward (named k x rest) ms ns os names leads n nn e agree f =
    let own = any_named k (alike x) ns in
    let there = any_found k (alike x) ns [] nn (first_so own (named_alike rest ns) e) in
    let here : find_named k ms ≡ Some x = leads_first names ms rest k x leads n.0 in
    and_from (any_named k (alike x) os) (named_alike rest os)
    (any_agree k (alike x) (alike there.0) os (agree k x there.0 here (neat_found ns [] k there.0 nn there.1) there.2) ∙ alike_found ns os k there.0 f there.1)
    (backward rest ms ns os (k ∷ names) (leads_on names ms rest k x leads) n.2 nn (second_so own (named_alike rest ns) e) agree f)

pub objects_agree : (ms ns : Named) → NeatNamed [] ms → NeatNamed [] ns → (named_alike ms ns && are_named ns ms) ≡ true → FoundAgree ms → (os : Named)
    → (named_alike ms os && are_named os ms) ≡ (named_alike ns os && are_named os ns)
objects_agree ms ns nm nn e agree os =
    let covered = first_so (named_alike ms ns) (are_named ns ms) e in
    let back = second_so (named_alike ms ns) (are_named ns ms) e in
    both_ways (named_alike ms os && are_named os ms) (named_alike ns os && are_named os ns)
    (λ f. and_from (named_alike ns os) (are_named os ns)
    (onward ns ms ns os [] (λ k z. refl) nn nn covered back agree (first_so (named_alike ms os) (are_named os ms) f))
    (passes_on os ms ns (λ k h. let x = found_of k ms h in any_has k (alike x.0) ns (alike_found ms ns k x.0 covered x.1)) (second_so (named_alike ms os) (are_named os ms) f)))
    (λ f. and_from (named_alike ms os) (are_named os ms)
    (backward ms ms ns os [] (λ k z. refl) nm nn covered agree (first_so (named_alike ns os) (are_named os ns) f))
    (passes_on os ns ms (λ k h. named_has ns ms k back h) (second_so (named_alike ns os) (are_named os ns) f)))
