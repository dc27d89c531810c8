-- What is alike is an equivalence of neat normal forms.
use Rattle.std.proofs.Common.{◌≡◌, ℕ, List, [], ◌∷◌, Bool, true, false, ◌&&◌, inl, inr, is_some, refl, sym, ap, ◌∙◌, subst, true≢false}
use Rattle.std.proofs.lemmas.Bool.{and_from}
use Rattle.std.specs.Cmp.{first_so, second_so}
use Rattle.std.specs.Str.{bytes_eq}
use Rattle.xapi_values.specs.declared.kinds.Kind.{Kind}
use Rattle.xapi_alike.specs.declared.role.Role.TheVariants.{Statement}
use Rattle.xapi_alike.specs.Normal.{Words, Normal, nothing, truth, amount, words, items, thing, Normals, none, more, Named, unnamed, named, normal}
use Rattle.xapi_values.specs.Kinds.{same_kind}
use Rattle.xapi_alike.specs.Alike.{same_truth, same_words, same_amount, alike, all_alike, same_bag, has_name, any_named, named_alike, are_named}
use Rattle.xapi_alike.specs.Same.{IsSameness}
use Rattle.xapi_alike.proofs.LeafLaws.{truth_is, truth_refl, kind_is, kind_refl, amount_refl, amount_congr, words_refl, words_congr}
use Rattle.xapi_alike.proofs.Neat.{Neat, NeatAll, NeatNamed, find_named, Leads, leads_on, leads_first, none_some, found_case, neat}
use Rattle.xapi_alike.proofs.Objects.{Agrees, FoundAgree, has_some, found_any, objects_agree}
use Rattle.xapi_alike.proofs.Bags.{EachAgrees, EachAlike, bag_refl, bags_agree}

-- ---- reflexive

mutual
  alike-refl : (x : Normal) → Neat x → alike x x ≡ true
  alike-refl nothing n = refl
  alike-refl (truth b) n = truth_refl b
  alike-refl (amount s) n = amount_refl s
  alike-refl (words v) n = words_refl v
  alike-refl (items true xs) n = bag_refl xs
  alike-refl (items false xs) n = all-refl xs n
  alike-refl (thing k ms) n =
      and_from (same_kind k k) (named_alike ms ms && are_named ms ms) (kind_refl k)
      (and_from (named_alike ms ms) (are_named ms ms) (named-refl ms ms [] (λ i e. refl) n) (names-refl ms ms [] (λ i e. refl) n))

  all-refl : (xs : Normals) → NeatAll xs → all_alike xs xs ≡ true
  all-refl none n = refl
  all-refl (more x xs) n = and_from (alike x x) (all_alike xs xs) (alike-refl x n.0) (all-refl xs n.1)

  named-refl : (ms whole : Named) (names : List (List ℕ)) → Leads names whole ms → NeatNamed names ms → named_alike ms whole ≡ true
  named-refl unnamed whole names leads n = refl
  named-refl (named k x ms) whole names leads n =
      and_from (any_named k (alike x) whole) (named_alike ms whole)
      (found_any k (alike x) whole x (leads_first names whole ms k x leads n.0) (alike-refl x n.1))
      (named-refl ms whole (k ∷ names) (leads_on names whole ms k x leads) n.2)

  names-refl : (ms whole : Named) (names : List (List ℕ)) → Leads names whole ms → NeatNamed names ms → are_named ms whole ≡ true
  names-refl unnamed whole names leads n = refl
  names-refl (named k x ms) whole names leads n =
      and_from (has_name k whole) (are_named ms whole) (has_some k whole ∙ ap is_some (leads_first names whole ms k x leads n.0))
      (names-refl ms whole (k ∷ names) (leads_on names whole ms k x leads) n.2)

each-refl : (xs : Normals) → NeatAll xs → EachAlike xs
each-refl none n x i = absurd i
each-refl (more y xs) n x (inl e) = subst (λ (z : Normal). alike z z ≡ true) (sym e) (alike-refl y n.0)
each-refl (more y xs) n x (inr i) = each-refl xs n.1 x i

-- ---- what is alike is of one kind

is_nothing : (y : Normal) → alike nothing y ≡ true → y ≡ nothing
is_nothing nothing e = refl
is_nothing _ e = absurd (true≢false (sym e))

is_truth : (b : Bool) (y : Normal) → alike (truth b) y ≡ true → (c : Bool) × (y ≡ truth c)
is_truth b (truth c) e = (c, refl)
is_truth b _ e = absurd (true≢false (sym e))

is_amount : (s : List ℕ) (y : Normal) → alike (amount s) y ≡ true → (t : List ℕ) × (y ≡ amount t)
is_amount s (amount t) e = (t, refl)
is_amount s _ e = absurd (true≢false (sym e))

is_words : (v : Words) (y : Normal) → alike (words v) y ≡ true → (w : Words) × (y ≡ words w)
is_words v (words w) e = (w, refl)
is_words v _ e = absurd (true≢false (sym e))

is_items : (u : Bool) (xs : Normals) (y : Normal) → alike (items u xs) y ≡ true → (v : Bool) × (ys : Normals) × (y ≡ items v ys)
is_items u xs (items v ys) e = (v, ys, refl)
is_items u xs _ e = absurd (true≢false (sym e))

is_thing : (k : Kind) (ms : Named) (y : Normal) → alike (thing k ms) y ≡ true → (l : Kind) × (ns : Named) × (y ≡ thing l ns)
is_thing k ms (thing l ns) e = (l, ns, refl)
is_thing k ms _ e = absurd (true≢false (sym e))

is_none : (ys : Normals) → all_alike none ys ≡ true → ys ≡ none
is_none none e = refl
is_none (more y ys) e = absurd (true≢false (sym e))

is_more : (x : Normal) (xs ys : Normals) → all_alike (more x xs) ys ≡ true → (y : Normal) × (rest : Normals) × (ys ≡ more y rest)
is_more x xs none e = absurd (true≢false (sym e))
is_more x xs (more y ys) e = (y, ys, refl)

-- ---- alike to one is alike to the other

amounts_agree : (s t : List ℕ) → same_amount s t ≡ true → Agrees (amount s) (amount t)
amounts_agree s t e (amount u) = amount_congr s t u e
amounts_agree s t e _ = refl

words_agree : (v w : Words) → same_words v w ≡ true → Agrees (words v) (words w)
words_agree v w e (words u) = words_congr v w u e
words_agree v w e _ = refl

lists_agree : (xs ys : Normals) → ((zs : Normals) → all_alike xs zs ≡ all_alike ys zs) → Agrees (items false xs) (items false ys)
lists_agree xs ys h (items w zs) = ap (λ (b : Bool). same_truth false w && b) (h zs)
lists_agree xs ys h _ = refl

unordered_agree : (xs ys : Normals) → ((zs : Normals) → same_bag xs zs ≡ same_bag ys zs) → Agrees (items true xs) (items true ys)
unordered_agree xs ys h (items w zs) = ap (λ (b : Bool). same_truth true w && b) (h zs)
unordered_agree xs ys h _ = refl

things_agree : (k : Kind) (ms ns : Named) → ((os : Named) → (named_alike ms os && are_named os ms) ≡ (named_alike ns os && are_named os ns)) → Agrees (thing k ms) (thing k ns)
things_agree k ms ns h (thing l os) = ap (λ (b : Bool). same_kind k l && b) (h os)
things_agree k ms ns h _ = refl

-- of arrays of one order
items_agree : (u v : Bool) (xs ys : Normals) → NeatAll xs → NeatAll ys → alike (items u xs) (items v ys) ≡ true → (all_alike xs ys ≡ true → (zs : Normals) → all_alike xs zs ≡ all_alike ys zs) → EachAgrees xs → Agrees (items u xs) (items v ys)
items_agree false false xs ys nx ny e h agree = lists_agree xs ys (h e)
items_agree false true xs ys nx ny e h agree = absurd (true≢false (sym e))
items_agree true false xs ys nx ny e h agree = absurd (true≢false (sym e))
items_agree true true xs ys nx ny e h agree = unordered_agree xs ys (bags_agree xs ys nx ny agree (each-refl xs nx) e)

objects_of_kind_agree : (k l : Kind) (ms ns : Named) → NeatNamed [] ms → NeatNamed [] ns → alike (thing k ms) (thing l ns) ≡ true → FoundAgree ms → Agrees (thing k ms) (thing l ns)
objects_of_kind_agree k l ms ns nm nn e found =
    let inside = named_alike ms ns && are_named ns ms in
    subst (λ (i : Kind). Agrees (thing k ms) (thing i ns)) (kind_is k l (first_so (same_kind k l) inside e))
    (things_agree k ms ns (objects_agree ms ns nm nn (second_so (same_kind k l) inside e) found))

mutual
  agrees : (x y : Normal) → Neat x → Neat y → alike x y ≡ true → Agrees x y
  agrees nothing y nx ny e = subst (Agrees nothing) (sym (is_nothing y e)) (λ z. refl)
  agrees (truth b) y nx ny e =
      let o = is_truth b y e in
      subst (Agrees (truth b)) (ap truth (truth_is b o.0 (subst (λ (w : Normal). alike (truth b) w ≡ true) o.1 e)) ∙ sym o.1) (λ z. refl)
  agrees (amount s) y nx ny e = let o = is_amount s y e in subst (Agrees (amount s)) (sym o.1) (amounts_agree s o.0 (subst (λ (w : Normal). alike (amount s) w ≡ true) o.1 e))
  agrees (words v) y nx ny e = let o = is_words v y e in subst (Agrees (words v)) (sym o.1) (words_agree v o.0 (subst (λ (w : Normal). alike (words v) w ≡ true) o.1 e))
  agrees (items u xs) y nx ny e =
      let o = is_items u xs y e in
      let my = subst Neat o.2 ny in
      subst (Agrees (items u xs)) (sym o.2)
      (items_agree u o.0 xs o.1 nx my (subst (λ (w : Normal). alike (items u xs) w ≡ true) o.2 e) (λ h. all_agree xs o.1 nx my h) (λ x z i n f. each_agrees xs nx x z i n f))
  agrees (thing k ms) y nx ny e =
      let o = is_thing k ms y e in
      subst (Agrees (thing k ms)) (sym o.2)
      (objects_of_kind_agree k o.0 ms o.1 nx (subst Neat o.2 ny) (subst (λ (w : Normal). alike (thing k ms) w ≡ true) o.2 e) (λ i x z f n g. found_agrees ms [] nx i x z f n g))

  all_agree : (xs ys : Normals) → NeatAll xs → NeatAll ys → all_alike xs ys ≡ true → (zs : Normals) → all_alike xs zs ≡ all_alike ys zs
  all_agree none ys nx ny e zs = subst (λ (w : Normals). all_alike none zs ≡ all_alike w zs) (sym (is_none ys e)) refl
  all_agree (more x xs) ys nx ny e none = let o = is_more x xs ys e in subst (λ (w : Normals). false ≡ all_alike w none) (sym o.2) refl
  all_agree (more x xs) ys nx ny e (more z zs) =
      let o = is_more x xs ys e in
      let my = subst NeatAll o.2 ny in
      let d = subst (λ (w : Normals). all_alike (more x xs) w ≡ true) o.2 e in
      let head = agrees x o.0 nx.0 my.0 (first_so (alike x o.0) (all_alike xs o.1) d) z in
      let tail = all_agree xs o.1 nx.1 my.1 (second_so (alike x o.0) (all_alike xs o.1) d) zs in
      subst (λ (w : Normals). all_alike (more x xs) (more z zs) ≡ all_alike w (more z zs)) (sym o.2)
      (ap (λ (b : Bool). b && all_alike xs zs) head ∙ ap (λ (b : Bool). alike o.0 z && b) tail)

  each_agrees : (xs : Normals) → NeatAll xs → EachAgrees xs
  each_agrees none nx x y i ny e = absurd i
  each_agrees (more w xs) nx x y (inl i) ny e = subst (λ (z : Normal). Agrees z y) (sym i) (agrees w y nx.0 ny (subst (λ (z : Normal). alike z y ≡ true) i e))
  each_agrees (more w xs) nx x y (inr i) ny e = each_agrees xs nx.1 x y i ny e

  -- of each that is found
  found_agrees : (ms : Named) (names : List (List ℕ)) → NeatNamed names ms → FoundAgree ms
  found_agrees unnamed names nx k x y f ny e = absurd (none_some x f)
  found_agrees (named i w ms) names nx k x y f ny e =
      found_case (bytes_eq i k) w x (find_named k ms) (λ (z : Normal). alike z y ≡ true → Agrees z y) f (agrees w y nx.1 ny) (λ g. found_agrees ms (i ∷ names) nx.2 k x y g ny) e

-- ---- statements

pub alike-sym : (x y : Normal) → Neat x → Neat y → alike x y ≡ true → alike y x ≡ true
alike-sym x y nx ny e = sym (agrees x y nx ny e x) ∙ alike-refl x nx

pub alike-trans : (x y z : Normal) → Neat x → Neat y → alike x y ≡ true → alike y z ≡ true → alike x z ≡ true
alike-trans x y z nx ny e f = agrees x y nx ny e z ∙ f

pub same_is_sameness : IsSameness
same_is_sameness = record {
  reflexive = λ j f. alike-refl (normal Statement j) (neat Statement j f);
  symmetric = λ j k f g e. alike-sym (normal Statement j) (normal Statement k) (neat Statement j f) (neat Statement k g) e;
  transitive = λ j k l f g e d. alike-trans (normal Statement j) (normal Statement k) (normal Statement l) (neat Statement j f) (neat Statement k g) e d;
}
