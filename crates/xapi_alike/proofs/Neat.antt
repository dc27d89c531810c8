-- Normal forms in which no object repeats a name.
use Rattle.std.proofs.Common.{◌≡◌, ℕ, List, [], ◌∷◌, Bool, true, false, Option, Some, None, if◌then◌else◌, ap, ◌∙◌, subst}
use Rattle.std.proofs.lemmas.Bool.{or_from, or_parts}
use Rattle.std.proofs.lemmas.Cmp.{nat_list_eq_equiv}
use Rattle.std.specs.Str.{bytes_eq}
use Rattle.lrs_json.specs.Json.{Json, null, boolean, number, string, array, object, Elements, no_elements, element, Members, no_members, member}
use Rattle.lrs_json.specs.Names.{is_among}
use Rattle.lrs_json.specs.Fits.{Fits, FitElements, FitMembers}
use Rattle.xapi_values.specs.Kinds.{kind_of}
use Rattle.xapi_alike.specs.declared.role.Role.{Role}
use Rattle.xapi_alike.specs.Roles.{is_passed_over, kind_at, role_of_object, role_of_member, role_of_item, is_plural}
use Rattle.xapi_alike.specs.Normal.{Normal, nothing, truth, amount, words, items, thing, Normals, none, more, Named, unnamed, named, normal, normal_items, normal_members}

abbrev mutual
  pub Neat : Normal → Type 0
  Neat nothing = Unit {0}
  Neat (truth b) = Unit {0}
  Neat (amount s) = Unit {0}
  Neat (words v) = Unit {0}
  Neat (items u xs) = NeatAll xs
  Neat (thing k ms) = NeatNamed [] ms

  pub NeatAll : Normals → Type 0
  NeatAll none = Unit {0}
  NeatAll (more x xs) = Neat x × NeatAll xs

  -- after members of these names
  pub NeatNamed : List (List ℕ) → Named → Type 0
  NeatNamed names unnamed = Unit {0}
  NeatNamed names (named k x ms) = (is_among k names ≡ false) × Neat x × NeatNamed (k ∷ names) ms

-- no name of the fewer is new
abbrev Covers : List (List ℕ) → List (List ℕ) → Type 0
Covers names fewer = (k : List ℕ) → is_among k names ≡ false → is_among k fewer ≡ false

covers_more : (n : List ℕ) (names fewer : List (List ℕ)) → Covers names fewer → Covers (n ∷ names) (n ∷ fewer)
covers_more n names fewer covers k e =
    or_from (bytes_eq k n) (is_among k fewer) (or_parts (bytes_eq k n) (is_among k names) e).0 (covers k (or_parts (bytes_eq k n) (is_among k names) e).1)

behind_fewer : (names fewer : List (List ℕ)) (ms : Named) → Covers names fewer → NeatNamed names ms → NeatNamed fewer ms
behind_fewer names fewer unnamed covers n = tt
behind_fewer names fewer (named k x ms) covers n = (covers k n.0, n.1, behind_fewer (k ∷ names) (k ∷ fewer) ms (covers_more k names fewer covers) n.2)

pub neat_alone : (b : Bool) (x : Normal) → Neat x → Neat (if b then items false (more x none) else x)
neat_alone true x n = (n, tt)
neat_alone false x n = n

pub neat_member : (b : Bool) (k : List ℕ) (names : List (List ℕ)) (x : Normal) (ms : Named) → is_among k names ≡ false → Neat x → NeatNamed (k ∷ names) ms → NeatNamed names (if b then ms else named k x ms)
neat_member true k names x ms e n ns = behind_fewer (k ∷ names) names ms (λ i h. (or_parts (bytes_eq i k) (is_among i names) h).1) ns
neat_member false k names x ms e n ns = (e, n, ns)

mutual
  pub neat : (p : Role) (j : Json) → Fits j → Neat (normal p j)
  neat p null f = tt
  neat p (boolean b) f = tt
  neat p (number s) f = tt
  neat p (string s) f = tt
  neat p (array js) f = neat_items (role_of_item p) js f
  neat p (object ms) f =
      let kind = kind_at p (kind_of (object ms)) in
      neat_alone (is_plural p) (thing kind (normal_members (role_of_object p kind) ms)) (neat_members (role_of_object p kind) ms [] f)

  neat_items : (p : Role) (js : Elements) → FitElements js → NeatAll (normal_items p js)
  neat_items p no_elements f = tt
  neat_items p (element j js) f = (neat p j f.0, neat_items p js f.1)

  neat_members : (p : Role) (ms : Members) (names : List (List ℕ)) → FitMembers names ms → NeatNamed names (normal_members p ms)
  neat_members p no_members names f = tt
  neat_members p (member k j ms) names f =
      neat_member (is_passed_over p k) k names (normal (role_of_member p k) j) (normal_members p ms) f.1 (neat (role_of_member p k) j f.2) (neat_members p ms (k ∷ names) f.3)

-- ---- looking up

-- the first of that name
abbrev pub find_named : List ℕ → Named → Option Normal
find_named name unnamed = None
find_named name (named k x ms) = if bytes_eq k name then Some x else find_named name ms

found_at : (t : Bool) (x : Normal) (rest : Option Normal) → t ≡ true → (if t then Some x else rest) ≡ Some x
found_at t x rest e = ap (λ b. if b then Some x else rest) e

passed : (t : Bool) (x : Normal) (rest : Option Normal) → t ≡ false → (if t then Some x else rest) ≡ rest
passed t x rest e = ap (λ b. if b then Some x else rest) e

-- What is looked up in the whole, of a name not yet seen, is found in what is left.
abbrev pub Leads : List (List ℕ) → Named → Named → Type 0
Leads names whole ms = (k : List ℕ) → is_among k names ≡ false → find_named k whole ≡ find_named k ms

pub leads_on : (names : List (List ℕ)) (whole ms : Named) (n : List ℕ) (x : Normal) → Leads names whole (named n x ms) → Leads (n ∷ names) whole ms
leads_on names whole ms n x leads k e =
    leads k (or_parts (bytes_eq k n) (is_among k names) e).1
    ∙ passed (bytes_eq n k) x (find_named k ms) (nat_list_eq_equiv.symm n k ∙ (or_parts (bytes_eq k n) (is_among k names) e).0)

pub leads_first : (names : List (List ℕ)) (whole ms : Named) (n : List ℕ) (x : Normal) → Leads names whole (named n x ms) → is_among n names ≡ false → find_named n whole ≡ Some x
leads_first names whole ms n x leads new = leads n new ∙ found_at (bytes_eq n n) x (find_named n ms) (nat_list_eq_equiv.refl n)

pub some_same : (x y : Normal) → Some x ≡ Some y → x ≡ y
some_same x y e = cc e

pub none_some : (x : Normal) → ◌≡◌ {A = Option Normal} None (Some x) → ⊥
none_some x e = cc e

pub found_case : (t : Bool) (w x : Normal) (rest : Option Normal) (P : Normal → Type 0) → (if t then Some w else rest) ≡ Some x → P w → (rest ≡ Some x → P x) → P x
found_case true w x rest P e p q = subst P (some_same w x e) p
found_case false w x rest P e p q = q e

-- what is found is neat
pub neat_found : (ms : Named) (names : List (List ℕ)) (k : List ℕ) (x : Normal) → NeatNamed names ms → find_named k ms ≡ Some x → Neat x
neat_found unnamed names k x n e = absurd (none_some x e)
neat_found (named i w ms) names k x n e = found_case (bytes_eq i k) w x (find_named k ms) Neat e n.1 (neat_found ms (i ∷ names) k x n.2)
