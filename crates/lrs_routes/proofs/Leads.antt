-- The route that the router finds is the one that the path fits.
use Rattle.std.proofs.Common.{◌≡◌, ◌⊎◌, ℕ, Bool, true, false, List, [], ◌∷◌, ◌++◌, length, map, Option, Some, None, refl, sym, ap, ◌∙◌, subst, inl, inr, arith}
use Rattle.std.specs.Prelude.{◌==◌, ltb, ◌&&◌, ◌||◌, not, slice_index, drop, if◌then◌else◌}
use Rattle.std.specs.Str.{bytes_eq}
use Rattle.std.proofs.lemmas.Bool.{cases_Bool, false≢true, and_parts}
use Rattle.std.proofs.lemmas.Bool.Decides.{nat_tests}
use Rattle.std.proofs.lemmas.Slice.Eq.{bytes_eq-Decides}
use Rattle.matchit.specs.Rows.{param_token}
use Rattle.matchit.specs.Router.{RouteOf}
use Rattle.matchit.specs.Seek.{first, has_slash}
use Rattle.lrs_routes.specs.Paths.{Fits, IsPart}
use Rattle.lrs_routes.specs.Table.{patterns, row_of, routes}
use Rattle.lrs_routes.specs.declared.table.Route.{Route}
use Rattle.lrs_routes.specs.declared.table.Route.TheVariants as route
use Rattle.lrs_routes.proofs.Filling.{Rows, key}
use Rattle.lrs_routes.proofs.Neat.{Has, Neat}
use Rattle.lrs_routes.proofs.Sound.{sound}
use Rattle.lrs_routes.proofs.Complete.{AllNeat, complete, slash_parts}

-- ---- rows with a value each

has_key : (rs : Rows) (t : List ℕ) (e : RouteOf Route) → Has rs t e → Has (map key rs) t e.value
has_key [] t e h = absurd h
has_key (row ∷ rs) t e h = elim h [
  | inl here ↦ inl (here.0, ap (λ (r : RouteOf Route). r.value) here.1)
  | inr later ↦ inr (has_key rs t e later)
]

key_has : (rs : Rows) (t : List ℕ) (k : Route) → Has (map key rs) t k → (e : RouteOf Route) × Has rs t e
key_has [] t k h = absurd h
key_has (row ∷ rs) t k h = elim h [
  | inl here ↦ (row.1, inl (here.0, refl))
  | inr later ↦ let more = key_has rs t k later in (more.0, inr more.1)
]

-- ---- the table

-- a pattern of the table is that of its route
pattern_is : (ks : List Route) (t : List ℕ) (k : Route) → Has (map (λ (r : Route). ((row_of r).pattern, r)) ks) t k → (row_of k).pattern ≡ t
pattern_is [] t k h = absurd h
pattern_is (r ∷ ks) t k h = elim h [
  | inl here ↦ ap (λ (x : Route). (row_of x).pattern) (sym here.1) ∙ here.0
  | inr later ↦ pattern_is ks t k later
]

-- the first of these routes that has this pattern
abbrev with_pattern : List ℕ → List Route → Option Route
with_pattern t [] = None
with_pattern t (r ∷ ks) = if bytes_eq (row_of r).pattern t then Some r else with_pattern t ks

has_found : (ks : List Route) (t : List ℕ) (k : Route) → with_pattern t ks ≡ Some k → Has (map (λ (r : Route). ((row_of r).pattern, r)) ks) t k
has_found [] t k is = cc is
has_found (r ∷ ks) t k is = by_test (bytes_eq (row_of r).pattern t) refl is (λ later. has_found ks t k later)
  where
    by_test : (b : Bool) → bytes_eq (row_of r).pattern t ≡ b → (if b then Some r else with_pattern t ks) ≡ Some k
        → (with_pattern t ks ≡ Some k → Has (map (λ (r : Route). ((row_of r).pattern, r)) ks) t k) → Has (map (λ (r : Route). ((row_of r).pattern, r)) (r ∷ ks)) t k
    by_test true same is more = inl ((bytes_eq-Decides (row_of r).pattern t).0 same, cc is)
    by_test false other is more = inr (more is)

-- each route is in the table, wherever it stands there
in_table : (k : Route) → Has patterns (row_of k).pattern k
in_table route.Providers = has_found routes (row_of route.Providers).pattern route.Providers refl
in_table route.Courses = has_found routes (row_of route.Courses).pattern route.Courses refl
in_table route.Launches = has_found routes (row_of route.Launches).pattern route.Launches refl
in_table route.Waive = has_found routes (row_of route.Waive).pattern route.Waive refl
in_table route.Registration = has_found routes (row_of route.Registration).pattern route.Registration refl
in_table route.Registrations = has_found routes (row_of route.Registrations).pattern route.Registrations refl
in_table route.Abandon = has_found routes (row_of route.Abandon).pattern route.Abandon refl
in_table route.Sweep = has_found routes (row_of route.Sweep).pattern route.Sweep refl
in_table route.Fetch = has_found routes (row_of route.Fetch).pattern route.Fetch refl
in_table route.About = has_found routes (row_of route.About).pattern route.About refl
in_table route.ActivityProfiles = has_found routes (row_of route.ActivityProfiles).pattern route.ActivityProfiles refl
in_table route.States = has_found routes (row_of route.States).pattern route.States refl
in_table route.AgentProfiles = has_found routes (row_of route.AgentProfiles).pattern route.AgentProfiles refl
in_table route.MoreStatements = has_found routes (row_of route.MoreStatements).pattern route.MoreStatements refl
in_table route.Statements = has_found routes (row_of route.Statements).pattern route.Statements refl

abbrev ends_part : List ℕ → Bool
ends_part [] = true
ends_part (x ∷ t) = x == 47

abbrev is_neat : List ℕ → Bool
is_neat [] = true
is_neat (x ∷ t) = (not (x == 256) || ends_part t) && (not (x == 257) && is_neat t)

part_ends : (t : List ℕ) → ends_part t ≡ true → (t ≡ []) ⊎ ((r : List ℕ) × (t ≡ 47 ∷ r))
part_ends [] e = inl refl
part_ends (x ∷ t) e = let slash : x ≡ 47 = grind (arith, nat_tests, e) in inr (t, ap (λ (y : ℕ). y ∷ t) slash)

neat_from : (t : List ℕ) → is_neat t ≡ true → Neat t
neat_from [] e = tt
neat_from (x ∷ t) e =
    let parts = and_parts (not (x == 256) || ends_part t) (not (x == 257) && is_neat t) e in
    let more = and_parts (not (x == 257)) (is_neat t) parts.1 in
    (λ is. part_ends t (grind (arith, nat_tests, parts.0, is)), λ is. grind (arith, nat_tests, more.0, is), neat_from t more.1)

neat_route : (k : Route) → Neat (row_of k).pattern
neat_route route.Providers = neat_from (row_of route.Providers).pattern refl
neat_route route.Courses = neat_from (row_of route.Courses).pattern refl
neat_route route.Launches = neat_from (row_of route.Launches).pattern refl
neat_route route.Waive = neat_from (row_of route.Waive).pattern refl
neat_route route.Registration = neat_from (row_of route.Registration).pattern refl
neat_route route.Registrations = neat_from (row_of route.Registrations).pattern refl
neat_route route.Abandon = neat_from (row_of route.Abandon).pattern refl
neat_route route.Sweep = neat_from (row_of route.Sweep).pattern refl
neat_route route.Fetch = neat_from (row_of route.Fetch).pattern refl
neat_route route.About = neat_from (row_of route.About).pattern refl
neat_route route.ActivityProfiles = neat_from (row_of route.ActivityProfiles).pattern refl
neat_route route.States = neat_from (row_of route.States).pattern refl
neat_route route.AgentProfiles = neat_from (row_of route.AgentProfiles).pattern refl
neat_route route.MoreStatements = neat_from (row_of route.MoreStatements).pattern refl
neat_route route.Statements = neat_from (row_of route.Statements).pattern refl

all_neat : (rs : Rows) → map key rs ≡ patterns → AllNeat rs
all_neat rs whole t e h =
    let known = pattern_is routes t e.value (subst (λ (ps : List (List ℕ × Route)). Has ps t e.value) whole (has_key rs t e h)) in
    subst Neat known (neat_route e.value)

-- ---- what the router answers

pub found_fits : (rs : Rows) (path : List ℕ) (e : RouteOf Route) → map key rs ≡ patterns → first rs path ≡ Some e → Fits (row_of e.value).pattern path
found_fits rs path e whole found =
    let row = sound rs path e found in
    let known = pattern_is routes row.0 e.value (subst (λ (ps : List (List ℕ × Route)). Has ps row.0 e.value) whole (has_key rs row.0 e row.1)) in
    subst (λ (t : List ℕ). Fits t path) (sym known) row.2

pub missing_fits : (rs : Rows) (path : List ℕ) → map key rs ≡ patterns → first rs path ≡ None → (k : Route) → Fits (row_of k).pattern path → ⊥
missing_fits rs path whole none k fits =
    let row = key_has rs (row_of k).pattern k (subst (λ (ps : List (List ℕ × Route)). Has ps (row_of k).pattern k) (sym whole) (in_table k)) in
    let found = complete rs path (row_of k).pattern row.0 (all_neat rs whole) row.1 fits in
    cc (sym none ∙ found.1)

-- ---- no path fits two routes

abbrev is_byte : ℕ → Bool
is_byte x = ltb x 256

-- patterns that differ in a byte, behind bytes and parameters alone
abbrev apart : List ℕ → List ℕ → Bool
apart [] [] = false
apart [] (y ∷ q) = is_byte y
apart (x ∷ p) [] = is_byte x
apart (x ∷ p) (y ∷ q) =
    if is_byte x then (is_byte y && (not (x == y) || apart p q))
    else (x == 256 && (y == 256 && (ends_part p && (ends_part q && apart p q))))

byte_first : (x : ℕ) (p path : List ℕ) → is_byte x ≡ true → Fits (x ∷ p) path → (rest : List ℕ) × (path ≡ x ∷ rest) × Fits p rest
byte_first x p path byte f = elim f [
  | inl here ↦ here
  | inr other ↦ elim other [
    | inl param ↦ let is = param.0 in absurd (grind (arith, nat_tests, byte, is))
    | inr all ↦ let is = all.0 in absurd (grind (arith, nat_tests, byte, is))
  ]
]

not_empty : (x : ℕ) (rest : List ℕ) → [] ≡ x ∷ rest → ⊥
not_empty x rest e = let bad : 0 ≡ length (x ∷ rest) = ap (λ (xs : List ℕ). length xs) e in omega arith

-- what a parameter takes
param_first : (x : ℕ) (p path : List ℕ) → x ≡ param_token → Fits (x ∷ p) path → (part : List ℕ) × (rest : List ℕ) × (path ≡ part ++ rest) × IsPart part × Fits p rest
param_first x p path is f = elim f [
  | inl byte ↦
      let clean : (x == 47) ≡ false = grind (arith, nat_tests, is) in
      (x ∷ [], byte.0, byte.1, (omega arith, rw clean refl), byte.2)
  | inr other ↦ elim other [
    | inl param ↦ param.1
    | inr all ↦ let end = all.0 in absurd (omega (arith, is, end))
  ]
]

-- what follows a part: nothing, or a slash first
abbrev IsRest : List ℕ → Type 0
IsRest rest = (rest ≡ []) ⊎ ((r : List ℕ) × (rest ≡ 47 ∷ r))

rest_is : (p rest : List ℕ) → ends_part p ≡ true → Fits p rest → IsRest rest
rest_is [] rest e f = inl f
rest_is (x ∷ p) rest e f =
    let slash : x ≡ 47 = grind (arith, nat_tests, e) in
    let byte : is_byte x ≡ true = grind (arith, nat_tests, slash) in
    let h = byte_first x p rest byte f in
    inr (h.0, h.1 ∙ ap (λ (y : ℕ). y ∷ h.0) slash)

no_slash_first : (y : ℕ) (part rest r : List ℕ) → has_slash (y ∷ part) ≡ false → IsRest r → r ≡ y ∷ rest → ⊥
no_slash_first y part rest r clean f e = elim f [
  | inl none ↦ not_empty y rest (sym none ∙ e)
  | inr slash ↦
      let other : (y == 47) ≡ false = (slash_parts y part clean).0 in
      let same : y ≡ 47 = ap (λ (xs : List ℕ). slice_index xs 0) (sym e ∙ slash.1) in
      absurd (grind (arith, nat_tests, other, same))
]

-- a path's part ends at the first slash
one_rest : (a b r s : List ℕ) → has_slash a ≡ false → has_slash b ≡ false → IsRest r → IsRest s → a ++ r ≡ b ++ s → r ≡ s
one_rest [] [] r s c d f g e = e
one_rest [] (y ∷ b) r s c d f g e = absurd (no_slash_first y b (b ++ s) r d f e)
one_rest (x ∷ a) [] r s c d f g e = absurd (no_slash_first x a (a ++ r) s c g (sym e))
one_rest (x ∷ a) (y ∷ b) r s c d f g e =
    one_rest a b r s (slash_parts x a c).1 (slash_parts y b d).1 f g (ap (λ (xs : List ℕ). drop 1 xs) e)

none_fits : (p q path : List ℕ) → apart p q ≡ true → Fits p path → Fits q path → ⊥
none_fits [] [] path e f g = false≢true e
none_fits [] (y ∷ q) path e f g = let h = byte_first y q path e g in not_empty y h.0 (sym f ∙ h.1)
none_fits (x ∷ p) [] path e f g = let h = byte_first x p path e f in not_empty x h.0 (sym g ∙ h.1)
none_fits (x ∷ p) (y ∷ q) path e f g = elim (cases_Bool (is_byte x)) [
  | inl byte ↦
      let known : (is_byte y && (not (x == y) || apart p q)) ≡ true = rw byte at e in
      let two = and_parts (is_byte y) (not (x == y) || apart p q) known in
      let h = byte_first x p path byte f in
      let i = byte_first y q path two.0 g in
      let heads : x ≡ y = ap (λ (xs : List ℕ). slice_index xs 0) (sym h.1 ∙ i.1) in
      let tails : h.0 ≡ i.0 = ap (λ (xs : List ℕ). drop 1 xs) (sym h.1 ∙ i.1) in
      let more : apart p q ≡ true = grind (arith, nat_tests, two.1, heads) in
      none_fits p q i.0 more (subst (λ (xs : List ℕ). Fits p xs) tails h.2) i.2
  | inr other ↦
      let known : (x == 256 && (y == 256 && (ends_part p && (ends_part q && apart p q)))) ≡ true = rw other at e in
      let one = and_parts (x == 256) (y == 256 && (ends_part p && (ends_part q && apart p q))) known in
      let two = and_parts (y == 256) (ends_part p && (ends_part q && apart p q)) one.1 in
      let three = and_parts (ends_part p) (ends_part q && apart p q) two.1 in
      let four = and_parts (ends_part q) (apart p q) three.1 in
      let front : x ≡ param_token = grind (arith, nat_tests, one.0) in
      let behind : y ≡ param_token = grind (arith, nat_tests, two.0) in
      let h = param_first x p path front f in
      let i = param_first y q path behind g in
      let tails : h.1 ≡ i.1 = one_rest h.0 i.0 h.1 i.1 h.3.1 i.3.1 (rest_is p h.1 three.0 h.4) (rest_is q i.1 four.0 i.4) (sym h.2 ∙ i.2) in
      none_fits p q i.1 four.1 (subst (λ (xs : List ℕ). Fits p xs) tails h.4) i.4
]

-- rows of which no two have a path that fits both
abbrev apart_from : List ℕ → List (List ℕ × Route) → Bool
apart_from p [] = true
apart_from p (row ∷ rows) = (apart p row.0 && apart row.0 p) && apart_from p rows

abbrev all_apart : List (List ℕ × Route) → Bool
all_apart [] = true
all_apart (row ∷ rows) = apart_from row.0 rows && all_apart rows

from_has : (p : List ℕ) (rows : List (List ℕ × Route)) (q : List ℕ) (b : Route) → apart_from p rows ≡ true → Has rows q b → (apart p q ≡ true) × (apart q p ≡ true)
from_has p [] q b e h = absurd h
from_has p (row ∷ rows) q b e h =
    let parts = and_parts (apart p row.0 && apart row.0 p) (apart_from p rows) e in
    let both = and_parts (apart p row.0) (apart row.0 p) parts.0 in
    elim h [
      | inl here ↦ (subst (λ (t : List ℕ). apart p t ≡ true) here.0 both.0, subst (λ (t : List ℕ). apart t p ≡ true) here.0 both.1)
      | inr later ↦ from_has p rows q b parts.1 later
    ]

one_row : (rows : List (List ℕ × Route)) (path p q : List ℕ) (a b : Route) → all_apart rows ≡ true → Has rows p a → Has rows q b → Fits p path → Fits q path → a ≡ b
one_row [] path p q a b e h k f g = absurd h
one_row (row ∷ rows) path p q a b e h k f g =
    let parts = and_parts (apart_from row.0 rows) (all_apart rows) e in
    elim h [
      | inl x ↦ elim k [
        | inl y ↦ sym x.1 ∙ y.1
        | inr y ↦ let differ = from_has row.0 rows q b parts.0 y in absurd (none_fits p q path (subst (λ (t : List ℕ). apart t q ≡ true) x.0 differ.0) f g)
      ]
      | inr x ↦ elim k [
        | inl y ↦ let differ = from_has row.0 rows p a parts.0 x in absurd (none_fits p q path (subst (λ (t : List ℕ). apart p t ≡ true) y.0 differ.1) f g)
        | inr y ↦ one_row rows path p q a b parts.1 x y f g
      ]
    ]

pub one_route : (path : List ℕ) (a b : Route) → Fits (row_of a).pattern path → Fits (row_of b).pattern path → a ≡ b
one_route path a b f g = one_row patterns path (row_of a).pattern (row_of b).pattern a b refl (in_table a) (in_table b) f g
