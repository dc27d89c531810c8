-- The order of keys: by what they are of, and then by state id.
use Rattle.std.proofs.Common.{◌≡◌, ◌⊎◌, ℕ, Bool, true, false, ◌&&◌, List, [], ◌∷◌, Option, Some, None, Ordering, Less, Equal, Greater, is_eq, is_le, refl, sym, ap, ◌∙◌, inl, inr, ⊎_elim, true≢false}
use Rattle.std.specs.Cmp.{IsTotalOrder, first_so, second_so}
use Rattle.std.specs.Cmp.Lexicographic.{slice_cmp, texts_ties, options_total}
use Rattle.std.specs.Option.{option_cmp}
use Rattle.std.specs.Ordering.{nat_cmp, ordering_then}
use Rattle.std.specs.Str.{bytes_eq}
use Rattle.std.proofs.lemmas.Cmp.{alike_right, eq_by_cmp_equiv, nat_list_cmp_total, on_total, then_total, tied_back}
use Rattle.std.proofs.lemmas.Map.Lookups.{CmpEqualImpliesEq}
use Rattle.lrs_agents.proofs.SameAgents.{same_bytes, same_ifis}
use Rattle.lrs_agents.specs.Identifiers.{same_ifi}
use Rattle.lrs_agents.specs.declared.identifiers.Ifi.{Ifi}
use Rattle.lrs_agents.specs.declared.identifiers.Ifi.TheVariants.{Mbox, MboxSha1, OpenId, Account}
use Rattle.lrs_agents.specs.contracts.identifiers.IfiOrd.TheImpl as ifi_ord
use Rattle.lrs_agents.specs.contracts.identifiers.IfiOrd.TheImpl.Laws as ifi_laws
use Rattle.xapi_docs.proofs.Walks.{StandTogether}
use Rattle.xapi_keys.specs.Keys.{is_of, is_same_key, key_cmp, same_registration}
use Rattle.xapi_keys.specs.contracts.state_key.StateKeyOrd.TheImpl.Laws as key_laws
use Rattle.xapi_keys.specs.declared.state_key.StateKey.{StateKey}

abbrev pub ids : List ℕ → List ℕ → Ordering
ids = slice_cmp nat_cmp

abbrev pub ifi_cmp : Ifi → Ifi → Ordering
ifi_cmp = (ifi_ord.ghosts).cmp

-- by activity, agent and registration
abbrev pub front_cmp : StateKey → StateKey → Ordering
front_cmp a b = ordering_then (ids a.activity b.activity) (ordering_then (ifi_cmp a.agent b.agent) (option_cmp ids a.registration b.registration))

then_assoc : (a b c : Ordering) → ordering_then a (ordering_then b c) ≡ ordering_then (ordering_then a b) c
then_assoc Less b c = refl
then_assoc Equal b c = refl
then_assoc Greater b c = refl

pub by_parts : (a b : StateKey) → key_cmp a b ≡ ordering_then (ids a.activity b.activity) (ordering_then (ifi_cmp a.agent b.agent) (ordering_then (option_cmp ids a.registration b.registration) (ids a.state b.state)))
by_parts a b = refl

eq_both : (a b : Ordering) → is_eq (ordering_then a b) ≡ (is_eq a && is_eq b)
eq_both Less b = refl
eq_both Equal b = refl
eq_both Greater b = refl

ifi_tied : (a b : Ifi) → is_eq (ifi_cmp a b) ≡ same_ifi a b
ifi_tied (Mbox a) (Mbox b) = sym (texts_ties a b)
ifi_tied (Mbox a) (MboxSha1 b) = refl
ifi_tied (Mbox a) (OpenId b) = refl
ifi_tied (Mbox a) (Account h n) = refl
ifi_tied (MboxSha1 a) (Mbox b) = refl
ifi_tied (MboxSha1 a) (MboxSha1 b) = sym (texts_ties a b)
ifi_tied (MboxSha1 a) (OpenId b) = refl
ifi_tied (MboxSha1 a) (Account h n) = refl
ifi_tied (OpenId a) (Mbox b) = refl
ifi_tied (OpenId a) (MboxSha1 b) = refl
ifi_tied (OpenId a) (OpenId b) = sym (texts_ties a b)
ifi_tied (OpenId a) (Account h n) = refl
ifi_tied (Account h n) (Mbox b) = refl
ifi_tied (Account h n) (MboxSha1 b) = refl
ifi_tied (Account h n) (OpenId b) = refl
ifi_tied (Account h n) (Account g m) = eq_both (ids h g) (ids n m) ∙ ap (λ b. b && is_eq (ids n m)) (sym (texts_ties h g)) ∙ ap (λ b. bytes_eq h g && b) (sym (texts_ties n m))

registration_tied : (a b : Option (List ℕ)) → is_eq (option_cmp ids a b) ≡ same_registration a b
registration_tied None None = refl
registration_tied None (Some b) = refl
registration_tied (Some a) None = refl
registration_tied (Some a) (Some b) = sym (texts_ties a b)

and_assoc : (a b c : Bool) → (a && (b && c)) ≡ ((a && b) && c)
and_assoc true b c = refl
and_assoc false b c = refl

front_tied : (a b : StateKey) → is_eq (front_cmp a b) ≡ is_of b.activity b.agent b.registration a
front_tied a b =
    let activities = ids a.activity b.activity in
    let agents = ifi_cmp a.agent b.agent in
    let registrations = option_cmp ids a.registration b.registration in
    eq_both activities (ordering_then agents registrations)
    ∙ ap (λ t. is_eq activities && t) (eq_both agents registrations)
    ∙ and_assoc (is_eq activities) (is_eq agents) (is_eq registrations)
    ∙ ap (λ t. (t && is_eq agents) && is_eq registrations) (sym (texts_ties a.activity b.activity))
    ∙ ap (λ t. (bytes_eq a.activity b.activity && t) && is_eq registrations) (ifi_tied a.agent b.agent)
    ∙ ap (λ t. (bytes_eq a.activity b.activity && same_ifi a.agent b.agent) && t) (registration_tied a.registration b.registration)

pub by_front : (a b : StateKey) → key_cmp a b ≡ ordering_then (front_cmp a b) (ids a.state b.state)
by_front a b = by_parts a b ∙ regrouped (ids a.activity b.activity) (ifi_cmp a.agent b.agent) (option_cmp ids a.registration b.registration) (ids a.state b.state)
  where
    regrouped : (w x y z : Ordering) → ordering_then w (ordering_then x (ordering_then y z)) ≡ ordering_then (ordering_then w (ordering_then x y)) z
    regrouped w x y z = ap (λ t. ordering_then w t) (then_assoc x y z) ∙ then_assoc w (ordering_then x y) z

pub keys_tied : (a b : StateKey) → is_same_key a b ≡ (is_of b.activity b.agent b.registration a && bytes_eq a.state b.state)
keys_tied a b =
    ap is_eq (by_front a b) ∙ eq_both (front_cmp a b) (ids a.state b.state)
    ∙ ap (λ t. t && is_eq (ids a.state b.state)) (front_tied a b) ∙ ap (λ t. is_of b.activity b.agent b.registration a && t) (sym (texts_ties a.state b.state))

-- ---- keys that tie are one

same_registrations : (a b : Option (List ℕ)) → same_registration a b ≡ true → a ≡ b
same_registrations None None e = refl
same_registrations None (Some b) e = cc
same_registrations (Some a) None e = cc
same_registrations (Some a) (Some b) e = ap Some (same_bytes a b e)

pub keys_exact : CmpEqualImpliesEq key_cmp
keys_exact a b e =
    let both : (is_of b.activity b.agent b.registration a && bytes_eq a.state b.state) ≡ true = sym (keys_tied a b) ∙ ap is_eq e in
    let of : is_of b.activity b.agent b.registration a ≡ true = first_so (is_of b.activity b.agent b.registration a) (bytes_eq a.state b.state) both in
    let one = bytes_eq a.activity b.activity in
    let two = same_ifi a.agent b.agent in
    let three = same_registration a.registration b.registration in
    let front : (one && two) ≡ true = first_so (one && two) three of in
    let activity = same_bytes a.activity b.activity (first_so one two front) in
    let agent = same_ifis a.agent b.agent (second_so one two front) in
    let registration = same_registrations a.registration b.registration (second_so (one && two) three of) in
    let state = same_bytes a.state b.state (second_so (is_of b.activity b.agent b.registration a) (bytes_eq a.state b.state) both) in
    λ i. record { activity = activity i; agent = agent i; registration = registration i; state = state i }

-- ---- the keys of an activity, an agent and a registration stand together

pub keys_total : IsTotalOrder key_cmp
keys_total = key_laws.total-law

fronts_total : IsTotalOrder front_cmp
fronts_total = then_total (on_total (λ (k : StateKey). k.activity) nat_list_cmp_total)
    (then_total (on_total (λ (k : StateKey). k.agent) ifi_laws.total-law) (on_total (λ (k : StateKey). k.registration) (options_total nat_list_cmp_total)))

-- the least key of them
abbrev pub first_of : List ℕ → Ifi → Option (List ℕ) → StateKey
first_of activity agent registration = record { activity = activity; agent = agent; registration = registration; state = [] }

ties_back : {R : StateKey → StateKey → Ordering} (o : IsTotalOrder R) (a b : StateKey) → is_eq (R a b) ≡ is_eq (R b a)
ties_back o a b = (eq_by_cmp_equiv o).symm a b

tied : (r : Ordering) → is_eq r ≡ true → r ≡ Equal
tied Less e = cc
tied Equal e = refl
tied Greater e = cc

within : (xs : List ℕ) → (is_le (ids [] xs) && true) ≡ true
within [] = refl
within (x ∷ xs) = refl

below : (r s : Ordering) → (is_le (ordering_then r s) && true) ≡ true → is_eq r ≡ false → r ≡ Less
below Less s e off = refl
below Equal s e off = absurd (true≢false off)
below Greater s e off = absurd (true≢false (sym e))

not_above : (r s : Ordering) → ordering_then r s ≡ Less → (r ≡ Less) ⊎ (r ≡ Equal)
not_above Less s e = inl refl
not_above Equal s e = inr refl
not_above Greater s e = absurd (let bad : Greater ≡ Less = e in cc)

pub together : (activity : List ℕ) (agent : Ifi) (registration : Option (List ℕ)) → StandTogether key_cmp (first_of activity agent registration) (is_of activity agent registration)
together activity agent registration =
    let first = first_of activity agent registration in
    record {
      least = λ q is.
          let same : front_cmp first q ≡ Equal = tied_back fronts_total q first (tied (front_cmp q first) (front_tied q first ∙ is)) in
          ap (λ r. is_le r && true) (by_front first q ∙ ap (λ r. ordering_then r (ids [] q.state)) same) ∙ within q.state;
      later = λ q r from off less.
          let apart : is_eq (front_cmp first q) ≡ false = ties_back fronts_total first q ∙ front_tied q first ∙ off in
          let low : front_cmp first q ≡ Less = below (front_cmp first q) (ids [] q.state) (sym (ap (λ o. is_le o && true) (by_front first q)) ∙ from) apart in
          let lower : front_cmp first r ≡ Less = ⊎_elim
          (λ l. fronts_total.trans first q r low l)
          (λ e. sym (alike_right fronts_total q r first e) ∙ low)
          (not_above (front_cmp q r) (ids q.state r.state) (sym (by_front q r) ∙ less)) in
          sym (front_tied r first) ∙ ties_back fronts_total r first ∙ ap is_eq lower;
    }

-- among them the state ids decide
pub states_less : (activity : List ℕ) (agent : Ifi) (registration : Option (List ℕ)) (k r : StateKey) → is_of activity agent registration k ≡ true → is_of activity agent registration r ≡ true
    → key_cmp k r ≡ Less → ids k.state r.state ≡ Less
states_less activity agent registration k r of_k of_r less =
    let first = first_of activity agent registration in
    let same_k : front_cmp k first ≡ Equal = tied (front_cmp k first) (front_tied k first ∙ of_k) in
    let same_r : front_cmp r first ≡ Equal = tied (front_cmp r first) (front_tied r first ∙ of_r) in
    let same : front_cmp k r ≡ Equal = fronts_total.congr k first r same_k ∙ tied_back fronts_total r first same_r in
    sym (by_front k r ∙ ap (λ o. ordering_then o (ids k.state r.state)) same) ∙ less
