-- The members that fields are kept as tell what the fields hold.
use Rattle.std.proofs.Common.{◌≡◌, ℕ, List, [], ◌∷◌, ◌++◌, Option, Some, None, false, option_and_then, refl, sym, ap, ◌∙◌}
use Rattle.std.specs.Str.{bytes_eq}
use Rattle.cmi5_course.specs.Reasons.{reason_of}
use Rattle.cmi5_course.specs.Words.{mode_of}
use Rattle.lrs_agents.specs.Identifiers.{identifier_of}
use Rattle.lrs_fields.specs.Reading.{IsKeptValue}
use Rattle.lrs_fields.specs.Values.{Value, actor_value, agent_value, bytes_value, id_value, iri_value, number_value, text_value, tree_value, trees_value}
use Rattle.lrs_fields.specs.Values.{members_for, optional_field, value_json}
use Rattle.lrs_fields.proofs.Decoded.{read_actor, read_agent, read_bytes, read_id, read_iri, read_number, read_tree, read_trees}
use Rattle.lrs_fields.proofs.Decoding.{actor_in, bytes_in, id_in, iri_in, number_in, tree_in, trees_in}
use Rattle.lrs_fields.proofs.ManyTrees.{shallow_trees}
use Rattle.lrs_json.specs.Json.{Json}
use Rattle.lrs_json.specs.Parts.{text_in}
use Rattle.lrs_record.specs.Writes.{how_of}
use Rattle.lrs_record.proofs.WordReading.{how_value, mode_value, read_how, read_mode, read_reason, reason_value}
use Rattle.lrs_record.proofs.WriteReading.{AreKept, Fields, other}

-- ---- one value

-- What it is kept as tells it.
abbrev pub IsTold : {A : Type 0} → (A → Value) → Type 0
IsTold {A} value = (a b : A) → IsKeptValue value a → IsKeptValue value b → value_json (value a) ≡ value_json (value b) → a ≡ b

-- it can be read of that
told_by : {A : Type 0} (value : A → Value) (read : Json → Option A) → ((a : A) → IsKeptValue value a → read (value_json (value a)) ≡ Some a) → IsTold value
told_by value read again a b x y same = let twice : Some a ≡ Some b = sym (again a x) ∙ ap read same ∙ again b y in cc twice

pub text_told : IsTold text_value
text_told = told_by text_value text_in (λ text is. refl)

pub id_told : IsTold id_value
id_told = told_by id_value id_in (λ id is. read_id id is.0)

pub iri_told : IsTold iri_value
iri_told = told_by iri_value iri_in (λ iri is. read_iri iri is.0.1)

pub tree_told : IsTold tree_value
tree_told = told_by tree_value tree_in (λ tree is. read_tree tree is.1.1)

pub trees_told : IsTold trees_value
trees_told = told_by trees_value trees_in (λ trees is. read_trees trees (shallow_trees trees is.1))

pub agent_told : IsTold agent_value
agent_told = told_by agent_value identifier_of (λ agent is. read_agent agent)

pub actor_told : IsTold actor_value
actor_told = told_by actor_value actor_in (λ actor is. read_actor actor)

pub bytes_told : IsTold bytes_value
bytes_told = told_by bytes_value bytes_in (λ bytes is. read_bytes bytes is.0)

pub number_told : IsTold number_value
number_told = told_by number_value number_in (λ n is. read_number n is.0)

pub how_told : IsTold how_value
how_told = told_by how_value (λ json. option_and_then how_of (text_in json)) (λ h is. read_how h)

pub mode_told : IsTold mode_value
mode_told = told_by mode_value (λ json. option_and_then mode_of (text_in json)) (λ mode is. read_mode mode)

pub reason_told : IsTold reason_value
reason_told = told_by reason_value (λ json. option_and_then reason_of (text_in json)) (λ reason is. read_reason reason)

-- ---- fields one after the other

-- Their members tell what they hold.
abbrev pub AreTold : {A : Type 0} → (A → Fields) → Type 0
AreTold {A} fields = (a b : A) → AreKept (fields a) → AreKept (fields b) → members_for (fields a) ≡ members_for (fields b) → a ≡ b

first_same : (m n : List ℕ × Json) (ms ns : List (List ℕ × Json)) → m ∷ ms ≡ n ∷ ns → (m.1 ≡ n.1) × (ms ≡ ns)
first_same m n ms ns same = let first : m ≡ n = cc same in (ap (λ (member : List ℕ × Json). member.1) first, cc same)

pub names_apart : (m n : List ℕ × Json) (ms ns : List (List ℕ × Json)) → bytes_eq m.0 n.0 ≡ false → m ∷ ms ≡ n ∷ ns → ⊥
names_apart m n ms ns differ same = let first : m ≡ n = cc same in other m.0 n.0 differ (ap (λ (member : List ℕ × Json). member.0) first)

pub told_last : {A : Type 0} (name : List ℕ) (value : A → Value) → IsTold value → AreTold (λ a. (name, value a) ∷ [])
told_last name value told a b x y same = told a b (x.1.0, x.0.0) (y.1.0, y.0.0) (first_same _ _ _ _ same).0

pub told_next : {A B : Type 0} (name : List ℕ) (value : A → Value) (fields : B → Fields) → IsTold value → AreTold fields → AreTold (λ (p : A × B). (name, value p.0) ∷ fields p.1)
told_next name value fields first others p q x y same =
    let parts = first_same _ _ _ _ same in
    ap (λ a. (a, p.1)) (first p.0 q.0 (x.1.0, x.0.0) (y.1.0, y.0.0) parts.0) ∙ ap (λ b. (q.0, b)) (others p.1 q.1 (x.0.1, x.1.1) (y.0.1, y.1.1) parts.1)

-- The members of others don't begin with one of that name.
abbrev pub DoNotBegin : {B : Type 0} → List ℕ → (B → Fields) → Type 0
DoNotBegin {B} name fields = (b : B) (json : Json) (members : List (List ℕ × Json)) → members_for (fields b) ≡ (name, json) ∷ members → ⊥

both_maybe : {A B : Type 0} (name : List ℕ) (value : A → Value) (fields : B → Fields) → DoNotBegin name fields → IsTold value → AreTold fields → (o q : Option A) (b c : B)
    → AreKept (optional_field name value o ++ fields b) → AreKept (optional_field name value q ++ fields c)
    → members_for (optional_field name value o ++ fields b) ≡ members_for (optional_field name value q ++ fields c) → (o ≡ q) × (b ≡ c)
both_maybe name value fields apart first others None None b c x y same = (refl, others b c x y same)
both_maybe name value fields apart first others None (Some a) b c x y same = absurd (apart b _ _ same)
both_maybe name value fields apart first others (Some a) None b c x y same = absurd (apart c _ _ (sym same))
both_maybe name value fields apart first others (Some a) (Some e) b c x y same =
    let parts = first_same _ _ _ _ same in
    (ap Some (first a e (x.1.0, x.0.0) (y.1.0, y.0.0) parts.0), others b c (x.0.1, x.1.1) (y.0.1, y.1.1) parts.1)

pub told_maybe : {A B : Type 0} (name : List ℕ) (value : A → Value) (fields : B → Fields) → DoNotBegin name fields → IsTold value → AreTold fields → AreTold (λ (p : Option A × B). optional_field name value p.0 ++ fields p.1)
told_maybe name value fields apart first others p q x y same =
    let parts = both_maybe name value fields apart first others p.0 q.0 p.1 q.1 x y same in
    ap (λ a. (a, p.1)) parts.0 ∙ ap (λ b. (q.0, b)) parts.1

pub told_maybe_last : {A : Type 0} (name : List ℕ) (value : A → Value) → IsTold value → (o q : Option A) → AreKept (optional_field name value o) → AreKept (optional_field name value q)
    → members_for (optional_field name value o) ≡ members_for (optional_field name value q) → o ≡ q
told_maybe_last name value told None None x y same = refl
told_maybe_last name value told None (Some b) x y same = absurd (cc same)
told_maybe_last name value told (Some a) None x y same = absurd (cc same)
told_maybe_last name value told (Some a) (Some b) x y same = ap Some (told a b (x.1.0, x.0.0) (y.1.0, y.0.0) (first_same _ _ _ _ same).0)
