-- How the fields of a write are read one after the other, and the write of them.
use Rattle.std.proofs.Common.{◌≡◌, ℕ, List, [], ◌∷◌, ◌++◌, Bool, true, false, Result, Ok, Err, OnOk, Option, Some, None, IfSome, append-nil, append_assoc, refl, sym, ap, ◌∙◌, subst}
use Rattle.std.specs.List.{AllByRecursion}
use Rattle.std.specs.Str.{bytes_eq}
use Rattle.std.proofs.lemmas.Bool.{false≢true}
use Rattle.std.proofs.lemmas.Slice.Eq.{bytes_eq-Decides}
use Rattle.lrs_fields.specs.LrsDecimalNumbers.{Ends}
use Rattle.lrs_fields.specs.Reading.{IsKeptValue, IsMissing, MayFollowOptional, Reads, ReadsField, ReadsOptional, field_text, optional_text}
use Rattle.lrs_fields.specs.Values.{HoldsValue, IsLawfulValue, Value, members_for, optional_field, value_json}
use Rattle.lrs_fields.proofs.Differing.{differ_at}
use Rattle.lrs_fields.proofs.Sequences.{both_stand, both_text, made, mapped, paired, two}
use Rattle.lrs_json.specs.Json.{Json}
use Rattle.lrs_json.specs.Texts.{member_text, name_text}
use Rattle.lrs_json.specs.Written.{quoted, written}
use Rattle.lrs_json_reader.specs.declared.cursor.Stop.{Stop}
use Rattle.lrs_record.specs.Reading.{IsClosed, IsKeptWrite, ReadsWrite, open_fields, open_members}
use Rattle.lrs_record.specs.Writes.{write_fields, write_name}
use Rattle.lrs_record.specs.declared.entry.Write.{Write}

-- one more, where the first was read
pub both_ok : {A X Y Z : Type 0} (r : Result A Stop) → (X → Y → Z) → OnOk r X → OnOk r Y → OnOk r Z
both_ok (Ok a) f x y = f x y
both_ok (Err e) f x y = tt

-- ---- what follows fields

-- what follows a brace
closed_ends : (rest : List ℕ) → IsClosed rest → Ends rest
closed_ends [] is = absurd is
closed_ends (b ∷ rest) is = subst (λ (z : ℕ). Ends (z ∷ rest)) (sym is) refl

-- a brace isn't a comma
closed_apart : (front rest more : List ℕ) → IsClosed rest → rest ≡ 44 ∷ front ++ more → ⊥
closed_apart front [] more is same = absurd is
closed_apart front (b ∷ rest) more is same = differ_at (125 ∷ rest) (44 ∷ front ++ more) 0 refl (subst (λ (z : ℕ). z ∷ rest ≡ 44 ∷ front ++ more) is same)

-- a comma follows, or a brace
later_ends : (members : List (List ℕ × Json)) (rest : List ℕ) → IsClosed rest → Ends (open_members true members ++ rest)
later_ends [] rest is = closed_ends rest is
later_ends (member ∷ members) rest is = refl

-- another member follows that field, or a brace
pub closed_behind : (name rest : List ℕ) → IsClosed rest → MayFollowOptional (name_text true name) rest
closed_behind name rest is = (closed_ends rest is, λ more same. closed_apart (quoted name ++ 58 ∷ []) rest more is same)

-- ---- fields

abbrev pub Fields : Type 0
Fields = List (List ℕ × Value)

-- as a write is that may be kept
abbrev pub AreKept : Fields → Type 0
AreKept fields = AllByRecursion (λ field. IsLawfulValue field.1) fields × AllByRecursion (λ field. HoldsValue field.1) fields

abbrev pub fields_text : Bool → Fields → List ℕ
fields_text later fields = open_members later (members_for fields)

-- what has these fields, up to the brace that closes them
abbrev pub ReadsFields : {A : Type 0} → Bool → (A → Fields) → List ℕ → Result A Stop → List ℕ → Type 0
ReadsFields later fields old r new = Reads (λ a. fields_text later (fields a)) (λ a. AreKept (fields a)) IsClosed old r new

-- the same, said otherwise
pub seen : {A : Type 0} (t u : A → List ℕ) (P Q : A → Type 0) (F G : List ℕ → Type 0) (old new : List ℕ) (r : Result A Stop) → ((a : A) → P a → Q a) → ((a : A) → Q a → P a) → ((a : A) → u a ≡ t a)
    → ((rest : List ℕ) → G rest → F rest) → Reads t P F old r new → Reads u Q G old r new
seen t u P Q F G old new (Ok a) to from same follow reads =
    record {
      found = (to a reads.found.0, reads.found.1 ∙ ap (λ x. x ++ new) (sym (same a)));
      all = λ b rest is g whole. reads.all b rest (from b is) (follow rest g) (whole ∙ ap (λ x. x ++ rest) (same b));
    }
seen t u P Q F G old new (Err e) to from same follow reads =
    record { found = tt; all = λ b rest is g whole. reads.all b rest (from b is) (follow rest g) (whole ∙ ap (λ x. x ++ rest) (same b)) }

member_parts : (later : Bool) (name : List ℕ) (json : Json) → member_text later name json ≡ name_text later name ++ written json
member_parts later name json = simp append_assoc refl

alone : (later : Bool) (name : List ℕ) (json : Json) → member_text later name json ++ [] ≡ name_text later name ++ written json
alone later name json = append-nil (member_text later name json) ∙ member_parts later name json

-- the last field
pub last : {A : Type 0} (later : Bool) (name : List ℕ) (value : A → Value) (old new : List ℕ) (r : Result A Stop) → ReadsField (name_text later name) value old r new → ReadsFields later (λ a. (name, value a) ∷ []) old r new
last later name value old new r reads =
    seen (field_text (name_text later name) value) (λ a. fields_text later ((name, value a) ∷ [])) (IsKeptValue value) (λ a. AreKept ((name, value a) ∷ [])) Ends IsClosed old new r
    (λ a is. ((is.1, tt), (is.0, tt))) (λ a is. (is.1.0, is.0.0)) (λ a. alone later name (value_json (value a))) closed_ends reads

-- a field before others
pub next : {A B : Type 0} (later : Bool) (name : List ℕ) (value : A → Value) (fields : B → Fields) (old mid new : List ℕ) (r : Result A Stop) (s : Result B Stop)
    → ReadsField (name_text later name) value old r mid → OnOk r (ReadsFields true fields mid s new) → ReadsFields later (λ p. (name, value p.0) ∷ fields p.1) old (paired r s) new
next later name value fields old mid new r s first second =
    seen (both_text (field_text (name_text later name) value) (λ b. fields_text true (fields b))) (λ p. fields_text later ((name, value p.0) ∷ fields p.1))
    (both_stand (IsKeptValue value) (λ b. AreKept (fields b))) (λ p. AreKept ((name, value p.0) ∷ fields p.1)) IsClosed IsClosed old new (paired r s)
    (λ p is. ((is.0.1, is.1.0), (is.0.0, is.1.1))) (λ p is. ((is.1.0, is.0.0), (is.0.1, is.1.1)))
    (λ p. ap (λ t. t ++ fields_text true (fields p.1)) (member_parts later name (value_json (value p.0)))) (λ rest f. f)
    (two (field_text (name_text later name) value) (λ b. fields_text true (fields b)) (IsKeptValue value) (λ b. AreKept (fields b)) Ends IsClosed old mid new r s first second
    (λ b rest is f. later_ends (members_for (fields b)) rest f))

-- ---- a field that may be missing

optional_kept : {A : Type 0} (name : List ℕ) (value : A → Value) (fields : Fields) (o : Option A) → IfSome o (IsKeptValue value) × AreKept fields → AreKept (optional_field name value o ++ fields)
optional_kept name value fields None is = is.1
optional_kept name value fields (Some a) is = ((is.0.1, is.1.0), (is.0.0, is.1.1))

kept_optional : {A : Type 0} (name : List ℕ) (value : A → Value) (fields : Fields) (o : Option A) → AreKept (optional_field name value o ++ fields) → IfSome o (IsKeptValue value) × AreKept fields
kept_optional name value fields None is = (tt, is)
kept_optional name value fields (Some a) is = ((is.1.0, is.0.0), (is.0.1, is.1.1))

optional_parts : {A : Type 0} (name : List ℕ) (value : A → Value) (fields : Fields) (o : Option A)
    → fields_text true (optional_field name value o ++ fields) ≡ optional_text (name_text true name) value o ++ fields_text true fields
optional_parts name value fields None = refl
optional_parts name value fields (Some a) = ap (λ t. t ++ fields_text true fields) (member_parts true name (value_json (value a)))

-- before others, if their text doesn't begin with it
pub maybe : {A B : Type 0} (name : List ℕ) (value : A → Value) (fields : B → Fields) (old mid new : List ℕ) (r : Result (Option A) Stop) (s : Result B Stop)
    → ((b : B) (rest : List ℕ) → IsClosed rest → IsMissing (name_text true name) (fields_text true (fields b) ++ rest)) → ReadsOptional (name_text true name) value old r mid → OnOk r (ReadsFields true fields mid s new)
    → ReadsFields true (λ p. optional_field name value p.0 ++ fields p.1) old (paired r s) new
maybe name value fields old mid new r s apart first second =
    seen (both_text (optional_text (name_text true name) value) (λ b. fields_text true (fields b))) (λ p. fields_text true (optional_field name value p.0 ++ fields p.1))
    (both_stand (λ o. IfSome o (IsKeptValue value)) (λ b. AreKept (fields b))) (λ p. AreKept (optional_field name value p.0 ++ fields p.1)) IsClosed IsClosed old new (paired r s)
    (λ p is. optional_kept name value (fields p.1) p.0 is) (λ p is. kept_optional name value (fields p.1) p.0 is)
    (λ p. optional_parts name value (fields p.1) p.0) (λ rest f. f)
    (two (optional_text (name_text true name) value) (λ b. fields_text true (fields b)) (λ o. IfSome o (IsKeptValue value)) (λ b. AreKept (fields b)) (MayFollowOptional (name_text true name)) IsClosed
    old mid new r s first second (λ b rest is f. (later_ends (members_for (fields b)) rest f, apart b rest f)))

last_kept : {A : Type 0} (name : List ℕ) (value : A → Value) (o : Option A) → IfSome o (IsKeptValue value) → AreKept (optional_field name value o)
last_kept name value None is = (tt, tt)
last_kept name value (Some a) is = ((is.1, tt), (is.0, tt))

kept_last : {A : Type 0} (name : List ℕ) (value : A → Value) (o : Option A) → AreKept (optional_field name value o) → IfSome o (IsKeptValue value)
kept_last name value None is = tt
kept_last name value (Some a) is = (is.1.0, is.0.0)

last_parts : {A : Type 0} (name : List ℕ) (value : A → Value) (o : Option A) → fields_text true (optional_field name value o) ≡ optional_text (name_text true name) value o
last_parts name value None = refl
last_parts name value (Some a) = alone true name (value_json (value a))

-- the last field
pub maybe_last : {A : Type 0} (name : List ℕ) (value : A → Value) (old new : List ℕ) (r : Result (Option A) Stop) → ReadsOptional (name_text true name) value old r new → ReadsFields true (optional_field name value) old r new
maybe_last name value old new r reads =
    seen (optional_text (name_text true name) value) (λ o. fields_text true (optional_field name value o)) (λ o. IfSome o (IsKeptValue value)) (λ o. AreKept (optional_field name value o))
    (MayFollowOptional (name_text true name)) IsClosed old new r (last_kept name value) (kept_last name value) (last_parts name value) (closed_behind name) reads

-- ---- the write

abbrev IsNamed : List ℕ → Write → Type 0
IsNamed name w = (write_name w ≡ name) × IsKeptWrite w

-- two names that differ
pub other : (a b : List ℕ) → bytes_eq a b ≡ false → a ≡ b → ⊥
other a b differ same = false≢true (sym differ ∙ (bytes_eq-Decides a b).1 same)

-- each write of that name is made so
abbrev pub Only : {A : Type 0} → List ℕ → (A → Write) → Type 0
Only {A} name of = (w : Write) → write_name w ≡ name → (a : A) × (of a ≡ w)

pub write_read : {A : Type 0} (name : List ℕ) (of : A → Write) (old new : List ℕ) (r : Result A Stop) → ((a : A) → write_name (of a) ≡ name) → Only name of
    → ReadsFields false (λ a. write_fields (of a)) old r new → ReadsWrite name old (mapped of r) new
write_read name of old new r named only reads =
    made of (λ a. open_fields (of a)) open_fields (λ a. IsKeptWrite (of a)) (IsNamed name) IsClosed IsClosed old new r (λ a is. ((named a, is), refl))
    (λ w rest is whole. let own = only w is.0 in (own.0, subst IsKeptWrite (sym own.1) is.1, own.1)) (λ rest f. f) reads
