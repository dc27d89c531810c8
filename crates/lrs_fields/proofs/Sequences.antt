-- What is read one after the other, and what is made of it.
use Rattle.std.proofs.Common.{◌≡◌, ℕ, List, ◌++◌, Result, Ok, Err, IsErrAnd, OnOk, Option, Some, None, append_assoc, sym, ap, ◌∙◌, subst}
use Rattle.std.proofs.lemmas.List.{append_cancel_left}
use Rattle.lrs_fields.specs.Reading.{Reads, ReadsSpelling}
use Rattle.lrs_json_reader.specs.declared.cursor.Stop.{Stop}
use Rattle.lrs_json_reader.specs.declared.cursor.Stop.TheVariants.{Memory, Bad}

-- ---- results

abbrev pub mapped : {A B : Type 0} → (A → B) → Result A Stop → Result B Stop
mapped f (Ok a) = Ok (f a)
mapped f (Err e) = Err e

abbrev pub paired : {A B : Type 0} → Result A Stop → Result B Stop → Result (A × B) Stop
paired (Err e) s = Err e
paired (Ok a) (Err e) = Err e
paired (Ok a) (Ok b) = Ok (a, b)

-- what `?` hands on is what was read
pub failed : {A : Type 0} {text : A → List ℕ} {P : A → Type 0} {F : List ℕ → Type 0} {old new : List ℕ} {e : Stop} (r : Result A Stop) → IsErrAnd r (λ y. y ≡ e)
    → Reads text P F old (Err e) new → Reads text P F old r new
failed (Ok a) is reads = absurd is
failed {text = text} {P = P} {F = F} {old = old} {new = new} (Err y) is reads = subst (λ (z : Stop). Reads text P F old (Err z) new) (sym is) reads

-- from the same bytes
pub moved : {A : Type 0} (text : A → List ℕ) (P : A → Type 0) (F : List ℕ → Type 0) (own old new : List ℕ) (r : Result A Stop) → own ≡ old → Reads text P F own r new → Reads text P F old r new
moved text P F own old new r same reads = subst (λ z. Reads text P F z r new) same reads

-- ---- behind a word

abbrev pub behind : {A : Type 0} → List ℕ → (A → List ℕ) → A → List ℕ
behind front text a = front ++ text a

pub no_word : {A : Type 0} (front : List ℕ) (text : A → List ℕ) (P : A → Type 0) (F : List ℕ → Type 0) (old new : List ℕ) (e : Stop) → ((rest : List ℕ) → old ≡ front ++ rest → e ≡ Memory)
    → Reads (behind front text) P F old (Err e) new
no_word front text P F old new e never =
    record { found = tt; all = λ a rest is f whole. never (text a ++ rest) (whole ∙ append_assoc front (text a) rest) }

pub after_word : {A : Type 0} (front : List ℕ) (text : A → List ℕ) (P : A → Type 0) (F : List ℕ → Type 0) (old mid new : List ℕ) (r : Result A Stop) → old ≡ front ++ mid
    → ((rest : List ℕ) → old ≡ front ++ rest → mid ≡ rest) → Reads text P F mid r new → Reads (behind front text) P F old r new
after_word front text P F old mid new (Ok a) found only reads =
    record {
      found = (reads.found.0, found ∙ ap (λ m. front ++ m) reads.found.1 ∙ sym (append_assoc front (text a) new));
      all = λ b rest is f whole. reads.all b rest is f (only (text b ++ rest) (whole ∙ append_assoc front (text b) rest));
    }
after_word front text P F old mid new (Err e) found only reads =
    record { found = tt; all = λ b rest is f whole. reads.all b rest is f (only (text b ++ rest) (whole ∙ append_assoc front (text b) rest)) }

pub after_take : {A : Type 0} (front : List ℕ) (text : A → List ℕ) (P : A → Type 0) (F : List ℕ → Type 0) (old mid new : List ℕ) (r : Result A Stop) → old ≡ front ++ mid → Reads text P F mid r new
    → Reads (behind front text) P F old r new
after_take front text P F old mid new r took reads =
    after_word front text P F old mid new r took (λ rest whole. append_cancel_left front mid rest (sym took ∙ whole)) reads

-- before a word
abbrev pub before : {A : Type 0} → (A → List ℕ) → List ℕ → A → List ℕ
before text back a = text a ++ back

pub closed : {A : Type 0} (text : A → List ℕ) (back : List ℕ) (P : A → Type 0) (F G : List ℕ → Type 0) (old mid new : List ℕ) (a : A) → Reads text P F old (Ok a) mid
    → mid ≡ back ++ new → ((rest : List ℕ) → mid ≡ back ++ rest → new ≡ rest) → ((rest : List ℕ) → G rest → F (back ++ rest)) → Reads (before text back) P G old (Ok a) new
closed text back P F G old mid new a reads found only follow =
    record {
      found = (reads.found.0, reads.found.1 ∙ ap (λ m. text a ++ m) found ∙ sym (append_assoc (text a) back new));
      all = λ b rest is g whole.
          let own = reads.all b (back ++ rest) is (follow rest g) (whole ∙ append_assoc (text b) back rest) in
          (own.0, only rest own.1);
    }

pub not_begun : {A : Type 0} (text : A → List ℕ) (back : List ℕ) (P : A → Type 0) (F G : List ℕ → Type 0) (old new own : List ℕ) (e : Stop) → Reads text P F old (Err e) new
    → ((rest : List ℕ) → G rest → F (back ++ rest)) → Reads (before text back) P G old (Err e) own
not_begun text back P F G old new own e reads follow =
    record { found = tt; all = λ b rest is g whole. reads.all b (back ++ rest) is (follow rest g) (whole ∙ append_assoc (text b) back rest) }

pub not_closed : {A : Type 0} (text : A → List ℕ) (back : List ℕ) (P : A → Type 0) (F G : List ℕ → Type 0) (old mid new : List ℕ) (a : A) (e : Stop) → Reads text P F old (Ok a) mid
    → ((rest : List ℕ) → mid ≡ back ++ rest → e ≡ Memory) → ((rest : List ℕ) → G rest → F (back ++ rest)) → Reads (before text back) P G old (Err e) new
not_closed text back P F G old mid new a e reads never follow =
    record {
      found = tt;
      all = λ b rest is g whole.
          never rest (reads.all b (back ++ rest) is (follow rest g) (whole ∙ append_assoc (text b) back rest)).1;
    }

-- ---- two, one after the other

abbrev pub both_text : {A B : Type 0} → (A → List ℕ) → (B → List ℕ) → A × B → List ℕ
both_text t u p = t p.0 ++ u p.1

abbrev pub both_stand : {A B : Type 0} → (A → Type 0) → (B → Type 0) → A × B → Type 0
both_stand P Q p = P p.0 × Q p.1

pub two : {A B : Type 0} (t : A → List ℕ) (u : B → List ℕ) (P : A → Type 0) (Q : B → Type 0) (F G : List ℕ → Type 0) (old mid new : List ℕ) (r : Result A Stop) (s : Result B Stop)
    → Reads t P F old r mid → OnOk r (Reads u Q G mid s new) → ((b : B) (rest : List ℕ) → Q b → G rest → F (u b ++ rest)) → Reads (both_text t u) (both_stand P Q) G old (paired r s) new
two t u P Q F G old mid new (Err e) s first second follow =
    record { found = tt; all = λ p rest is g whole. first.all p.0 (u p.1 ++ rest) is.0 (follow p.1 rest is.1 g) (whole ∙ append_assoc (t p.0) (u p.1) rest) }
two t u P Q F G old mid new (Ok a) (Err e) first second follow =
    record {
      found = tt;
      all = λ p rest is g whole.
          let own = first.all p.0 (u p.1 ++ rest) is.0 (follow p.1 rest is.1 g) (whole ∙ append_assoc (t p.0) (u p.1) rest) in
          second.all p.1 rest is.1 g own.1;
    }
two t u P Q F G old mid new (Ok a) (Ok b) first second follow =
    record {
      found = ((first.found.0, second.found.0), first.found.1 ∙ ap (λ m. t a ++ m) second.found.1 ∙ sym (append_assoc (t a) (u b) new));
      all = λ p rest is g whole.
          let own = first.all p.0 (u p.1 ++ rest) is.0 (follow p.1 rest is.1 g) (whole ∙ append_assoc (t p.0) (u p.1) rest) in
          let more = second.all p.1 rest is.1 g own.1 in
          (ap (λ x. (x, b)) own.0 ∙ ap (λ y. (p.0, y)) more.0, more.1);
    }

-- ---- what is made of what was read

pub made : {A B : Type 0} (f : A → B) (t : A → List ℕ) (u : B → List ℕ) (P : A → Type 0) (Q : B → Type 0) (F G : List ℕ → Type 0) (old new : List ℕ) (r : Result A Stop)
    → ((a : A) → P a → Q (f a) × (u (f a) ≡ t a)) → ((b : B) (rest : List ℕ) → Q b → old ≡ u b ++ rest → (a : A) × P a × (f a ≡ b)) → ((rest : List ℕ) → G rest → F rest)
    → Reads t P F old r new → Reads u Q G old (mapped f r) new
made f t u P Q F G old new (Ok a) forward back follow reads =
    let way = forward a reads.found.0 in
    record {
      found = (way.0, reads.found.1 ∙ ap (λ x. x ++ new) (sym way.1));
      all = λ b rest is g whole.
          let own = back b rest is whole in
          let told = reads.all own.0 rest own.1 (follow rest g) (whole ∙ ap (λ x. x ++ rest) (ap u (sym own.2) ∙ (forward own.0 own.1).1)) in
          (ap f told.0 ∙ own.2, told.1);
    }
made f t u P Q F G old new (Err e) forward back follow reads =
    record {
      found = tt;
      all = λ b rest is g whole.
          let own = back b rest is whole in
          reads.all own.0 rest own.1 (follow rest g) (whole ∙ ap (λ x. x ++ rest) (ap u (sym own.2) ∙ (forward own.0 own.1).1));
    }

-- ---- spellings

-- a text is read of its spelling, if it is what is read of no other
pub same_spelled : {A : Type 0} (spelling : A → List ℕ) (P : A → Type 0) (read : List ℕ → Option A) (text : List ℕ) (a : A) → ((b : A) → P b → read (spelling b) ≡ Some b) → P a
    → text ≡ spelling a → ReadsSpelling spelling P text (Ok a)
same_spelled spelling P read text a back is told =
    record { found = (is, told); all = λ b may same. let twice : Some a ≡ Some b = sym (back a is) ∙ ap read (sym told ∙ same) ∙ back b may in cc twice }

pub other_spelled : {A : Type 0} (spelling : A → List ℕ) (P : A → Type 0) (read : List ℕ → Option A) (text : List ℕ) (a : A) → ((b : A) → P b → read (spelling b) ≡ Some b)
    → read text ≡ Some a → (text ≡ spelling a → ⊥) → ReadsSpelling spelling P text (Err Bad)
other_spelled spelling P read text a back is other =
    record {
      found = tt;
      all = λ b may same.
          let twice : Some a ≡ Some b = sym is ∙ ap read same ∙ back b may in
          let own : a ≡ b = cc twice in
          absurd (other (same ∙ ap spelling (sym own)));
    }

pub none_spelled : {A : Type 0} (spelling : A → List ℕ) (P : A → Type 0) (read : List ℕ → Option A) (text : List ℕ) → ((b : A) → P b → read (spelling b) ≡ Some b)
    → read text ≡ None → ReadsSpelling spelling P text (Err Bad)
none_spelled {A} spelling P read text back is =
    record {
      found = tt;
      all = λ b may same.
          let twice : ◌≡◌ {A = Option A} None (Some b) = sym is ∙ ap read same ∙ back b may in absurd (cc twice);
    }
