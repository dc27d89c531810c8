-- Bytes are the written form of one value at most. The lemmas stand here since fields of `Written` and its kin cite
-- them (`by`), and code can't cite the proofs of its own crate.
use Rattle.std.proofs.Common.{◌≡◌, ℕ, List, [], ◌++◌, false, sym, ◌∙◌}
use Rattle.std.proofs.lemmas.List.{append-nil}
use Rattle.std.proofs.Math.Logic.{∥∥₁_elim}
use Rattle.std.specs.Coded.{Coded-set, coded_list, coded_ℕ, ×_prop}
use mathlib.Core.HLevel.{Σ_prop_path}
use Rattle.lrs_json.specs.Json.{Json, Elements, Members}
use Rattle.lrs_json.specs.Spellable.{AreSpellableElements, AreSpellableMembers}
use Rattle.lrs_json.specs.Written.{elements_text, members_text, quoted, written}
use Rattle.lrs_json_reader.proofs.Alike.{alike, alike_elements, alike_members}
use Rattle.lrs_json_reader.proofs.Escapes.{same_quoted}
use Rattle.lrs_json_slices.specs.Codes.{elements_code, json_code, members_code}
use Rattle.lrs_json_slices.specs.Spelled.{IsSpelled, ItemsFrom, MembersFrom, TextFrom, WrittenFrom}

-- whatever is said of bytes that are alike
bytes_prop : (a b : List ℕ) → IsProp (a ≡ b)
bytes_prop a b = Coded-set (coded_list coded_ℕ) a b

with_nothing : (a b : List ℕ) → a ≡ b → a ++ [] ≡ b ++ []
with_nothing a b e = append-nil a ∙ e ∙ sym (append-nil b)

-- what follows from both, however each is seen
by_both : {A B X : Type 0} → IsProp X → ∥ A ∥₁ → ∥ B ∥₁ → (A → B → X) → X
by_both one s t f = ∥∥₁_elim s one (λ a. ∥∥₁_elim t one (f a))

pub same_json : (j k : Json) → IsSpelled j → IsSpelled k → written j ≡ written k → j ≡ k
same_json j k s t e =
    let same = with_nothing (written j) (written k) e in
    by_both (Coded-set json_code j k) s t (λ f g. (alike j k [] [] f g tt tt same).0)

same_items : (js ks : Elements) → ∥ AreSpellableElements js ∥₁ → ∥ AreSpellableElements ks ∥₁
    → elements_text false js ≡ elements_text false ks → js ≡ ks
same_items js ks s t e =
    let same = with_nothing (elements_text false js) (elements_text false ks) e in
    by_both (Coded-set elements_code js ks) s t (λ f g. (alike_elements js ks false [] [] f g same).0)

same_members : (ms ns : Members) → ∥ AreSpellableMembers ms ∥₁ → ∥ AreSpellableMembers ns ∥₁
    → members_text false ms ≡ members_text false ns → ms ≡ ns
same_members ms ns s t e =
    let same = with_nothing (members_text false ms) (members_text false ns) e in
    by_both (Coded-set members_code ms ns) s t (λ f g. (alike_members ms ns false [] [] f g same).0)

pub WrittenFrom-prop : (bytes : List ℕ) → IsProp (WrittenFrom bytes)
WrittenFrom-prop bytes u v =
    Σ_prop_path (λ (j : Json). ×_prop squash₁ (bytes_prop bytes (written j)))
    (same_json u.0 v.0 u.1.0 v.1.0 (sym u.1.1 ∙ v.1.1))

pub ItemsFrom-prop : (bytes : List ℕ) → IsProp (ItemsFrom bytes)
ItemsFrom-prop bytes u v =
    Σ_prop_path (λ (js : Elements). ×_prop squash₁ (bytes_prop bytes (elements_text false js)))
    (same_items u.0 v.0 u.1.0 v.1.0 (sym u.1.1 ∙ v.1.1))

pub MembersFrom-prop : (bytes : List ℕ) → IsProp (MembersFrom bytes)
MembersFrom-prop bytes u v =
    Σ_prop_path (λ (ms : Members). ×_prop squash₁ (bytes_prop bytes (members_text false ms)))
    (same_members u.0 v.0 u.1.0 v.1.0 (sym u.1.1 ∙ v.1.1))

pub TextFrom-prop : (bytes : List ℕ) → IsProp (TextFrom bytes)
TextFrom-prop bytes u v =
    Σ_prop_path (λ (text : List ℕ). bytes_prop bytes (quoted text))
    (same_quoted u.0 v.0 [] [] (with_nothing (quoted u.0) (quoted v.0) (sym u.1 ∙ v.1))).0
