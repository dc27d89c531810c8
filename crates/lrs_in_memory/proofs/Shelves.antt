-- Lists of disks, and one that is taken out.
use Rattle.std.proofs.Common.{◌≡◌, ◌≤◌, ◌<◌, ◌+◌, ◌-◌, ◌++◌, ◌∷◌, [], ◌↔◌, ℕ, suc, List, Bool, true, false, cond, String, Global, Option, Some, None, IsSome, IsNone, is_some, option_map, All, find, ⊎_elim, subst, length, take, drop, get_or, remove, refl, ap, sym, ◌∙◌, arith}
use Rattle.std.specs.List.{position_or_len, slice_get}
use Rattle.std.specs.Prelude.{string_bytes}
use Rattle.std.proofs.lemmas.List.{take_all, drop_all, append-nil}
use Rattle.std.specs.Option.{option_map_or, option_or}
use Rattle.std.proofs.lemmas.Bool.{cases_lt}
use Rattle.std.proofs.lemmas.List.Elements.{All-append, All-drop, All-take}
use Rattle.std.proofs.lemmas.List.Folds.{find_at}
use Rattle.std.proofs.lemmas.Option.{slice_get_read, slice_get_past, slice_get-get_or}
use Rattle.std.proofs.lemmas.Slice.Eq.{bytes_eq-Decides}
use Rattle.lrs_in_memory.specs.MemDisk.{bytes_of, faults_of, moment_of}
use Rattle.lrs_in_memory.specs.Named.{disk_named, is_named}
use Rattle.lrs_in_memory.specs.declared.disk.MemDisk.{MemDisk}

pub found : {X : Type 0} (p : X → Bool) (xs : List X) (offset : ℕ) (x : X) → offset ≡ position_or_len p xs → offset < length xs → x ≡ get_or xs offset x → find p xs ≡ Some x
found p xs offset x is lt at = find_at p xs ∙ ap (slice_get xs) (sym is) ∙ slice_get_read xs (length xs) offset x refl lt at

pub not_none : {X : Type 0} {A : Type 0} (o : Option X) (x : X) → o ≡ Some x → IsNone o → A
not_none o x some none = absurd (cc (subst IsNone some none))

pub missing : {X : Type 0} (p : X → Bool) (xs : List X) (offset : ℕ) → offset ≡ position_or_len p xs → length xs ≤ offset → find p xs ≡ None
missing p xs offset is le = find_at p xs ∙ ap (slice_get xs) (sym is) ∙ slice_get_past xs offset le

pub remove_past : {X : Type 0} (xs : List X) (i : ℕ) → length xs ≤ i → remove xs i ≡ xs
remove_past xs i le = ap (λ l. l ++ drop (suc i) xs) (take_all i xs le) ∙ ap (λ l. xs ++ l) (drop_all (suc i) xs (omega arith)) ∙ append-nil xs

-- the last one, where there is one
pub popped : {X : Type 0} (xs : List X) (n : ℕ) (r : Option X) → n ≡ length xs → ((d : X) → 0 < n → r ≡ Some (get_or xs (n - 1) d)) → (IsSome r ↔ (0 < n)) → r ≡ slice_get xs (length xs - 1)
popped [] n None is value variant = refl
popped [] n (Some x) is value variant = absurd (omega (arith, variant.0 refl))
popped (x ∷ xs) n r is value variant = value x (omega arith) ∙ ap (λ k. Some (get_or (x ∷ xs) (k - 1) x)) is ∙ sym (slice_get-get_or (x ∷ xs) (length (x ∷ xs) - 1) x (omega arith))

pub All-remove : {X : Type 0} (P : X → Type 0) (xs : List X) (i : ℕ) → All P xs → All P (remove xs i)
All-remove P xs i all = All-append P (take i xs) (drop (suc i) xs) (All-take P i xs all) (All-drop P (suc i) xs all)

-- none passes, and nothing is removed
pub remove_missing : {X : Type 0} (p : X → Bool) (xs : List X) → find p xs ≡ None → remove xs (position_or_len p xs) ≡ xs
remove_missing p xs none = ⊎_elim
    (λ lt. absurd (apart_none (slice_get xs (position_or_len p xs)) (sym (find_at p xs) ∙ none) (inside p xs lt)))
    (λ le. remove_past xs (position_or_len p xs) le)
    (cases_lt (position_or_len p xs) (length xs))
  where
    apart_none : {X : Type 0} (o : Option X) → o ≡ None → IsSome o → ⊥
    apart_none None is some = cc
    apart_none (Some x) is some = cc

    inside : {X : Type 0} (p : X → Bool) (xs : List X) → position_or_len p xs < length xs → IsSome (slice_get xs (position_or_len p xs))
    inside p [] lt = absurd (omega (arith, lt))
    inside p (x ∷ xs) lt = ap is_some (slice_get-get_or (x ∷ xs) (position_or_len p (x ∷ xs)) x lt)

module _ {X Y : Type 0} (o : Option Y) (old new : List X) (stays : IsSome o → new ≡ old) (used : IsNone o → new ≡ take (length old - 1) old) where
  -- what holds of each of the spare ones goes on to hold
  pub spare_all : (P : X → Type 0) → All P old → All P new
  spare_all P all = elim o as (λ v. (IsSome v → new ≡ old) → (IsNone v → new ≡ take (length old - 1) old) → All P new) [
    | None ↦ (λ s u. subst (All P) (sym (u refl)) (All-take P (length old - 1) old all))
    | Some y ↦ (λ s u. subst (All P) (sym (s refl)) all)
  ] stays used

-- there was none to take
pub none_taken : {X Y : Type 0} (f : Y → X) (o : Option Y) (old new : List X) → None ≡ option_or (option_map f o) (slice_get old (length old - 1)) → (IsSome o → new ≡ old) → (IsNone o → new ≡ take (length old - 1) old) → (o ≡ None) × (new ≡ old)
none_taken f None [] new none stays used = (refl, used refl)
none_taken f None (x ∷ old) new none stays used = absurd (clash (none ∙ slice_get-get_or (x ∷ old) (length (x ∷ old) - 1) x (omega arith)))
  where
    clash : {X : Type 0} {x : X} → None ≡ Some x → ⊥
    clash e = cc
none_taken f (Some y) old new none stays used = absurd (cc none)

-- the first one that passes is taken out, and what never passes with it is found as before
pub find_removed : {X : Type 0} (p q : X → Bool) → ((x : X) → p x ≡ true → q x ≡ false) → (xs : List X) → find q (remove xs (position_or_len p xs)) ≡ find q xs
find_removed p q apart [] = refl
find_removed {X = X} p q apart (x ∷ xs) = by_first (p x) refl (find_removed p q apart xs)
  where
    by_first : (b : Bool) → p x ≡ b → find q (remove xs (position_or_len p xs)) ≡ find q xs → find q (remove (x ∷ xs) (position_or_len p (x ∷ xs))) ≡ find q (x ∷ xs)
    by_first true is rest = let other : q x ≡ false = apart x is in rw is (rw other refl)
    by_first false is rest =
        let next : suc (position_or_len p xs) ≡ 1 + position_or_len p xs = omega arith in
        rw is (subst (λ (i : ℕ). find q (take i (x ∷ xs) ++ drop (suc i) (x ∷ xs)) ≡ find q (x ∷ xs)) next (ap (λ (o : Option X). cond (q x) (Some x) o) rest))

-- ---- the disks of other names

some_same : {X : Type 0} (x y : X) → ◌≡◌ {A = Option X} (Some x) (Some y) → x ≡ y
some_same x y is = cc is

apart_names : (name other : List ℕ) → (other ≡ name → ⊥) → (entry : String Global × MemDisk) → is_named name entry ≡ true → is_named other entry ≡ false
apart_names name other differ entry named = by_test (is_named other entry) refl
  where
    by_test : (b : Bool) → is_named other entry ≡ b → is_named other entry ≡ false
    by_test true is = absurd (differ (sym ((bytes_eq-Decides (string_bytes entry.0) other).0 is) ∙ (bytes_eq-Decides (string_bytes entry.0) name).0 named))
    by_test false is = is

-- what is told of two names of which none was there, and one disk is left over
both_spare : (spare : List MemDisk) (disk : MemDisk) → slice_get spare (length spare - 1) ≡ Some disk → bytes_of disk ≡ [] → option_map bytes_of (slice_get spare (length spare - 1)) ≡ Some []
both_spare spare disk is empty = ap (option_map bytes_of) is ∙ ap (λ (b : List ℕ). Some b) empty

-- the last one left over is empty, as all are
empty_last : (left : List MemDisk) → All (λ (d : MemDisk). bytes_of d ≡ []) left → (disk : MemDisk) → slice_get left (length left - 1) ≡ Some disk → bytes_of disk ≡ []
empty_last [] all disk is = absurd (cc is)
empty_last (x ∷ left) all disk is =
    let at = slice_get-get_or (x ∷ left) (length (x ∷ left) - 1) x (omega arith) in
    let same : get_or (x ∷ left) (length (x ∷ left) - 1) x ≡ disk = some_same _ disk (sym at ∙ is) in
    subst (λ (d : MemDisk). bytes_of d ≡ []) same (all (length (x ∷ left) - 1) x (omega arith))

-- A name's disk was taken: that of another name is the same, unless neither was there.
pub same_disk : (disks disks_now : List (String Global × MemDisk)) (spare spare_now : List MemDisk) (name other : List ℕ) (disk : MemDisk) → (other ≡ name → ⊥)
    → (option_map bytes_of (disk_named disks spare name) ≡ Some [] → option_map bytes_of (disk_named disks spare other) ≡ Some [] → ⊥)
    → All (λ (d : MemDisk). bytes_of d ≡ []) spare → disk_named disks spare name ≡ Some disk
    → disks_now ≡ remove disks (position_or_len (is_named name) disks) → (IsSome (find (is_named name) disks) → spare_now ≡ spare)
    → disk_named disks_now spare_now other ≡ disk_named disks spare other
same_disk disks disks_now spare spare_now name other disk differ one empty given removed stays =
    by_name (find (is_named name) disks) refl (find (is_named other) disks) refl
  where
    held : find (is_named other) disks_now ≡ find (is_named other) disks
    held = ap (find (is_named other)) removed ∙ find_removed (is_named name) (is_named other) (apart_names name other differ) disks

    of_found : (first : Option (String Global × MemDisk)) (left : List MemDisk) → Option MemDisk
    of_found first left = option_or (option_map (λ (entry : String Global × MemDisk). entry.1) first) (slice_get left (length left - 1))

    by_name : (o : Option (String Global × MemDisk)) → find (is_named name) disks ≡ o → (q : Option (String Global × MemDisk)) → find (is_named other) disks ≡ q
        → disk_named disks_now spare_now other ≡ disk_named disks spare other
    by_name (Some entry) is q other_is =
        ap (λ (f : Option (String Global × MemDisk)). of_found f spare_now) held ∙ ap (λ (l : List MemDisk). of_found (find (is_named other) disks) l) (stays (ap is_some is))
    by_name None is (Some entry) other_is =
        let there : find (is_named other) disks_now ≡ Some entry = held ∙ other_is in
        ap (λ (f : Option (String Global × MemDisk)). of_found f spare_now) there ∙ sym (ap (λ (f : Option (String Global × MemDisk)). of_found f spare) other_is)
    by_name None is None other_is =
        let last : slice_get spare (length spare - 1) ≡ Some disk = sym (ap (λ (f : Option (String Global × MemDisk)). of_found f spare) is) ∙ given in
        let none : option_map bytes_of (slice_get spare (length spare - 1)) ≡ Some [] = both_spare spare disk last (empty_last spare empty disk last) in
        absurd (one (ap (λ (f : Option (String Global × MemDisk)). option_map bytes_of (of_found f spare)) is ∙ none) (ap (λ (f : Option (String Global × MemDisk)). option_map bytes_of (of_found f spare)) other_is ∙ none))

-- what a shelf tells of another name is the same then
pub told_same : (o p : Option MemDisk) → o ≡ p → (option_map bytes_of o ≡ option_map bytes_of p) × (option_map_or faults_of o 0 ≡ option_map_or faults_of p 0) × (option_map_or moment_of o 0 ≡ option_map_or moment_of p 0)
told_same o p is = (ap (option_map bytes_of) is, ap (λ (x : Option MemDisk). option_map_or faults_of x 0) is, ap (λ (x : Option MemDisk). option_map_or moment_of x 0) is)

-- the disk of a name in lists that stay
pub same_named : (disks disks_now : List (String Global × MemDisk)) (spare spare_now : List MemDisk) (other : List ℕ) → disks_now ≡ disks → spare_now ≡ spare
    → disk_named disks_now spare_now other ≡ disk_named disks spare other
same_named disks disks_now spare spare_now other same left = ap (λ (l : List (String Global × MemDisk)). disk_named l spare_now other) same ∙ ap (λ (l : List MemDisk). disk_named disks l other) left
