-- The indices of keys in a list.
use Rattle.std.proofs.Common.{◌≡◌, ℕ, List, Some, true, ap}
use Rattle.std.specs.Str.{bytes_eq}
use Rattle.std.proofs.lemmas.Slice.Eq.{bytes_eq-Decides}
use Rattle.lrs_state.specs.Counted.{has_key_of, list_after, index_under}
use Rattle.lrs_register.specs.declared.change.Change.{Change}
use Rattle.lrs_register.proofs.Changes.{position-kept}

-- A key that is known keeps its index.
pub index_kept : {A : Type 0} (key_of : A → List ℕ) (key : List ℕ) (xs : List A) (change : Change A) (k : ℕ) → index_under key_of key xs ≡ Some k
    → index_under key_of key (list_after key_of xs change) ≡ Some k
index_kept {A} key_of key xs change k is = position-kept (λ x. bytes_eq (key_of x) key) (has_key_of key_of) same xs change k is
  where
    same : (x y : A) → has_key_of key_of x y ≡ true → bytes_eq (key_of x) key ≡ bytes_eq (key_of y) key
    same x y at = ap (λ t. bytes_eq t key) ((bytes_eq-Decides (key_of x) (key_of y)).0 at)
