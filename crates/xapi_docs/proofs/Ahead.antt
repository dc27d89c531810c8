-- What is held where an empty slot is taken back.
use Rattle.std.proofs.Common.{◌≡◌, true, false, List, Option, Some, None, refl, sym, ◌∙◌, true≢false}
use Rattle.std.specs.BTreeMap.{is_at}
use Rattle.std.specs.Cmp.{IsTotalOrder}
use Rattle.std.specs.List.Sorted.{IsStrictlySortedBy}
use Rattle.std.specs.Map.{keys_of, lookup, remove_entry}
use Rattle.std.specs.Option.{is_none, option_flatten, option_map_or}
use Rattle.std.specs.declared.cmp.Ordering.{Ordering}
use Rattle.std.proofs.lemmas.Map.{none_passes_from_lookup}
use Rattle.xapi_docs.proofs.Filled.{all_stay, filled, found, removed}

empty : {X : Type 0} (o : Option (Option X)) → option_map_or is_none o false ≡ true → option_flatten o ≡ None
empty None is = absurd (true≢false (sym is))
empty (Some None) is = refl
empty (Some (Some x)) is = absurd (true≢false (sym is))

module _ {K X : Type 0} {R : K → K → Ordering} (o : IsTotalOrder R) where
  -- an empty slot is let go, and what is held stays
  pub emptied : (k : K) (slots : List (K × Option X)) → IsStrictlySortedBy R (keys_of slots) → option_map_or is_none (lookup (is_at (R k)) slots) false ≡ true → filled (remove_entry (is_at (R k)) slots) ≡ filled slots
  emptied k slots s is =
      removed o k slots s
      ∙ all_stay (is_at (R k)) (filled slots) (none_passes_from_lookup (is_at (R k)) (filled slots) (found o k slots s ∙ empty (lookup (is_at (R k)) slots) is))
