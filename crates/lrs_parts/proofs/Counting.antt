-- How many ids are used, where several kinds of them are.
use Rattle.std.proofs.Common.{◌≡◌, ◌+◌, ℕ, List, [], ◌∷◌, ◌++◌, length, length-append, refl, sym, ◌∙◌, ap, Bool, true, false, ◌||◌}
use Rattle.std.specs.Str.{bytes_eq}
use Rattle.lrs_ids.specs.Ids.{IsCounted, Used, either, those}
use Rattle.lrs_names.specs.Members.{is_one_of}

pub those_counted : (ids : List (List ℕ)) → IsCounted (those ids)
those_counted ids = record { ids = ids; same = λ id. refl; count = refl }

one_of_both : (xs ys : List (List ℕ)) (id : List ℕ) → is_one_of (xs ++ ys) id ≡ is_one_of xs id || is_one_of ys id
one_of_both [] ys id = refl
one_of_both (x ∷ xs) ys id = by_test (bytes_eq x id) (one_of_both xs ys id)
  where
    by_test : (b : Bool) → is_one_of (xs ++ ys) id ≡ is_one_of xs id || is_one_of ys id → b || is_one_of (xs ++ ys) id ≡ (b || is_one_of xs id) || is_one_of ys id
    by_test true more = refl
    by_test false more = more

pub either_counted : (a b : Used) → IsCounted a → IsCounted b → IsCounted (either a b)
either_counted a b one other = record {
  ids = one.ids ++ other.ids;
  same = λ id. ap (λ x. x || b.is_used id) (one.same id) ∙ (ap (λ y. is_one_of one.ids id || y) (other.same id) ∙ sym (one_of_both one.ids other.ids id));
  count = length-append one.ids other.ids ∙ (ap (λ n. n + length other.ids) one.count ∙ ap (λ n. a.count + n) other.count);
}
