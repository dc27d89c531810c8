-- Lists of keys that grow: by none, by one, in two or three steps, and over a list.
use Rattle.std.proofs.Common.{◌≡◌, List, [], ◌∷◌, ◌++◌, Bool, false, ◌||◌, refl, sym, ap, ◌∙◌}
use Rattle.std.proofs.Math.Bool.{or-false, or_assoc}
use Rattle.std.proofs.lemmas.List.Folds.{list_any-append}
use Rattle.xapi_statement_keys.specs.Adding.{Adds, same_parts}
use Rattle.xapi_statement_keys.specs.Keys.{is_among, is_same_key}
use Rattle.xapi_statement_keys.specs.declared.key.Key.{Key}
use Rattle.xapi_statement_keys.proofs.SameKeys.{by_parts}

-- ---- steps

pub adds_none : (keys : List Key) (none : Key → Bool) → ((k : Key) → none k ≡ false) → Adds keys keys none
adds_none keys none is = record { each = λ k. sym (ap (λ b. is_among k keys || b) (is k) ∙ or-false (is_among k keys)) }

pub adds_one : (old new : List Key) (one : Key) → new ≡ old ++ one ∷ [] → Adds old new (λ k. same_parts one k)
adds_one old new one is = record {
  each = λ k. ap (λ ks. is_among k ks) is ∙ list_any-append (λ other. is_same_key other k) old (one ∷ [])
      ∙ ap (λ b. is_among k old || b) (or-false (is_same_key one k) ∙ by_parts one k);
}

pub adds_same : (old new : List Key) (p q : Key → Bool) → ((k : Key) → p k ≡ q k) → Adds old new p → Adds old new q
adds_same old new p q same adds = record { each = λ k. adds.each k ∙ ap (λ b. is_among k old || b) (same k) }

pub adds_both : (old mid new : List Key) (p q whole : Key → Bool) → ((k : Key) → whole k ≡ (p k || q k)) → Adds old mid p → Adds mid new q → Adds old new whole
adds_both old mid new p q whole split first second = record {
  each = λ k. second.each k ∙ ap (λ b. b || q k) (first.each k) ∙ or_assoc (is_among k old) (p k) (q k) ∙ ap (λ b. is_among k old || b) (sym (split k));
}

pub adds_three : (old one two new : List Key) (p q r whole : Key → Bool) → ((k : Key) → whole k ≡ ((p k || q k) || r k)) → Adds old one p → Adds one two q → Adds two new r → Adds old new whole
adds_three old one two new p q r whole split first second third =
    adds_both old two new (λ k. p k || q k) r whole split (adds_both old one two p q (λ k. p k || q k) (λ k. refl) first second) third

-- a list that was empty has no other keys
pub adds_all : (old new : List Key) (whole : Key → Bool) → old ≡ [] → Adds old new whole → (k : Key) → is_among k new ≡ whole k
adds_all old new whole none adds k = adds.each k ∙ ap (λ ks. is_among k ks || whole k) none

-- ---- loops

-- the keys so far, with those of what is left, are those that stood, with all of these
pub record KeysSoFar (old new : List Key) (left whole : Key → Bool) : Type 0 where
  pub each : (k : Key) → (is_among k new || left k) ≡ (is_among k old || whole k)

pub so_far_none : (keys : List Key) (whole : Key → Bool) → KeysSoFar keys keys whole whole
so_far_none keys whole = record { each = λ k. refl }

pub so_far_more : (old mid new : List Key) (left next rest whole : Key → Bool) → ((k : Key) → left k ≡ (next k || rest k)) → Adds mid new next → KeysSoFar old mid left whole → KeysSoFar old new rest whole
so_far_more old mid new left next rest whole split adds so_far = record {
  each = λ k. ap (λ b. b || rest k) (adds.each k) ∙ or_assoc (is_among k mid) (next k) (rest k) ∙ ap (λ b. is_among k mid || b) (sym (split k)) ∙ so_far.each k;
}

pub so_far_all : (old new : List Key) (left whole : Key → Bool) → ((k : Key) → left k ≡ false) → KeysSoFar old new left whole → Adds old new whole
so_far_all old new left whole none so_far = record {
  each = λ k. sym (ap (λ b. is_among k new || b) (none k) ∙ or-false (is_among k new)) ∙ so_far.each k;
}
