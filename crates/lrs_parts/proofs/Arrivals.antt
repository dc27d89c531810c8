-- Where statements stand that came: one behind the other, but for those whose ids were held.
use Rattle.std.proofs.Common.{◌≡◌, ◌<◌, ◌≤◌, ◌+◌, ℕ, List, [], ◌∷◌, ◌++◌, length, take, refl, sym, ◌∙◌, ap, subst, arith, true≢false, Option, Some, None, Bool, true, false, slice_get}
use Rattle.std.specs.Prelude.{position, is_some, if◌then◌else◌}
use Rattle.std.specs.Option.{option_map_or}
use Rattle.std.specs.Str.{bytes_eq}
use Rattle.std.proofs.lemmas.List.{length-take-le}
use Rattle.std.proofs.lemmas.Option.{slice_get_past, slice_get_within}
use Rattle.lrs_ids.specs.Ids.{are_distinct}
use Rattle.lrs_parts.specs.Progress.{is_statement_at, index_behind}
use Rattle.lrs_parts.proofs.Events.{bytes_same, next_added, passes_there, same_bytes, same_index, stands_there, take_next, within_front}
use Rattle.xapi_statement.specs.Statements.{add_each, ids_of, is_held}
use Rattle.cmi5_running_verdicts.specs.XapiIndexAddingProofs.{add-new, add-old}
use Rattle.cmi5_running_verdicts.specs.XapiIndexFoundProofs.{found_at}
use Rattle.xapi_statement.specs.Stored.{StoredStatement}

-- one of that id stands before a position
record Before (all : List StoredStatement) (at : ℕ) (id : List ℕ) : Type 0 where
  index : ℕ
  item : StoredStatement
  less : index < at
  there : slice_get all index ≡ Some item
  named : item.id ≡ id

stands_before : (all : List StoredStatement) (at : ℕ) (id : List ℕ) → is_held id (take at all) ≡ true → Before all at id
stands_before all at id held =
    by_index (position (λ (u : StoredStatement). bytes_eq u.id id) (take at all)) refl
    (found_at (λ (u : StoredStatement). bytes_eq u.id id) (take at all) (position (λ (u : StoredStatement). bytes_eq u.id id) (take at all)) refl ∙ held)
  where
    by_index : (o : Option ℕ) → position (λ (u : StoredStatement). bytes_eq u.id id) (take at all) ≡ o → is_some o ≡ true → Before all at id
    by_index None first is = absurd (true≢false (sym is))
    by_index (Some k) first is =
        let it = stands_there (λ (u : StoredStatement). bytes_eq u.id id) (take at all) k first in
        let front : (k < at) × (slice_get all k ≡ Some it.0) = within_front at all k it.0 it.1 in
        record {
          index = k;
          item = it.0;
          less = front.0;
          there = front.1;
          named = same_bytes it.0.id id (passes_there (λ (u : StoredStatement). bytes_eq u.id id) (take at all) k it.0 first it.1);
        }

-- it isn't there again
not_again : (all : List StoredStatement) (at : ℕ) (s : StoredStatement) → are_distinct (ids_of all) ≡ true → is_held s.id (take at all) ≡ true → is_statement_at s all at ≡ false
not_again all at s distinct held = by_item (slice_get all at) refl
  where
    first : Before all at s.id
    first = stands_before all at s.id held

    by_test : (t : StoredStatement) → slice_get all at ≡ Some t → (b : Bool) → bytes_eq t.id s.id ≡ b → b ≡ false
    by_test t there true is =
        let same : first.index ≡ at = same_index all distinct first.index at first.item t first.there there (first.named ∙ sym (same_bytes t.id s.id is)) in
        absurd (omega (arith, same, first.less))
    by_test t there false is = refl

    by_item : (o : Option StoredStatement) → slice_get all at ≡ o → option_map_or (λ (t : StoredStatement). bytes_eq t.id s.id) o false ≡ false
    by_item None there = refl
    by_item (Some t) there = by_test t there (bytes_eq t.id s.id) refl

-- Of what came and is still to be followed, this is the next one: whether it stands at the position, and where the rest stands.
pub record Next (all : List StoredStatement) (at : ℕ) (s : StoredStatement) (more : List StoredStatement) : Type 0 where
  pub there : is_statement_at s all at ≡ true → slice_get all at ≡ Some s
  pub within : index_behind s all at ≤ length all
  pub added : all ≡ add_each (take (index_behind s all at) all) more

-- its id was held
next_old : (all : List StoredStatement) (at : ℕ) (s : StoredStatement) (more : List StoredStatement) → at ≤ length all → is_statement_at s all at ≡ false
    → all ≡ add_each (take at all) more → Next all at s more
next_old all at s more within elsewhere added = record {
  there = λ yes. absurd (true≢false (sym yes ∙ elsewhere));
  within = subst (λ (n : ℕ). n ≤ length all) (sym index) within;
  added = subst (λ (n : ℕ). all ≡ add_each (take n all) more) (sym index) added;
}
  where
    index : index_behind s all at ≡ at
    index = ap (λ (b : Bool). if b then at + 1 else at) elsewhere

-- it is new
next_new : (all : List StoredStatement) (at : ℕ) (s : StoredStatement) (more : List StoredStatement) → at ≤ length all → all ≡ add_each (take at all ++ s ∷ []) more → Next all at s more
next_new all at s more within added = record {
  there = λ yes. here;
  within = subst (λ (n : ℕ). n ≤ length all) (sym index) (omega (arith, slice_get_within all at s here));
  added = subst (λ (n : ℕ). all ≡ add_each (take n all) more) (sym index) (added ∙ ap (λ (front : List StoredStatement). add_each front more) (sym (take_next all at s here)));
}
  where
    here : slice_get all at ≡ Some s
    here =
        ap (λ (n : ℕ). slice_get all n) (sym (length-take-le at all within))
        ∙ (ap (λ (ys : List StoredStatement). slice_get ys (length (take at all))) added ∙ next_added (take at all) more s)

    index : index_behind s all at ≡ at + 1
    index =
        ap (λ (b : Bool). if b then at + 1 else at)
        (ap (λ (o : Option StoredStatement). option_map_or (λ (t : StoredStatement). bytes_eq t.id s.id) o false) here ∙ bytes_same s.id s.id refl)

pub next_of : (all : List StoredStatement) (at : ℕ) (s : StoredStatement) (more : List StoredStatement) → are_distinct (ids_of all) ≡ true → at ≤ length all
    → all ≡ add_each (take at all) (s ∷ more) → Next all at s more
next_of all at s more distinct within added = by_held (is_held s.id (take at all)) refl
  where
    by_held : (b : Bool) → is_held s.id (take at all) ≡ b → Next all at s more
    by_held true held =
        next_old all at s more within (not_again all at s distinct held) (added ∙ ap (λ (front : List StoredStatement). add_each front more) (add-old (take at all) s held))
    by_held false none = next_new all at s more within (added ∙ ap (λ (front : List StoredStatement). add_each front more) (add-new (take at all) s none))

-- nothing stands behind the last one
pub past_last : (all : List StoredStatement) (at : ℕ) (s : StoredStatement) → length all ≤ at → at ≡ index_behind s all at
past_last all at s past =
    sym (ap (λ (o : Option StoredStatement). if option_map_or (λ (t : StoredStatement). bytes_eq t.id s.id) o false then at + 1 else at) (slice_get_past all at past))
