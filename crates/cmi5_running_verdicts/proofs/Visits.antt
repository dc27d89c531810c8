-- Statements that are counted by their positions: those under the key of a registration tell as much of its nodes as all
-- of them.
use Rattle.std.proofs.Common.{◌≡◌, ◌∙◌, ◌+◌, ◌<◌, ◌≤◌, ◌^◌, ◌&&◌, ◌||◌, ℕ, zero, suc, nat_lt, Bool, true, false, not, cond, if◌then◌else◌, List, [], ◌∷◌, ◌++◌, length, map, take, drop, slice_get, Option, Some, None, refl, sym, ap, subst, arith, append_assoc, append-nil, length-append}
use Rattle.std.specs.Prelude.{filter}
use Rattle.std.specs.List.{count_by, list_any}
use Rattle.std.specs.Option.{option_map_or}
use Rattle.std.proofs.lemmas.Bool.{le-ltb, lt-ltb, ltb-false}
use Rattle.std.proofs.lemmas.List.{drop_all, drop_more, take_all}
use Rattle.std.proofs.lemmas.List.Sums.{length-filter}
use Rattle.std.proofs.lemmas.Option.{slice_get-get_or, slice_get_past}
use Rattle.cmi5_verdict.specs.Cmi5LaunchNames.{completed, passed, satisfied, waived}
use Rattle.cmi5_running_verdicts.specs.Positions.{marked_at, marked_at_each}
use Rattle.cmi5_running_verdicts.specs.Tallies.{AreTallies, how_many_say, is_met_by_all, said_by_all, says_of_node, says_still, unmet_under}
use Rattle.cmi5_running_verdicts.specs.declared.tally.Tally.{Tally}
use Rattle.cmi5_verdict.specs.Cmi5SessionMarked.{MarkedStatement, mark, marked, marked_by}
use Rattle.cmi5_verdict.specs.Cmi5SessionOwn.{says}
use Rattle.cmi5_verdict.specs.Nodes.{SeenEnrolment, activity_of_node, is_under, indices, unit_in}
use Rattle.cmi5_verdict.specs.Said.{meets}
use Rattle.cmi5_verdict.specs.declared.said.Said.{Said}
use Rattle.cmi5_verdict.proofs.Spoken.{same_said}
use Rattle.lrs_json.specs.View.{view}
use Rattle.cmi5_verdict.specs.XapiIndexIndex.{IsPosting}
use Rattle.cmi5_verdict.specs.XapiStatementStatements.{is_that_id, is_voided}
use Rattle.cmi5_verdict.specs.XapiPostingsAscending.{below, positions_from}
use Rattle.cmi5_verdict.specs.XapiStatementStatement.{activity_of, registration_of}
use Rattle.cmi5_verdict.specs.XapiStatementStored.{StoredStatement}
use Rattle.cmi5_verdict.specs.XapiStatementKeysKeys.{has_key}
use Rattle.cmi5_verdict.specs.XapiStatementKeysKeyKeyTheVariants as key
use Rattle.cmi5_verdict.proofs.Posted.{named, one_on}

-- ---- how many pass

-- one is kept where one passes
pub kept_any : {A : Type 0} (q : A → Bool) (xs : List A) → nat_lt 0 (length (filter q xs)) ≡ list_any q xs
kept_any q [] = le-ltb 0 0 (omega arith)
kept_any q (x ∷ xs) = by_test (q x) (kept_any q xs)
  where
    by_test : (b : Bool) → nat_lt 0 (length (filter q xs)) ≡ list_any q xs → nat_lt 0 (length (cond b (x ∷ filter q xs) (filter q xs))) ≡ (b || list_any q xs)
    by_test true more = lt-ltb 0 (suc (length (filter q xs))) (omega arith)
    by_test false more = more

kept_alike : (f g : ℕ → Bool) (xs : List ℕ) → ((k : ℕ) → f k ≡ g k) → filter f xs ≡ filter g xs
kept_alike f g [] same = refl
kept_alike f g (x ∷ xs) same = ap (λ b. cond b (x ∷ filter f xs) (filter f xs)) (same x) ∙ ap (λ (ys : List ℕ). cond (g x) (x ∷ ys) ys) (kept_alike f g xs same)

counted_alike : (f g : ℕ → Bool) (xs : List ℕ) → ((k : ℕ) → f k ≡ g k) → count_by f xs ≡ count_by g xs
counted_alike f g xs same = sym (length-filter f xs) ∙ (ap (λ (ys : List ℕ). length ys) (kept_alike f g xs same) ∙ length-filter g xs)

-- what is left out passes no later test either
kept_of : {A B : Type 0} (q : B → Bool) (mk : A → B) (p : A → Bool) (xs : List A) → ((x : A) → p x ≡ false → q (mk x) ≡ false) → filter q (map mk (filter p xs)) ≡ filter q (map mk xs)
kept_of {A} {B} q mk p [] others = refl
kept_of {A} {B} q mk p (x ∷ xs) others = by_test (p x) refl (kept_of q mk p xs others)
  where
    by_test : (b : Bool) → p x ≡ b → filter q (map mk (filter p xs)) ≡ filter q (map mk xs)
        → filter q (map mk (cond b (x ∷ filter p xs) (filter p xs))) ≡ cond (q (mk x)) (mk x ∷ filter q (map mk xs)) (filter q (map mk xs))
    by_test true is more = ap (λ (ys : List B). cond (q (mk x)) (mk x ∷ ys) ys) more
    by_test false is more = more ∙ sym (ap (λ t. cond t (mk x ∷ filter q (map mk xs)) (filter q (map mk xs))) (others x is))

-- ---- lists that say the same of each node

pub record SaySame (e : SeenEnrolment) (a b : List MarkedStatement) : Type 0 where
  pub many : (verb : List ℕ) → (index : ℕ) → how_many_say e a verb index ≡ how_many_say e b verb index
  pub any : (verb : List ℕ) → (index : ℕ) → list_any (says_of_node e verb index) a ≡ list_any (says_of_node e verb index) b

module _ (e : SeenEnrolment) (a b : List MarkedStatement) (same : SaySame e a b) where
  said_alike : (index : ℕ) → said_by_all e a index ≡ said_by_all e b index
  said_alike index =
      same_said _ _ _ _ _ _ _ _ (ap (λ n. nat_lt 0 n) (same.many waived index)) (ap (λ n. nat_lt 0 n) (same.many completed index))
      (ap (λ n. nat_lt 0 n) (same.many passed index)) (same.any satisfied index)

  met_alike : (index : ℕ) → is_met_by_all e a index ≡ is_met_by_all e b index
  met_alike index = ap (λ (s : Said). option_map_or (λ unit. meets unit.move_on s) (unit_in e.nodes index) true) (said_alike index)

  unmet_alike : (holder : ℕ) → unmet_under e a holder ≡ unmet_under e b holder
  unmet_alike holder =
      counted_alike (λ p. is_under e.nodes holder p && not (is_met_by_all e a p)) (λ p. is_under e.nodes holder p && not (is_met_by_all e b p)) (indices e.nodes)
      (λ p. ap (λ t. is_under e.nodes holder p && not t) (met_alike p))

  pub same_tallies : (ts : List Tally) → AreTallies e a ts → AreTallies e b ts
  same_tallies ts are = record {
    long = are.long;
    each = λ index t at.
        let is = are.each index t at in
        record {
          waived = is.waived ∙ same.many waived index;
          completed = is.completed ∙ same.many completed index;
          passed = is.passed ∙ same.many passed index;
          satisfied = is.satisfied ∙ same.any satisfied index;
          unmet = is.unmet ∙ unmet_alike index;
        };
  }

-- ---- statements of a registration, and all

-- one of three tests fails
off : (a b c : Bool) → b ≡ false → (a && b) && c ≡ false
off true b c is = ap (λ t. t && c) is
off false b c is = refl

abbrev is_registered : SeenEnrolment → StoredStatement → Bool
is_registered e s = has_key (key.Registration e.registration) s

abbrev marking : List StoredStatement → StoredStatement → MarkedStatement
marking statements s = mark s (is_voided statements s)

-- a statement of another registration says nothing
silent : (e : SeenEnrolment) (verb : List ℕ) (index : ℕ) (s : StoredStatement) (voided : Bool) → is_registered e s ≡ false → says_of_node e verb index (mark s voided) ≡ false
silent e verb index s voided other =
    off (says verb (view s.received)) (is_that_id e.registration (registration_of (view s.received))) (is_that_id (activity_of_node e index) (activity_of (view s.received)))
    (named e.registration (registration_of (view s.received)) ∙ other)

registered_say_all : (e : SeenEnrolment) (statements : List StoredStatement) → SaySame e (marked_by statements (filter (is_registered e) statements)) (marked statements)
registered_say_all e statements = record {
  many = λ verb index.
      let kept = kept_of (says_still e verb index) (marking statements) (is_registered e) statements (λ s other. ap (λ t. t && not (is_voided statements s)) (silent e verb index s (is_voided statements s) other)) in
      sym (length-filter (says_still e verb index) (marked_by statements (filter (is_registered e) statements)))
      ∙ (ap (λ (ms : List MarkedStatement). length ms) kept ∙ length-filter (says_still e verb index) (marked statements));
  any = λ verb index.
      let kept = kept_of (says_of_node e verb index) (marking statements) (is_registered e) statements (λ s other. silent e verb index s (is_voided statements s) other) in
      sym (kept_any (says_of_node e verb index) (marked_by statements (filter (is_registered e) statements)))
      ∙ (ap (λ (ms : List MarkedStatement). nat_lt 0 (length ms)) kept ∙ kept_any (says_of_node e verb index) (marked statements));
}

-- ---- statements by their positions

none_on : (n : ℕ) → 0 + n ≡ n
none_on n = omega arith

stays : (i : ℕ) → i ≡ i + zero
stays i = omega arith

-- the positions behind all of them mark none
below_all : (statements : List StoredStatement) (ks : List ℕ) → marked_at_each statements (below (length statements) ks) ≡ marked_at_each statements ks
below_all statements [] = refl
below_all statements (k ∷ ks) = by_test (nat_lt k (length statements)) refl (below_all statements ks)
  where
    by_test : (b : Bool) → nat_lt k (length statements) ≡ b → marked_at_each statements (below (length statements) ks) ≡ marked_at_each statements ks
        → marked_at_each statements (cond b (k ∷ below (length statements) ks) (below (length statements) ks)) ≡ marked_at statements k ++ marked_at_each statements ks
    by_test true is more = ap (λ (ms : List MarkedStatement). marked_at statements k ++ ms) more
    by_test false is more =
        more ∙ sym (ap (λ (o : Option StoredStatement). option_map_or (λ s. mark s (is_voided statements s) ∷ []) o [] ++ marked_at_each statements ks) (slice_get_past statements k (ltb-false k (length statements) is)))

from_positions : (statements : List StoredStatement) (p : StoredStatement → Bool) (i : ℕ) (xs : List StoredStatement)
    → ((j : ℕ) → slice_get statements (i + j) ≡ slice_get xs j) → marked_at_each statements (positions_from p i xs) ≡ marked_by statements (filter p xs)
from_positions statements p i [] there = refl
from_positions statements p i (x ∷ xs) there = by_test (p x) first (from_positions statements p (i + 1) xs next)
  where
    first : slice_get statements i ≡ Some x
    first = ap (λ k. slice_get statements k) (stays i) ∙ there zero

    next : (j : ℕ) → slice_get statements (i + 1 + j) ≡ slice_get xs j
    next j = ap (λ k. slice_get statements k) (one_on i j) ∙ there (suc j)

    by_test : (b : Bool) → slice_get statements i ≡ Some x → marked_at_each statements (positions_from p (i + 1) xs) ≡ marked_by statements (filter p xs)
        → marked_at_each statements (if b then i ∷ positions_from p (i + 1) xs else positions_from p (i + 1) xs) ≡ marked_by statements (cond b (x ∷ filter p xs) (filter p xs))
    by_test true at more =
        ap (λ (o : Option StoredStatement). option_map_or (λ s. mark s (is_voided statements s) ∷ []) o [] ++ marked_at_each statements (positions_from p (i + 1) xs)) at
        ∙ ap (λ (ms : List MarkedStatement). mark x (is_voided statements x) ∷ ms) more
    by_test false at more = more

-- what stands for those under the key of the registration stands for all
pub stand_for_all : (e : SeenEnrolment) (statements : List StoredStatement) (coming : ℕ) (ks : List ℕ) (ts : List Tally)
    → IsPosting statements coming (key.Registration e.registration) ks → AreTallies e (marked_at_each statements ks) ts → AreTallies e (marked statements) ts
stand_for_all e statements coming ks ts posting are =
    let those : marked_at_each statements ks ≡ marked_by statements (filter (is_registered e) statements) =
    sym (below_all statements ks) ∙ (ap (λ (js : List ℕ). marked_at_each statements js) posting.visible
    ∙ from_positions statements (is_registered e) 0 statements (λ j. ap (λ k. slice_get statements k) (none_on j))) in
    same_tallies e (marked_by statements (filter (is_registered e) statements)) (marked statements) (registered_say_all e statements) ts
    (subst (λ (ms : List MarkedStatement). AreTallies e ms ts) those are)

-- ---- position by position

pub one_marked : (statements : List StoredStatement) (at : ℕ) (s : StoredStatement) (voided : Bool) → slice_get statements at ≡ Some s → voided ≡ is_voided statements s → mark s voided ∷ [] ≡ marked_at statements at
one_marked statements at s voided there is =
    ap (λ v. mark s v ∷ []) is ∙ sym (ap (λ (o : Option StoredStatement). option_map_or (λ t. mark t (is_voided statements t) ∷ []) o []) there)

pub none_marked : (statements : List StoredStatement) (at : ℕ) (those : List MarkedStatement) → slice_get statements at ≡ None → those ≡ those ++ marked_at statements at
none_marked statements at those there =
    sym (ap (λ (o : Option StoredStatement). those ++ option_map_or (λ t. mark t (is_voided statements t) ∷ []) o []) there ∙ append-nil those)

-- whether one of the first n voids it, where these are all
pub voided_in_all : (statements : List StoredStatement) (n at : ℕ) (s : StoredStatement) (voided : Bool) → n ≡ length statements → slice_get statements at ≡ Some s
    → voided ≡ option_map_or (is_voided (take n statements)) (slice_get statements at) false → voided ≡ is_voided statements s
voided_in_all statements n at s voided long there is =
    is ∙ (ap (λ (o : Option StoredStatement). option_map_or (is_voided (take n statements)) o false) there
    ∙ ap (λ (ss : List StoredStatement). is_voided ss s) (take_all n statements (omega (arith, long))))

short : (statements : List StoredStatement) (o : Option ℕ) → length (option_map_or (marked_at statements) o []) ≤ 1
short statements None = omega arith
short statements (Some k) = by_holder (slice_get statements k)
  where
    by_holder : (o : Option StoredStatement) → length (option_map_or (λ s. mark s (is_voided statements s) ∷ []) o []) ≤ 1
    by_holder None = omega arith
    by_holder (Some s) = omega arith

-- The tallies stand for the statements at the positions before that index.
pub record Counting (e : SeenEnrolment) (statements : List StoredStatement) (ks : List ℕ) (nth : ℕ) (ts : List Tally) : Type 0 where
  pub those : List MarkedStatement
  pub few : length those ≤ nth
  pub left : those ++ marked_at_each statements (drop nth ks) ≡ marked_at_each statements ks
  pub are : AreTallies e those ts

pub counting_none : (e : SeenEnrolment) (statements : List StoredStatement) (ks : List ℕ) (ts : List Tally) → AreTallies e [] ts → Counting e statements ks 0 ts
counting_none e statements ks ts are = record { those = []; few = omega arith; left = refl; are = are }

pub counting_next : (e : SeenEnrolment) (statements : List StoredStatement) (ks : List ℕ) (nth : ℕ) (old new : List Tally) → nth < length ks → nth + 1 < 2 ^ 64
    → ((those : List MarkedStatement) → length those + 1 < 2 ^ 64 → AreTallies e those old → AreTallies e (those ++ option_map_or (marked_at statements) (slice_get ks nth) []) new)
    → Counting e statements ks nth old → Counting e statements ks (nth + 1) new
counting_next e statements ks nth old new lt small step so_far = record {
  those = so_far.those ++ option_map_or (marked_at statements) (slice_get ks nth) [];
  few = few;
  left = left;
  are = step so_far.those (omega (arith, so_far.few)) so_far.are;
}
  where
    few : length (so_far.those ++ option_map_or (marked_at statements) (slice_get ks nth) []) ≤ nth + 1
    few =
        let both = length-append so_far.those (option_map_or (marked_at statements) (slice_get ks nth) []) in
        omega (arith, both, so_far.few, short statements (slice_get ks nth))

    left : (so_far.those ++ option_map_or (marked_at statements) (slice_get ks nth) []) ++ marked_at_each statements (drop (nth + 1) ks) ≡ marked_at_each statements ks
    left =
        append_assoc so_far.those (option_map_or (marked_at statements) (slice_get ks nth) []) (marked_at_each statements (drop (nth + 1) ks))
        ∙ (ap (λ (o : Option ℕ). so_far.those ++ (option_map_or (marked_at statements) o [] ++ marked_at_each statements (drop (nth + 1) ks))) (slice_get-get_or ks nth 0 lt)
        ∙ (ap (λ (js : List ℕ). so_far.those ++ marked_at_each statements js) (sym (drop_more ks nth 0 lt)) ∙ so_far.left))

pub counting_all : (e : SeenEnrolment) (statements : List StoredStatement) (ks : List ℕ) (nth : ℕ) (ts : List Tally) → length ks ≤ nth → Counting e statements ks nth ts → AreTallies e (marked_at_each statements ks) ts
counting_all e statements ks nth ts end done =
    let those : done.those ≡ marked_at_each statements ks =
    sym (append-nil done.those) ∙ (ap (λ (js : List ℕ). done.those ++ marked_at_each statements js) (sym (drop_all nth ks end)) ∙ done.left) in
    subst (λ (ms : List MarkedStatement). AreTallies e ms ts) those done.are

-- ---- what is counted, told otherwise

pub counted_as : (e : SeenEnrolment) (more same : List MarkedStatement) (old new : List Tally) → more ≡ same
    → ((those : List MarkedStatement) → length those + 1 < 2 ^ 64 → AreTallies e those old → AreTallies e (those ++ more) new)
    → (those : List MarkedStatement) → length those + 1 < 2 ^ 64 → AreTallies e those old → AreTallies e (those ++ same) new
counted_as e more same old new is step those few are = subst (λ (ms : List MarkedStatement). AreTallies e (those ++ ms) new) is (step those few are)
