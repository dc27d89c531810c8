-- The least broken rule is found once, and tells the answer.
use Rattle.std.proofs.Common.{◌≡◌, ℕ, ◌||◌, IsTrue, Bool, true, false, List, Option, Some, None, is_some, option_and_then, Ok, Err, MatchBool, codes, arith, refl, sym, ap, ◌∙◌, subst, nat_lt}
use Rattle.std.specs.Option.{option_map_or}
use Rattle.std.proofs.lemmas.Bool.{false≢true}
use Rattle.std.proofs.lemmas.Bool.Decides.{nat_tests}
use Rattle.std.specs.Cmp.{first_so, second_so}
use Rattle.lrs_names.specs.Ids.{id_of}
use Rattle.xapi_parameters.specs.Parameters.{TellsLeast, Demands, DemandsOfList, LeastOfGet, LeastOfLink, LeastOfPut, asks_for_one, get_names, given, has, has_link_number, has_link_numbers, has_ids, is_rule, link_names, number_under, passes}
use Rattle.xapi_parameters.specs.Values.{is_id, is_no}
use Rattle.xapi_parameters.specs.Queries.{AreFilters, id_under}
use Rattle.xapi_parameters.specs.declared.pair.Pair.{Pair}
use Rattle.xapi_parameters.specs.declared.refused.QueryRefused.TheVariants.{BadLink, BadParameter, Memory}

is_that_rule : (rule : ℕ) (found : Option ℕ) → is_rule rule found ≡ true → found ≡ Some rule
is_that_rule rule None is = absurd (false≢true is)
is_that_rule rule (Some n) is = let same : n ≡ rule = grind (arith, nat_tests) in ap Some same

once_at : (x y : Bool) (rule : ℕ) (demand : Type 0) (a b : Option ℕ) (R S : Type 0) → is_rule rule a ≡ x → is_rule rule b ≡ y → (R → S → a ≡ b)
    → MatchBool x (¬ demand) (demand × R) → MatchBool y (¬ demand) (demand × S) → a ≡ b
once_at true true rule demand a b R S p q others left right = is_that_rule rule a p ∙ sym (is_that_rule rule b q)
once_at true false rule demand a b R S p q others left right = absurd (left right.0)
once_at false true rule demand a b R S p q others left right = absurd (right left.0)
once_at false false rule demand a b R S p q others left right = others left.1 right.1

pub once : (rule : ℕ) (demand : Type 0) (a b : Option ℕ) (R S : Type 0) → (R → S → a ≡ b) → Demands rule demand a R → Demands rule demand b S → a ≡ b
once rule demand a b R S others left right = once_at (is_rule rule a) (is_rule rule b) rule demand a b R S refl refl others left right

pub both_none : (a b : Option ℕ) → a ≡ None → b ≡ None → a ≡ b
both_none a b p q = p ∙ sym q

pub put_once : (pairs : List Pair) (a b : Option ℕ) → LeastOfPut a pairs → LeastOfPut b pairs → a ≡ b
put_once pairs a b =
    once 2 _ a b _ _ (once 3 _ a b _ _ (once 4 _ a b _ _ (once 5 _ a b _ _ (both_none a b))))

list_once : (names : List (List ℕ)) (pairs : List Pair) (a b : Option ℕ) (R S : Type 0) → (R → S → a ≡ b) → DemandsOfList names pairs a R → DemandsOfList names pairs b S → a ≡ b
list_once names pairs a b R S others =
    once 2 _ a b _ _ (once 3 _ a b _ _ (once 5 _ a b _ _ (once 6 _ a b _ _ (once 7 _ a b _ _ (once 8 _ a b _ _
    (once 9 _ a b _ _ (once 10 _ a b _ _ (once 11 _ a b R S others))))))))

pub get_once : (pairs : List Pair) (a b : Option ℕ) → LeastOfGet a pairs → LeastOfGet b pairs → a ≡ b
get_once pairs a b = list_once get_names pairs a b _ _ (once 12 _ a b _ _ (once 13 _ a b _ _ (both_none a b)))

pub link_once : (pairs : List Pair) (a b : Option ℕ) → LeastOfLink a pairs → LeastOfLink b pairs → a ≡ b
link_once pairs a b = list_once link_names pairs a b _ _ (once 14 _ a b _ _ (both_none a b))

pub memory_answers : (T : Type 0) (found : Option ℕ) → TellsLeast {T = T} found (Err Memory)
memory_answers T None = tt
memory_answers T (Some rule) = tt

pub rule_answers : (T : Type 0) (found : Option ℕ) (rule : ℕ) → found ≡ Some rule → TellsLeast {T = T} found (Err (BadParameter rule))
rule_answers T None rule is = absurd (cc is)
rule_answers T (Some n) rule is = let same : n ≡ rule = cc is in sym same

pub value_answers : {T : Type 0} (found : Option ℕ) (value : T) → found ≡ None → TellsLeast found (Ok value)
value_answers None value is = tt
value_answers (Some n) value is = absurd (cc is)

pub bad_link_answers : (T : Type 0) (found : Option ℕ) → found ≡ Some 14 → TellsLeast {T = T} found (Err BadLink)
bad_link_answers T None is = absurd (cc is)
bad_link_answers T (Some n) is = cc is

pub get_at : (pairs : List Pair) (a b : Option ℕ) → a ≡ b → LeastOfGet a pairs → LeastOfGet b pairs
get_at pairs a b is least = let P : Option ℕ → Type 0 = λ found. LeastOfGet found pairs in subst P is least

pub link_at : (pairs : List Pair) (a b : Option ℕ) → a ≡ b → LeastOfLink a pairs → LeastOfLink b pairs
link_at pairs a b is least = let P : Option ℕ → Type 0 = λ found. LeastOfLink found pairs in subst P is least

-- ---- where no rule is broken

-- what is asked of a list is met, and the others decide
pub record Meets (names : List (List ℕ)) (pairs : List Pair) (others : Type 0) : Type 0 where
  pub ids : IsTrue (has_ids pairs)
  pub filters : AreFilters pairs
  pub rest : others

meets : (names : List (List ℕ)) (pairs : List Pair) (others : Type 0) → DemandsOfList names pairs None others → Meets names pairs others
meets names pairs others met = record {
  ids = met.1.1.0;
  filters = record { actor = met.1.1.1.0; iris = met.1.1.1.1.0; limit = met.1.1.1.1.1.1.1.0 };
  rest = met.1.1.1.1.1.1.1.1.1;
}

pub get_filters : (pairs : List Pair) → LeastOfGet None pairs → AreFilters pairs
get_filters pairs least = (meets get_names pairs _ least).filters

pub link_filters : (pairs : List Pair) → LeastOfLink None pairs → AreFilters pairs
link_filters pairs least = (meets link_names pairs _ least).filters

-- the two numbers, and that they are in order
pub link_numbers : (pairs : List Pair) → LeastOfLink None pairs
    → (has_link_number (codes "asof") pairs ≡ true) × (has_link_number (codes "after") pairs ≡ true)
    × (nat_lt (number_under (codes "after") pairs) (number_under (codes "asof") pairs) ≡ true)
link_numbers pairs least =
    let numbers = (meets link_names pairs _ least).rest.0 in
    let two = first_so _ _ numbers in
    (first_so _ _ two, second_so _ _ two, second_so _ _ numbers)

not_given : (value : Option (List ℕ)) → option_map_or is_id value true ≡ true → None ≡ option_and_then id_of value → is_some value ≡ false
not_given None passed none = refl
not_given (Some text) passed none = absurd (false≢true (ap is_some none ∙ passed))

-- without an id a list is asked for
pub asks_for_many : (pairs : List Pair) → LeastOfGet None pairs → None ≡ id_under (codes "statementId") pairs → None ≡ id_under (codes "voidedStatementId") pairs
    → (has (codes "statementId") pairs || has (codes "voidedStatementId") pairs) ≡ false
asks_for_many pairs least none neither =
    let ids = first_so _ _ (meets get_names pairs _ least).ids in
    let one = not_given (given (codes "statementId") pairs) (first_so _ _ ids) none in
    let other = not_given (given (codes "voidedStatementId") pairs) (second_so _ _ ids) neither in
    rw (one, other) refl

-- ---- the rules of a list, and those after them

more_at : (x : Bool) (demand R S : Type 0) → (R → S) → MatchBool x (¬ demand) (demand × R) → MatchBool x (¬ demand) (demand × S)
more_at true demand R S f broken = broken
more_at false demand R S f met = (met.0, f met.1)

pub more : (rule : ℕ) (demand : Type 0) (found : Option ℕ) (R S : Type 0) → (R → S) → Demands rule demand found R → Demands rule demand found S
more rule demand found R S f = more_at (is_rule rule found) demand R S f

list_more : (names : List (List ℕ)) (pairs : List Pair) (found : Option ℕ) (R S : Type 0) → (R → S) → DemandsOfList names pairs found R → DemandsOfList names pairs found S
list_more names pairs found R S f =
    more 2 _ found _ _ (more 3 _ found _ _ (more 5 _ found _ _ (more 6 _ found _ _ (more 7 _ found _ _ (more 8 _ found _ _
    (more 9 _ found _ _ (more 10 _ found _ _ (more 11 _ found R S f))))))))

pub not_true : (b : Bool) → b ≡ false → ¬ (b ≡ true)
not_true true is = cc is
not_true false is = λ e. false≢true e

module _ (given names : List (List ℕ)) (pairs : List Pair) (found : Option ℕ) (same : given ≡ names) (least : DemandsOfList given pairs found (found ≡ None)) where
  -- one of them is broken: those after them don't count
  list_broken : (rule : ℕ) (S : Type 0) → found ≡ Some rule → DemandsOfList names pairs (Some rule) S
  list_broken rule S is =
      let P : List (List ℕ) → Type 0 = λ ns. DemandsOfList ns pairs found (found ≡ None) in
      let Q : Option ℕ → Type 0 = λ o. DemandsOfList names pairs o (o ≡ None) in
      list_more names pairs (Some rule) (Some rule ≡ None) S (λ none. absurd (cc none)) (subst Q is (subst P same least))

  -- none of them is broken: those after them decide
  list_met : (S : Type 0) → found ≡ None → S → DemandsOfList names pairs None S
  list_met S is s =
      let P : List (List ℕ) → Type 0 = λ ns. DemandsOfList ns pairs found (found ≡ None) in
      let Q : Option ℕ → Type 0 = λ o. DemandsOfList names pairs o (o ≡ None) in
      list_more names pairs None (None ≡ None) S (λ _. s) (subst Q is (subst P same least))

module _ (given : List (List ℕ)) (pairs : List Pair) (found : Option ℕ) (same : given ≡ get_names) (least : DemandsOfList given pairs found (found ≡ None)) where
  pub get_broken : (rule : ℕ) → found ≡ Some rule → LeastOfGet (Some rule) pairs
  get_broken rule is = list_broken given get_names pairs found same least rule _ is

  pub get_12 : found ≡ None → passes is_no (codes "attachments") pairs ≡ false → LeastOfGet (Some 12) pairs
  get_12 is other = list_met given get_names pairs found same least _ is (not_true _ other)

  pub get_13 : found ≡ None → passes is_no (codes "attachments") pairs ≡ true → asks_for_one pairs ≡ false → LeastOfGet (Some 13) pairs
  get_13 is none one = list_met given get_names pairs found same least _ is (none, not_true _ one)

  pub get_none : found ≡ None → passes is_no (codes "attachments") pairs ≡ true → asks_for_one pairs ≡ true → LeastOfGet None pairs
  get_none is none one = list_met given get_names pairs found same least _ is (none, (one, refl))

module _ (given : List (List ℕ)) (pairs : List Pair) (found : Option ℕ) (same : given ≡ link_names) (least : DemandsOfList given pairs found (found ≡ None)) where
  pub link_broken : (rule : ℕ) → found ≡ Some rule → LeastOfLink (Some rule) pairs
  link_broken rule is = list_broken given link_names pairs found same least rule _ is

  pub link_14 : found ≡ None → has_link_numbers pairs ≡ false → LeastOfLink (Some 14) pairs
  link_14 is numbers = list_met given link_names pairs found same least _ is (not_true _ numbers)

  pub link_none : found ≡ None → has_link_numbers pairs ≡ true → LeastOfLink None pairs
  link_none is numbers = list_met given link_names pairs found same least _ is (numbers, refl)
