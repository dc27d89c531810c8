-- The rules P2 to P14 on the parameters of a request, by their numbers; P1 is that they are texts.
use Rattle.std.specs.Prelude.{◌≡◌, ℕ, nat_lt, Bool, true, false, not, ◌&&◌, ◌||◌, ◌==◌, List, [], ◌∷◌, Option, Some}
use Rattle.std.specs.Prelude.{None, is_some, codes, IsTrue, MatchBool, MatchOption, Result, Ok, Err, if◌then◌else◌}
use Rattle.std.specs.Option.{option_map_or}
use Rattle.std.specs.Str.{bytes_eq}
use Rattle.std.specs.Str.Parse.{digits_value}
use Rattle.lrs_names.specs.Iris.{is_iri}
use Rattle.lrs_names.specs.Members.{is_one_of}
use Rattle.xapi_parameters.specs.declared.pair.Pair.{Pair}
use Rattle.xapi_parameters.specs.declared.refused.QueryRefused.{QueryRefused}
use Rattle.xapi_parameters.specs.declared.refused.QueryRefused.TheVariants.{BadLink, BadParameter, Memory}
use Rattle.xapi_parameters.specs.Values.{IsActor, is_format, is_id, is_limit, is_no, is_link_number, is_timestamp}
use Rattle.xapi_parameters.specs.Values.{is_truth}

-- ---- the names of parameters

-- of a PUT of a statement
abbrev pub put_names : List (List ℕ)
put_names = codes "statementId" ∷ []

-- of a GET of statements
abbrev pub get_names : List (List ℕ)
get_names =
    codes "statementId" ∷ codes "voidedStatementId" ∷ codes "agent" ∷ codes "verb" ∷ codes "activity"
    ∷ codes "registration"
    ∷ codes "related_activities" ∷ codes "related_agents" ∷ codes "since" ∷ codes "until" ∷ codes "limit"
    ∷ codes "ascending"
    ∷ codes "format" ∷ codes "attachments" ∷ []

-- of a more link
abbrev pub link_names : List (List ℕ)
link_names =
    codes "asof" ∷ codes "after" ∷ codes "agent" ∷ codes "verb" ∷ codes "activity" ∷ codes "registration"
    ∷ codes "related_activities"
    ∷ codes "related_agents" ∷ codes "since" ∷ codes "until" ∷ codes "limit" ∷ codes "ascending" ∷ codes "format" ∷ []

-- of a GET of one statement
abbrev pub one_names : List (List ℕ)
one_names = codes "statementId" ∷ codes "voidedStatementId" ∷ codes "format" ∷ codes "attachments" ∷ []

-- ---- what is asked of pairs

-- each name is one of these
abbrev pub are_among : List (List ℕ) → List Pair → Bool
are_among names [] = true
are_among names (pair ∷ pairs) = is_one_of names pair.name && are_among names pairs

-- The value that is given under a name: the first, if the name stands twice, which rule 3 refuses.
abbrev pub given : List ℕ → List Pair → Option (List ℕ)
given name [] = None
given name (pair ∷ pairs) = if bytes_eq pair.name name then Some pair.value else given name pairs

abbrev pub has : List ℕ → List Pair → Bool
has name pairs = is_some (given name pairs)

-- no name stands twice
abbrev pub are_distinct : List Pair → Bool
are_distinct [] = true
are_distinct (pair ∷ pairs) = not (has pair.name pairs) && are_distinct pairs

-- the value passes, if one is given under that name
abbrev pub passes : (List ℕ → Bool) → List ℕ → List Pair → Bool
passes test name pairs = option_map_or test (given name pairs) true

abbrev pub Passes : (List ℕ → Type 0) → List ℕ → List Pair → Type 0
Passes test name pairs = MatchOption (given name pairs) (Unit {0}) test

abbrev pub has_ids : List Pair → Bool
has_ids pairs = passes is_id (codes "statementId") pairs && passes is_id (codes "voidedStatementId") pairs
    && passes is_id (codes "registration") pairs

abbrev pub has_iris : List Pair → Bool
has_iris pairs = passes is_iri (codes "verb") pairs && passes is_iri (codes "activity") pairs

abbrev pub has_truths : List Pair → Bool
has_truths pairs =
    passes is_truth (codes "related_agents") pairs && passes is_truth (codes "related_activities") pairs
    && passes is_truth (codes "ascending") pairs

abbrev pub has_timestamps : List Pair → Bool
has_timestamps pairs = passes is_timestamp (codes "since") pairs && passes is_timestamp (codes "until") pairs

-- Where one statement is asked for by its id, it is asked for once, and by nothing else.
abbrev pub asks_for_one : List Pair → Bool
asks_for_one pairs =
    not (has (codes "statementId") pairs || has (codes "voidedStatementId") pairs)
    || (not (has (codes "statementId") pairs && has (codes "voidedStatementId") pairs) && are_among one_names pairs)

-- the number that is given under a name; 0 where none is
abbrev pub number_under : List ℕ → List Pair → ℕ
number_under name pairs = option_map_or (digits_value 10) (given name pairs) 0

abbrev pub has_link_number : List ℕ → List Pair → Bool
has_link_number name pairs = option_map_or is_link_number (given name pairs) false

-- It tells how many statements there were, and the position of one of them.
abbrev pub has_link_numbers : List Pair → Bool
has_link_numbers pairs =
    has_link_number (codes "asof") pairs && has_link_number (codes "after") pairs
    && nat_lt (number_under (codes "after") pairs) (number_under (codes "asof") pairs)

-- ---- the rules

abbrev pub is_rule : ℕ → Option ℕ → Bool
is_rule rule None = false
is_rule rule (Some n) = n == rule

-- One rule of several, in the order of their numbers: it is the one that is found, and its demand isn't met; or its
-- demand is met, and the others decide.
abbrev pub Demands : ℕ → Type 0 → Option ℕ → Type 0 → Type 0
Demands rule demand found others = MatchBool (is_rule rule found) (¬ demand) (demand × others)

-- The least rule that the parameters of a PUT of a statement break, None if they break none.
abbrev pub LeastOfPut : Option ℕ → List Pair → Type 0
LeastOfPut found pairs =
    Demands 2 (IsTrue (are_among put_names pairs)) found
    (Demands 3 (IsTrue (are_distinct pairs)) found
    (Demands 4 (IsTrue (has (codes "statementId") pairs)) found
    (Demands 5 (IsTrue (passes is_id (codes "statementId") pairs)) found
    (found ≡ None))))

-- P2 to P11 of a list that is asked for by parameters of these names, and then the others.
abbrev pub DemandsOfList : List (List ℕ) → List Pair → Option ℕ → Type 0 → Type 0
DemandsOfList names pairs found others =
    Demands 2 (IsTrue (are_among names pairs)) found
    (Demands 3 (IsTrue (are_distinct pairs)) found
    (Demands 5 (IsTrue (has_ids pairs)) found
    (Demands 6 (Passes IsActor (codes "agent") pairs) found
    (Demands 7 (IsTrue (has_iris pairs)) found
    (Demands 8 (IsTrue (has_truths pairs)) found
    (Demands 9 (IsTrue (has_timestamps pairs)) found
    (Demands 10 (IsTrue (passes is_limit (codes "limit") pairs)) found
    (Demands 11 (IsTrue (passes is_format (codes "format") pairs)) found others))))))))

-- The least rule that the parameters of a GET of statements break, None if they break none.
abbrev pub LeastOfGet : Option ℕ → List Pair → Type 0
LeastOfGet found pairs =
    DemandsOfList get_names pairs found
    (Demands 12 (IsTrue (passes is_no (codes "attachments") pairs)) found
    (Demands 13 (IsTrue (asks_for_one pairs)) found
    (found ≡ None)))

-- The least rule that the parameters of a more link break, None if they break none. Its names leave nothing for P12 and
-- P13.
abbrev pub LeastOfLink : Option ℕ → List Pair → Type 0
LeastOfLink found pairs =
    DemandsOfList link_names pairs found (Demands 14 (IsTrue (has_link_numbers pairs)) found (found ≡ None))

-- ---- answers

-- It is the answer if that rule, or none, is the least that is broken: only running out of memory is free. A link out
-- of form breaks rule 14.
abbrev pub TellsLeast : {T : Type 0} → Option ℕ → Result T QueryRefused → Type 0
TellsLeast None (Ok value) = Unit {0}
TellsLeast None (Err (BadParameter number)) = ⊥
TellsLeast None (Err BadLink) = ⊥
TellsLeast None (Err Memory) = Unit {0}
TellsLeast (Some rule) (Ok value) = ⊥
TellsLeast (Some rule) (Err (BadParameter number)) = number ≡ rule
TellsLeast (Some rule) (Err BadLink) = rule ≡ 14
TellsLeast (Some rule) (Err Memory) = Unit {0}
