-- What is listed stands where a page is looked for.
use Rattle.std.proofs.Common.{◌≡◌, ◌<◌, ◌≤◌, ◌+◌, ◌&&◌, ◌||◌, ℕ, zero, suc, List, [], length, take, drop, refl, sym, ◌∙◌, ap, subst, arith, Option, Some, None, IfNone, IfSome, is_some, Bool, true, false, not, nat_le, nat_lt, slice_get, inl, inr}
use Rattle.std.specs.Prelude.{◌⊎◌, filter, option_and_then, position}
use Rattle.std.specs.List.{list_any}
use Rattle.std.specs.Option.{option_map_or}
use Rattle.std.specs.Str.{bytes_eq}
use Rattle.std.proofs.lemmas.Bool.{and_from, and_parts, and_right, cases_lt, le-leb, lt-ltb, or_cases, or_left, or_right}
use Rattle.std.proofs.lemmas.List.{drop_all}
use Rattle.lrs_json.specs.View.{view}
use Rattle.xapi_search.specs.XapiIndexIndex.{IsPosting}
use Rattle.xapi_search.specs.XapiStatementStatements.{is_voided, position_referred, referred_at}
use Rattle.xapi_search.specs.XapiIndexFirstsProofs.{get_first}
use Rattle.xapi_search.specs.XapiPostingsAscending.{is_in}
use Rattle.xapi_search.specs.XapiPostingsAscendingProofs.{is_in-below, is_in-positions}
use Rattle.xapi_search.specs.XapiQueryFilters.{direct, in_time, sees}
use Rattle.xapi_search.specs.XapiQueryQueryQuery.{Query}
use Rattle.xapi_search.specs.XapiQuerySightSight.{Sight}
use Rattle.xapi_search.specs.Candidates.{Bounds, Reaches, is_candidate, stands_in}
use Rattle.xapi_search.specs.Sought.{AreDirect, TellsSought, is_seen, passes}
use Rattle.xapi_search.specs.declared.candidates.Candidates.{Candidates}
use Rattle.xapi_search.specs.declared.candidates.Lists.{Lists}
use Rattle.xapi_search.specs.declared.sought.Sought.{Sought}
use Rattle.xapi_search.specs.XapiStatementStored.{StoredStatement}
use Rattle.xapi_search.specs.XapiStatementStatement.{target_of}
use Rattle.xapi_search.specs.XapiStatementKeysKeys.{has_key}
use Rattle.xapi_search.specs.XapiStatementKeysKeyKey.{Key}
use Rattle.xapi_search.specs.XapiStatementKeysKeyKeyTheVariants as key
use Rattle.xapi_pages.specs.Chains.{chain_passes, is_direct_at, reaches}
use Rattle.xapi_pages.specs.Listings.{chain_from, is_listed, is_listed_at, positions_of}
use Rattle.xapi_pages.specs.Searching.{Covers, HasDirect, HaveAll, SkipsNone, may_be_listed}
use Rattle.xapi_pages.proofs.Fronts.{between, position_within}
use Rattle.xapi_pages.proofs.References.{chain_told, passing_first, there}

-- what is said of the value that there is
pub at_some : {A : Type 0} (o : Option A) (x : A) (P : A → Type 0) → o ≡ Some x → IfSome o P → P x
at_some None x P is said = cc is
at_some (Some y) x P is said = let same : y ≡ x = cc is in subst (λ z. P z) same said

-- what is said where there is none
pub if_none : {A : Type 0} {P Q : Type 0} (o : Option A) → (P → Q) → IfNone o P → IfNone o Q
if_none None more is = more is
if_none (Some x) more is = tt

-- ---- between candidates

module _ (query : Query) (sight : Sight) (sought : Sought) (held : List StoredStatement) (n : ℕ) (c : Candidates) (tells : TellsSought query sight held sought) (covers : Covers query sought held n c) (b : ℕ → Bool) where
  left_out : (i k : ℕ) → is_candidate c k ≡ false → slice_get (positions_of query.ascending n) i ≡ Some k → b k && is_listed_at query sight (take n held) k ≡ false
  left_out i k none at =
      and_right (b k) (is_listed_at query sight (take n held) k) (covers sight tells k (position_within query.ascending n i k at) none)

  -- nothing is listed from an index on up to the next candidate's
  pub none_between : (start i : ℕ) → start ≤ i → SkipsNone c query.ascending n start (Some i)
      → filter b (filter (is_listed_at query sight (take n held)) (drop start (positions_of query.ascending n))) ≡ filter b (filter (is_listed_at query sight (take n held)) (drop i (positions_of query.ascending n)))
  none_between start i le skips =
      between b (is_listed_at query sight (take n held)) start i (positions_of query.ascending n) le (λ j k from lt at. left_out j k (skips j k from (lt-ltb j i lt) at) at)

  -- nothing is listed behind the last one
  pub none_behind : (start : ℕ) → SkipsNone c query.ascending n start None → filter b (filter (is_listed_at query sight (take n held)) (drop start (positions_of query.ascending n))) ≡ []
  none_behind start skips =
      let all = positions_of query.ascending n in
      between b (is_listed_at query sight (take n held)) start (start + length all) all (omega arith) (λ j k from lt at. left_out j k (skips j k from refl at) at)
      ∙ ap (λ ks. filter b (filter (is_listed_at query sight (take n held)) ks)) (drop_all (start + length all) all (omega arith))

-- ---- what is listed

regroup : (seen timely kept meets : Bool) → seen && kept && (meets && timely) ≡ seen && timely && kept && meets
regroup false timely kept meets = refl
regroup true true true true = refl
regroup true true true false = refl
regroup true true false meets = refl
regroup true false true true = refl
regroup true false true false = refl
regroup true false false meets = refl

parts : (seen timely kept meets : Bool) → seen && timely && kept && meets ≡ true → (seen ≡ true) × (timely ≡ true) × (meets ≡ true)
parts true true true true is = (refl, refl, refl)
parts true true true false is = cc is
parts true true false meets is = cc is
parts true false kept meets is = cc is
parts false timely kept meets is = cc is

module _ (query : Query) (sight : Sight) (sought : Sought) (held : List StoredStatement) (n : ℕ) (le : n ≤ length held) (tells : TellsSought query sight held sought) where
  -- of the statement that stands at a position
  listed_here : (k : ℕ) (s : StoredStatement) → k < n → slice_get held k ≡ Some s
      → is_listed_at query sight (take n held) k ≡ sees sight s && in_time query s && not (is_voided (take n held) s) && chain_passes sought (take n held) k
  listed_here k s lt at =
      let first = take n held in
      let here = get_first n held k lt ∙ at in
      let met = λ (o : Option StoredStatement). list_any (λ t. sees sight t && direct query t) (chain_from first (length first) o) in
      ap (λ o. option_map_or (is_listed query sight first) o false) here
      ∙ (regroup (sees sight s) (in_time query s) (not (is_voided first s)) (met (Some s))
      ∙ ap (λ b. sees sight s && in_time query s && not (is_voided first s) && b) (sym (chain_told query sight sought held n le tells k lt ∙ ap met here)))

  -- It is listed if it may be, and one of its chain passes.
  pub told_listed : (k : ℕ) → k < n → is_listed_at query sight (take n held) k ≡ may_be_listed query sought held n k && chain_passes sought (take n held) k
  told_listed k lt = by_there (there held k (omega (arith, le, lt)))
    where
      by_there : ((s : StoredStatement) × (slice_get held k ≡ Some s)) → is_listed_at query sight (take n held) k ≡ may_be_listed query sought held n k && chain_passes sought (take n held) k
      by_there (s, at) =
          listed_here k s lt at
          ∙ sym (ap (λ b. b && option_map_or (in_time query) (slice_get held k) false && not (option_map_or (is_voided (take n held)) (slice_get held k) false) && chain_passes sought (take n held) k) (tells.seen k s at)
          ∙ ap (λ o. sees sight s && option_map_or (in_time query) o false && not (option_map_or (is_voided (take n held)) o false) && chain_passes sought (take n held) k) at)

  -- what is listed is seen, in time, and one of its chain passes
  listed_met : (k : ℕ) → k < n → is_listed_at query sight (take n held) k ≡ true
      → (s : StoredStatement) × (slice_get held k ≡ Some s) × (is_seen sought.seen k ≡ true) × (in_time query s ≡ true) × (chain_passes sought (take n held) k ≡ true)
  listed_met k lt is = by_there (there held k (omega (arith, le, lt)))
    where
      by_there : ((s : StoredStatement) × (slice_get held k ≡ Some s))
          → (s : StoredStatement) × (slice_get held k ≡ Some s) × (is_seen sought.seen k ≡ true) × (in_time query s ≡ true) × (chain_passes sought (take n held) k ≡ true)
      by_there (s, at) =
          let all = parts (sees sight s) (in_time query s) (not (is_voided (take n held) s)) (chain_passes sought (take n held) k) (sym (listed_here k s lt at) ∙ is) in
          (s, at, tells.seen k s at ∙ all.0, all.1, all.2)

  -- what is in time stands within the bounds
  in_bounds : (first end k : ℕ) (s : StoredStatement) → Bounds query n held first end → k < n → slice_get held k ≡ Some s → in_time query s ≡ true → nat_le first k && nat_lt k end ≡ true
  in_bounds first end k s bounds lt at timely = and_from (nat_le first k) (nat_lt k end) (not_early (cases_lt k first)) (not_late (cases_lt k end))
    where
      not_early : (k < first) ⊎ (first ≤ k) → nat_le first k ≡ true
      not_early (inl less) = let out = bounds.early k s less at in cc (out, timely)
      not_early (inr from) = le-leb first k from

      not_late : (k < end) ⊎ (end ≤ k) → nat_lt k end ≡ true
      not_late (inl less) = lt-ltb k end less
      not_late (inr from) = let out = bounds.late k s lt from at in cc (out, timely)

  covers_here : (first end : ℕ) (lists : Lists) → Bounds query n held first end → HaveAll sought held n lists
      → (k : ℕ) → k < n → is_candidate (record { first = first; end = end; lists = lists }) k ≡ false → is_listed_at query sight (take n held) k ≡ false
  covers_here first end lists bounds all k lt out = by_test (is_listed_at query sight (take n held) k) refl
    where
      by_test : (b : Bool) → is_listed_at query sight (take n held) k ≡ b → b ≡ false
      by_test true is =
          let met = listed_met k lt is in
          let candidate = and_from (nat_le first k && nat_lt k end) (stands_in lists k) (in_bounds first end k met.0 bounds lt met.1 met.3) (all k lt met.2 met.4) in
          sym candidate ∙ out
      by_test false is = refl

-- lists that have all that is seen and of whose chain one passes, within the times
pub covers_all : (query : Query) (sought : Sought) (held : List StoredStatement) (n first end : ℕ) (lists : Lists) → n ≤ length held → Bounds query n held first end → HaveAll sought held n lists
    → Covers query sought held n (record { first = first; end = end; lists = lists })
covers_all query sought held n first end lists le bounds all = λ sight tells k lt out. covers_here query sight sought held n le tells first end lists bounds all k lt out

-- ---- the lists

-- a statement that has a key stands under it
in_posting : (held : List StoredStatement) (coming : ℕ) (one : Key) (ks : List ℕ) → IsPosting held coming one ks → (k : ℕ) (s : StoredStatement) → slice_get held k ≡ Some s → has_key one s ≡ true → is_in ks k ≡ true
in_posting held coming one ks posting k s at has =
    (and_parts (nat_lt k (length held)) (is_in ks k)
    (sym (is_in-below (length held) ks k)
    ∙ (ap (λ js. is_in js k) posting.visible ∙ (is_in-positions (has_key one) held k ∙ (ap (λ o. option_map_or (has_key one) o false) at ∙ has))))).1

-- a list of all that passes, and one of all that is seen and passes
pub has_passing : (sought : Sought) (n : ℕ) (list : List ℕ) → ((k : ℕ) → passes sought k ≡ true → is_in list k ≡ true) → HasDirect sought n list
has_passing sought n list has = λ k lt direct. has k (and_parts (is_seen sought.seen k) (passes sought k) direct).1

pub has_direct : (sought : Sought) (n : ℕ) (list : List ℕ) → AreDirect sought n list → HasDirect sought n list
has_direct sought n list are = λ k lt direct. are.those k ∙ and_from (nat_lt k n) (is_direct_at sought k) (lt-ltb k n lt) direct

-- what refers to one of the first n refers to one at all
has_target : (first : List StoredStatement) (o : Option (List ℕ)) (j : ℕ) → option_and_then (λ id. position (λ (t : StoredStatement). bytes_eq t.id id) first) o ≡ Some j → is_some o ≡ true
has_target first None j is = cc is
has_target first (Some id) j is = refl

module _ (sought : Sought) (held : List StoredStatement) (n : ℕ) (le : n ≤ length held) where
  -- a position at which a statement stands that refers to another one
  refers : (coming : ℕ) (refer : List ℕ) → IsPosting held coming key.AnyReference refer → (k j : ℕ) → k < n → referred_at (take n held) k ≡ Some j → is_in refer k ≡ true
  refers coming refer posting k j lt is = by_there (there held k (omega (arith, le, lt)))
    where
      by_there : ((s : StoredStatement) × (slice_get held k ≡ Some s)) → is_in refer k ≡ true
      by_there (s, at) =
          let target = has_target (take n held) (target_of (view s.received)) j (sym (ap (λ o. option_and_then (position_referred (take n held)) o) (get_first n held k lt ∙ at)) ∙ is) in
          in_posting held coming key.AnyReference refer posting k s at target

  -- If one of a chain passes, the first one does by itself, or it refers to another one.
  pub passes_or_refers : (coming : ℕ) (list refer : List ℕ) → IsPosting held coming key.AnyReference refer → HasDirect sought n list
      → (k : ℕ) → k < n → chain_passes sought (take n held) k ≡ true → is_in list k || is_in refer k ≡ true
  passes_or_refers coming list refer posting has k lt chain = by_direct (is_direct_at sought k) refl
    where
      by_next : is_direct_at sought k ≡ false → (o : Option ℕ) → referred_at (take n held) k ≡ o → is_in refer k ≡ true
      by_next fails None at = let none = (passing_first sought held n le).ends k lt fails at in cc (chain, none)
      by_next fails (Some j) at = refers coming refer posting k j lt at

      by_direct : (b : Bool) → is_direct_at sought k ≡ b → is_in list k || is_in refer k ≡ true
      by_direct true direct = or_left (is_in list k) (is_in refer k) (has k lt direct)
      by_direct false fails = or_right (is_in list k) (is_in refer k) (by_next fails (referred_at (take n held) k) refl)

  module _ (ends found : List ℕ) (is : Reaches held n ends found) (has : HasDirect sought n ends) where
    here : (k : ℕ) → k < n → is_direct_at sought k ≡ true → is_in found k ≡ true
    here k lt direct = is.ends k lt (has k lt direct)

    along : (steps k : ℕ) → k < n → reaches (is_direct_at sought) (referred_at (take n held)) steps (Some k) ≡ true → is_in found k ≡ true
    along zero k lt passing = here k lt passing
    along (suc steps) k lt passing = by_case (λ j below more. along steps j below more) (or_cases (is_direct_at sought k) (reaches (is_direct_at sought) (referred_at (take n held)) steps (referred_at (take n held) k)) passing)
      where
        by_next : ((j : ℕ) → j < n → reaches (is_direct_at sought) (referred_at (take n held)) steps (Some j) ≡ true → is_in found j ≡ true)
            → (o : Option ℕ) → referred_at (take n held) k ≡ o → reaches (is_direct_at sought) (referred_at (take n held)) steps o ≡ true → is_in found k ≡ true
        by_next further None at more = cc more
        by_next further (Some j) at more = is.referring k j lt at (further j ((passing_first sought held n le).within k j at) more)

        by_case : ((j : ℕ) → j < n → reaches (is_direct_at sought) (referred_at (take n held)) steps (Some j) ≡ true → is_in found j ≡ true)
            → (is_direct_at sought k ≡ true) ⊎ (reaches (is_direct_at sought) (referred_at (take n held)) steps (referred_at (take n held) k) ≡ true) → is_in found k ≡ true
        by_case further (inl direct) = here k lt direct
        by_case further (inr more) = by_next further (referred_at (take n held) k) refl more

    -- From a position of whose chain one passes references lead to one that stands in the list.
    pub led_from : (k : ℕ) → k < n → chain_passes sought (take n held) k ≡ true → is_in found k ≡ true
    led_from k lt chain = along (length (take n held)) k lt chain
