-- Chains of references by the positions of statements: what holds of whether one passes.
use Rattle.std.proofs.Common.{◌≡◌, ◌<◌, ◌≤◌, ◌&&◌, ◌||◌, ℕ, zero, suc, List, [], ◌∷◌, length, take, refl, sym, ◌∙◌, ap, subst, arith, Option, Some, None, Bool, true, false, cond, nat_lt, slice_get}
use Rattle.std.specs.Prelude.{option_and_then, position}
use Rattle.std.specs.List.{list_any, position_or_len}
use Rattle.std.specs.Option.{option_map_or}
use Rattle.std.specs.Str.{bytes_eq}
use Rattle.std.proofs.lemmas.Grind.{common_steps}
use Rattle.std.proofs.lemmas.List.{length-take-le}
use Rattle.lrs_json.specs.View.{view}
use Rattle.lrs_register.proofs.Firsts.{position-item}
use Rattle.xapi_search.specs.XapiQueryFilters.{direct, sees}
use Rattle.xapi_search.specs.XapiQueryQueryQuery.{Query}
use Rattle.xapi_search.specs.XapiQuerySightSight.{Sight}
use Rattle.xapi_search.specs.Sought.{TellsSought, passes}
use Rattle.xapi_search.specs.declared.sought.Sought.{Sought}
use Rattle.xapi_search.specs.XapiStatementStored.{StoredStatement}
use Rattle.xapi_search.specs.XapiStatementStatement.{target_of}
use Rattle.xapi_pages.specs.Listings.{chain_from, referred}
use Rattle.xapi_search.specs.XapiStatementStatements.{held_under, position_referred, referred_at}
use Rattle.xapi_search.specs.XapiIndexFirstsProofs.{get_first}
use Rattle.xapi_pages.specs.Chains.{chain_passes, is_among, is_direct_at, reaches}
use Rattle.xapi_pages.proofs.Walks.{alike, enough, none_reached, reach}

-- Positions below n, some of which pass, each with a next one or none; and whether one that passes is met on the way from a position.
pub record TellsPassing (p : ℕ → Bool) (next : ℕ → Option ℕ) (n : ℕ) (v : ℕ → Bool) : Type 0 where
  pub here : (k : ℕ) → p k ≡ true → v k ≡ true
  pub on : (k j : ℕ) → k < n → p k ≡ false → next k ≡ Some j → v k ≡ v j
  pub ends : (k : ℕ) → k < n → p k ≡ false → next k ≡ None → v k ≡ false
  pub round : (path : List ℕ) → ((w : ℕ) → is_among path w ≡ true → p w ≡ false) → ((w j : ℕ) → is_among path w ≡ true → next w ≡ Some j → is_among path j ≡ true)
      → (w : ℕ) → is_among path w ≡ true → v w ≡ false
  pub within : (k j : ℕ) → next k ≡ Some j → j < n

-- ---- by position

-- what stands at a position that a list has
pub there : {A : Type 0} (xs : List A) (k : ℕ) → k < length xs → (x : A) × (slice_get xs k ≡ Some x)
there [] k lt = absurd (omega arith)
there (x ∷ xs) zero lt = (x, refl)
there (x ∷ xs) (suc k) lt = there xs k (omega arith)

position-below : {A : Type 0} (q : A → Bool) (xs : List A) (j : ℕ) → position q xs ≡ Some j → j < length xs
position-below q xs j is = by_test (nat_lt (position_or_len q xs) (length xs)) refl is
  where
    below : nat_lt (position_or_len q xs) (length xs) ≡ true → position_or_len q xs < length xs
    below e = grind (arith, common_steps)

    by_test : (b : Bool) → nat_lt (position_or_len q xs) (length xs) ≡ b → cond b (Some (position_or_len q xs)) None ≡ Some j → j < length xs
    by_test true lt at = let same : position_or_len q xs ≡ j = cc at in subst (λ k. k < length xs) same (below lt)
    by_test false lt at = cc at

-- ---- references

-- the statement at a position is seen and passes the filters by itself
abbrev pub is_met_at : Query → Sight → List StoredStatement → ℕ → Bool
is_met_at query sight statements k = option_map_or (λ s. sees sight s && direct query s) (slice_get statements k) false

module _ (held : List StoredStatement) where
  at_position : (s : StoredStatement) → option_and_then (λ k. slice_get held k) (position_referred held s) ≡ referred held s
  at_position s = by_target (target_of (view s.received))
    where
      by_target : (o : Option (List ℕ)) → option_and_then (λ k. slice_get held k) (option_and_then (λ id. position (λ t. bytes_eq t.id id) held) o) ≡ option_and_then (λ id. held_under id held) o
      by_target None = refl
      by_target (Some id) = position-item (λ t. bytes_eq t.id id) held

  referred-below : (k j : ℕ) → referred_at held k ≡ Some j → j < length held
  referred-below k j is = by_held (slice_get held k) is
    where
      by_target : (o : Option (List ℕ)) → option_and_then (λ id. position (λ (t : StoredStatement). bytes_eq t.id id) held) o ≡ Some j → j < length held
      by_target None at = cc at
      by_target (Some id) at = position-below (λ t. bytes_eq t.id id) held j at

      by_held : (o : Option StoredStatement) → option_and_then (position_referred held) o ≡ Some j → j < length held
      by_held None at = cc at
      by_held (Some s) at = by_target (target_of (view s.received)) at

  or_false : (b : Bool) → b ≡ b || false
  or_false true = refl
  or_false false = refl

  -- a walk over positions meets what a chain of statements has
  tie : (query : Query) (sight : Sight) (steps : ℕ) (o : Option ℕ)
      → reaches (is_met_at query sight held) (referred_at held) steps o ≡ list_any (λ s. sees sight s && direct query s) (chain_from held steps (option_and_then (λ k. slice_get held k) o))
  tie query sight steps None = refl
  tie query sight zero (Some k) = one (slice_get held k)
    where
      one : (o : Option StoredStatement) → option_map_or (λ s. sees sight s && direct query s) o false ≡ list_any (λ s. sees sight s && direct query s) (chain_from held 0 o)
      one None = refl
      one (Some s) = or_false (sees sight s && direct query s)
  tie query sight (suc steps) (Some k) = one (slice_get held k) (tie query sight steps (referred_at held k))
    where
      one : (o : Option StoredStatement)
          → reaches (is_met_at query sight held) (referred_at held) steps (option_and_then (position_referred held) o)
          ≡ list_any (λ s. sees sight s && direct query s) (chain_from held steps (option_and_then (λ k. slice_get held k) (option_and_then (position_referred held) o)))
          → (option_map_or (λ s. sees sight s && direct query s) o false || reaches (is_met_at query sight held) (referred_at held) steps (option_and_then (position_referred held) o))
          ≡ list_any (λ s. sees sight s && direct query s) (chain_from held (suc steps) o)
      one None more = refl
      one (Some s) more = ap (λ b. (sees sight s && direct query s) || b) (more ∙ ap (λ o. list_any (λ s. sees sight s && direct query s) (chain_from held steps o)) (at_position s))

  further : (sought : Sought) (k : ℕ) (o : Option ℕ) → k < length held → is_direct_at sought k ≡ false → referred_at held k ≡ o
      → chain_passes sought held k ≡ reaches (is_direct_at sought) (referred_at held) (length held) o
  further sought k o lt fails at =
      sym (enough (is_direct_at sought) (referred_at held) (length held) referred-below k lt)
      ∙ (ap (λ b. b || reaches (is_direct_at sought) (referred_at held) (length held) (referred_at held k)) fails
      ∙ ap (λ o. reaches (is_direct_at sought) (referred_at held) (length held) o) at)

  pub passing : (sought : Sought) → TellsPassing (is_direct_at sought) (referred_at held) (length held) (chain_passes sought held)
  passing sought = record {
    here = λ k is. reach (is_direct_at sought) (referred_at held) (length held) 0 k (omega arith) is;
    on = λ k j lt fails at. further sought k (Some j) lt fails at;
    ends = λ k lt fails at. further sought k None lt fails at;
    round = λ path fails closed w among. none_reached (is_direct_at sought) (referred_at held) path fails closed (length held) w among;
    within = referred-below;
  }

-- the same of the first n statements
pub passing_first : (sought : Sought) (held : List StoredStatement) (n : ℕ) → n ≤ length held
    → TellsPassing (is_direct_at sought) (referred_at (take n held)) n (chain_passes sought (take n held))
passing_first sought held n le =
    subst (λ m. TellsPassing (is_direct_at sought) (referred_at (take n held)) m (chain_passes sought (take n held))) (length-take-le n held le) (passing (take n held) sought)

-- ---- what the lists tell

module _ (query : Query) (sight : Sight) (sought : Sought) (held : List StoredStatement) (n : ℕ) (le : n ≤ length held) (tells : TellsSought query sight held sought) where
  told : (k : ℕ) → k < n → is_direct_at sought k ≡ is_met_at query sight (take n held) k
  told k lt = by_there (there held k (omega (arith, le, lt)))
    where
      by_there : ((s : StoredStatement) × (slice_get held k ≡ Some s)) → is_direct_at sought k ≡ is_met_at query sight (take n held) k
      by_there (s, at) =
          ap (λ b. b && passes sought k) (tells.seen k s at)
          ∙ (ap (λ b. sees sight s && b) (tells.passes k s at)
          ∙ sym (ap (λ o. option_map_or (λ t. sees sight t && direct query t) o false) (get_first n held k lt ∙ at)))

  -- what they tell of the chain of a statement among the first n
  pub chain_told : (k : ℕ) → k < n
      → chain_passes sought (take n held) k ≡ list_any (λ s. sees sight s && direct query s) (chain_from (take n held) (length (take n held)) (slice_get (take n held) k))
  chain_told k lt =
      alike (is_direct_at sought) (is_met_at query sight (take n held)) (referred_at (take n held)) n told (passing_first sought held n le).within (length (take n held)) k lt
      ∙ tie (take n held) query sight (length (take n held)) (Some k)
