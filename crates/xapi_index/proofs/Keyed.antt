-- The keys of statements: of voiding ones, and of lists as a loop goes over them.
use Rattle.std.proofs.Common.{◌≡◌, ◌+◌, ◌<◌, ℕ, zero, suc, List, [], ◌∷◌, ◌++◌, length, get_or, take, refl, sym, ◌∙◌, ap, true≢false, Option, Some, None, Bool, true, false, cond, ◌&&◌, ◌||◌}
use Rattle.std.specs.Option.{option_map_or}
use Rattle.std.specs.Str.{bytes_eq}
use Rattle.std.proofs.lemmas.List.{length-map, map_more, map_push}
use Rattle.std.proofs.lemmas.List.Folds.{list_any_more}
use Rattle.std.proofs.lemmas.List.Recursion.{or_push}
use Rattle.lrs_json.specs.View.{view}
use Rattle.xapi_index.specs.Index.{is_coming, lists_of}
use Rattle.xapi_postings.specs.XapiStatementStatements.{is_that_id, voids}
use Rattle.xapi_postings.specs.XapiRulesRules.{is_voiding}
use Rattle.xapi_postings.specs.XapiStatementStatement.{target_of}
use Rattle.xapi_postings.specs.XapiStatementKeysKeys.{has_key, is_among, is_same_key}
use Rattle.xapi_postings.specs.XapiStatementKeysKeyKey.{Key}
use Rattle.xapi_postings.specs.XapiStatementKeysKeyKeyTheVariants as key
use Rattle.xapi_postings.specs.XapiStatementKeysKeysKeys.{Keys}

-- ---- voiding

void-key : (id : List ℕ) (b : Bool) (o : Option (List ℕ)) → (b && option_map_or (λ own. bytes_eq own id) o false) ≡ is_that_id id (cond b o None)
void-key id true None = refl
void-key id true (Some own) = refl
void-key id false o = refl

-- the statements with the key of those that void an id are those that void it
pub voids_keyed : (id : List ℕ) → has_key (key.Voiding id) ≡ voids id
voids_keyed id = λ i s. void-key id (is_voiding (view s.received)) (target_of (view s.received)) i

-- ---- one key more

pub among_more : (k : Key) (xs : List Key) (i : ℕ) (x : Key) → i < length xs → x ≡ get_or xs i x → is_among k (take (i + 1) xs) ≡ (is_among k (take i xs) || is_same_key x k)
among_more k xs i x less is = list_any_more (λ other. is_same_key other k) xs i x less ∙ ap (λ other. is_among k (take i xs) || is_same_key other k) (sym is)

pub among_front : (k : Key) (i : ℕ) (xs : List Key) → is_among k (take i xs) ≡ true → is_among k xs ≡ true
among_front k zero xs is = absurd (true≢false (sym is))
among_front k (suc i) [] is = is
among_front k (suc i) (x ∷ xs) is = by_test (is_same_key x k) (λ rest. among_front k i xs rest) is
  where
    by_test : (b : Bool) → (is_among k (take i xs) ≡ true → is_among k xs ≡ true) → (b || is_among k (take i xs)) ≡ true → (b || is_among k xs) ≡ true
    by_test true more is = refl
    by_test false more is = more is

-- ---- the keys of one more that is to come

pub coming_push : (k : Key) (coming : List (List Key)) (keys : List Key) → is_coming k (coming ++ keys ∷ []) ≡ (is_coming k coming || is_among k keys)
coming_push k coming keys = or_push (λ lists. is_coming k lists) (λ one. is_among k one) refl (λ one lists. refl) coming keys

pub coming_more : (k : Key) (xs : List Keys) (i : ℕ) (x : Keys) → i < length xs → x ≡ get_or xs i x
    → is_coming k (lists_of (take (i + 1) xs)) ≡ (is_coming k (lists_of (take i xs)) || is_among k x.items.items)
coming_more k xs i x less is =
    ap (λ lists. is_coming k lists) (map_more (λ (keys : Keys). keys.items.items) xs i x less)
    ∙ (coming_push k (lists_of (take i xs)) (get_or xs i x).items.items ∙ ap (λ (keys : Keys). is_coming k (lists_of (take i xs)) || is_among k keys.items.items) (sym is))

pub lists_push : (xs : List Keys) (x : Keys) → lists_of (xs ++ x ∷ []) ≡ lists_of xs ++ x.items.items ∷ []
lists_push xs x = map_push (λ (keys : Keys). keys.items.items) xs x

pub lists_length : (xs : List Keys) → length (lists_of xs) ≡ length xs
lists_length xs = length-map xs (λ (keys : Keys). keys.items.items)
