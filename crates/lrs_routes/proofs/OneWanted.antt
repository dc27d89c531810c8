-- Parameters that break no rule ask for one thing.
use Rattle.std.proofs.Common.{◌≡◌, ℕ, Bool, true, false, List, Option, Some, None, refl, sym, ap, ◌∙◌, inl, inr}
use Rattle.std.specs.Prelude.{◌&&◌, ◌||◌, not, is_some, option_and_then, codes, MatchOption}
use Rattle.std.proofs.lemmas.Option.{same_Some}
use Rattle.lrs_names.specs.Ids.{id_of}
use Rattle.lrs_rules.specs.declared.rule.Rule.{Rule}
use Rattle.xapi_parameters.specs.Parameters.{LeastOfGet, are_among, given, has, number_under, one_names}
use Rattle.xapi_parameters.specs.Queries.{IsQuery, id_under}
use Rattle.xapi_parameters.specs.Wants.{IsWanted}
use Rattle.xapi_query.specs.declared.link.MoreLink.{MoreLink}
use Rattle.xapi_parameters.specs.declared.pair.Pair.{Pair}
use Rattle.xapi_query.specs.declared.wanted.Wanted.{Wanted}
use Rattle.xapi_query.specs.declared.wanted.Wanted.TheVariants.{One, Voided, Many}
use Rattle.xapi_query.specs.declared.query.Query.{Query}
use Rattle.xapi_parameters.proofs.LinkAlone.{links_alone}
use Rattle.lrs_rules.specs.declared.rule.Rule.TheVariants as rule
use Rattle.lrs_routes.specs.Forms.{Decoded}
use Rattle.lrs_routes.specs.Operations.{parameters_of_get}

id_given : (value : Option (List ℕ)) (id : List ℕ) → option_and_then id_of value ≡ Some id → is_some value ≡ true
id_given None id e = cc e
id_given (Some text) id e = refl

-- of two ids only one is given
both_asked : (one voided among : Bool) → one ≡ true → voided ≡ true → (not (one || voided) || (not (one && voided) && among)) ≡ true → ⊥
both_asked true true among h k e = cc e
both_asked true false among h k e = cc k
both_asked false voided among h k e = cc h

never_both : (pairs : List Pair) → LeastOfGet None pairs → (a b : List ℕ) → id_under (codes "statementId") pairs ≡ Some a
    → id_under (codes "voidedStatementId") pairs ≡ Some b → ⊥
never_both pairs least a b h k =
    both_asked (has (codes "statementId") pairs) (has (codes "voidedStatementId") pairs) (are_among one_names pairs)
    (id_given (given (codes "statementId") pairs) a h) (id_given (given (codes "voidedStatementId") pairs) b k)
    least.1.1.1.1.1.1.1.1.1.1.0

none_first : (one voided : Bool) → one ≡ true → (one || voided) ≡ false → ⊥
none_first true voided h e = cc e
none_first false voided h e = cc h

none_second : (one voided : Bool) → voided ≡ true → (one || voided) ≡ false → ⊥
none_second true voided h e = cc e
none_second false true h e = cc e
none_second false false h e = cc h

one_not_many : (pairs : List Pair) (id : List ℕ) → id_under (codes "statementId") pairs ≡ Some id
    → (has (codes "statementId") pairs || has (codes "voidedStatementId") pairs) ≡ false → ⊥
one_not_many pairs id h none = none_first (has (codes "statementId") pairs) (has (codes "voidedStatementId") pairs) (id_given (given (codes "statementId") pairs) id h) none

voided_not_many : (pairs : List Pair) (id : List ℕ) → id_under (codes "voidedStatementId") pairs ≡ Some id
    → (has (codes "statementId") pairs || has (codes "voidedStatementId") pairs) ≡ false → ⊥
voided_not_many pairs id h none = none_second (has (codes "statementId") pairs) (has (codes "voidedStatementId") pairs) (id_given (given (codes "voidedStatementId") pairs) id h) none

-- the link with this query, at the positions that are given
abbrev link_of : List Pair → Query → MoreLink
link_of pairs query = record { query = query; asof = number_under (codes "asof") pairs; after = number_under (codes "after") pairs }

parameters_once : (pairs : List Pair) (a b : Query) → IsQuery pairs a → IsQuery pairs b → a ≡ b
parameters_once pairs a b h k =
    let links : link_of pairs a ≡ link_of pairs b = links_alone pairs (link_of pairs a) (link_of pairs b)
    (record { query_is = h; asof_is = refl; after_is = refl }) (record { query_is = k; asof_is = refl; after_is = refl }) in
    ap (λ (link : MoreLink). link.query) links

pub wanted_once : (pairs : List Pair) → LeastOfGet None pairs → (a b : Wanted) → IsWanted pairs a → IsWanted pairs b → a ≡ b
wanted_once pairs least (One a f) (One b g) h k =
    let ids : a ≡ b = same_Some a b (sym h.0 ∙ k.0) in
    let formats : f ≡ g = h.1 ∙ sym k.1 in
    λ i. One (ids i) (formats i)
wanted_once pairs least (One a f) (Voided b g) h k = absurd (never_both pairs least a b h.0 k.0)
wanted_once pairs least (One a f) (Many q) h k = absurd (one_not_many pairs a h.0 k.0)
wanted_once pairs least (Voided a f) (One b g) h k = absurd (never_both pairs least b a k.0 h.0)
wanted_once pairs least (Voided a f) (Voided b g) h k =
    let ids : a ≡ b = same_Some a b (sym h.0 ∙ k.0) in
    let formats : f ≡ g = h.1 ∙ sym k.1 in
    λ i. Voided (ids i) (formats i)
wanted_once pairs least (Voided a f) (Many q) h k = absurd (voided_not_many pairs a h.0 k.0)
wanted_once pairs least (Many p) (One b g) h k = absurd (one_not_many pairs b k.0 h.0)
wanted_once pairs least (Many p) (Voided b g) h k = absurd (voided_not_many pairs b k.0 h.0)
wanted_once pairs least (Many p) (Many q) h k = ap Many (parameters_once pairs p q h.1 k.1)

none_some : (r : Rule) → ◌≡◌ {A = Option Rule} None (Some r) → ⊥
none_some r e = cc e

least_at : (pairs : List Pair) (found : Option ℕ) (next : Type 0) → LeastOfGet found pairs → MatchOption found next (λ n. ◌≡◌ {A = Option Rule} None (Some (rule.P n))) → LeastOfGet None pairs
least_at pairs None next own h = own
least_at pairs (Some n) next own h = absurd (none_some (rule.P n) h)

-- where a GET breaks no rule, its parameters break none
pub decoded_least : (pairs : List Pair) (next : Type 0) → Decoded parameters_of_get pairs None next → LeastOfGet None pairs
decoded_least pairs next h = elim h [
  | inl good ↦ least_at pairs good.1.0 next good.1.1 good.1.2
  | inr bad ↦ absurd (none_some (rule.P 1) bad.1)
]
