-- The least rule that the parameters of documents break, and what is given where they break none.
use Rattle.std.proofs.Common.{◌≡◌, ℕ, true, false, List, [], ◌∷◌, Option, Some, None, codes, refl, subst}
use Rattle.std.specs.Cmp.{first_so, second_so}
use Rattle.xapi_parameters.specs.Documents.{DemandsOfDocuments, HasOwners, LeastOfDocument, LeastOfDocuments, LeastOfDrop, document_names, have_all, key_names, names_of_get, owner_names}
use Rattle.xapi_parameters.specs.Parameters.{has, passes}
use Rattle.xapi_parameters.specs.Values.{is_timestamp}
use Rattle.xapi_parameters.specs.declared.pair.Pair.{Pair}
use Rattle.xapi_parameters.proofs.Least.{both_none, more, not_true, once}

-- ---- each rule is found once

documents_once : (names required : List (List ℕ)) (pairs : List Pair) (a b : Option ℕ) (R S : Type 0) → (R → S → a ≡ b)
    → DemandsOfDocuments names required pairs a R → DemandsOfDocuments names required pairs b S → a ≡ b
documents_once names required pairs a b R S others =
    once 2 _ a b _ _ (once 3 _ a b _ _ (once 4 _ a b _ _ (once 5 _ a b _ _ (once 6 _ a b _ _ (once 7 _ a b R S others)))))

pub document_once : (pairs : List Pair) (a b : Option ℕ) → LeastOfDocument a pairs → LeastOfDocument b pairs → a ≡ b
document_once pairs a b = documents_once document_names key_names pairs a b _ _ (both_none a b)

pub drop_once : (pairs : List Pair) (a b : Option ℕ) → LeastOfDrop a pairs → LeastOfDrop b pairs → a ≡ b
drop_once pairs a b = documents_once document_names owner_names pairs a b _ _ (both_none a b)

pub documents_get_once : (pairs : List Pair) (a b : Option ℕ) → LeastOfDocuments a pairs → LeastOfDocuments b pairs → a ≡ b
documents_get_once pairs a b = documents_once (names_of_get pairs) owner_names pairs a b _ _ (once 9 _ a b _ _ (both_none a b))

pub document_at : (pairs : List Pair) (a b : Option ℕ) → a ≡ b → LeastOfDocument a pairs → LeastOfDocument b pairs
document_at pairs a b is least = let P : Option ℕ → Type 0 = λ found. LeastOfDocument found pairs in subst P is least

pub drop_at : (pairs : List Pair) (a b : Option ℕ) → a ≡ b → LeastOfDrop a pairs → LeastOfDrop b pairs
drop_at pairs a b is least = let P : Option ℕ → Type 0 = λ found. LeastOfDrop found pairs in subst P is least

pub documents_at : (pairs : List Pair) (a b : Option ℕ) → a ≡ b → LeastOfDocuments a pairs → LeastOfDocuments b pairs
documents_at pairs a b is least = let P : Option ℕ → Type 0 = λ found. LeastOfDocuments found pairs in subst P is least

-- ---- the rule behind those that all share

documents_more : (names required : List (List ℕ)) (pairs : List Pair) (found : Option ℕ) (R S : Type 0) → (R → S)
    → DemandsOfDocuments names required pairs found R → DemandsOfDocuments names required pairs found S
documents_more names required pairs found R S f =
    more 2 _ found _ _ (more 3 _ found _ _ (more 4 _ found _ _ (more 5 _ found _ _ (more 6 _ found _ _ (more 7 _ found R S f)))))

module _ (given needed : List (List ℕ)) (pairs : List Pair) (found : Option ℕ) (same : given ≡ names_of_get pairs) (also : needed ≡ owner_names) (least : DemandsOfDocuments given needed pairs found (found ≡ None)) where
  at_get : (o : Option ℕ) → found ≡ o → DemandsOfDocuments (names_of_get pairs) owner_names pairs o (o ≡ None)
  at_get o is =
      let P : List (List ℕ) → Type 0 = λ ns. DemandsOfDocuments ns needed pairs found (found ≡ None) in
      let Q : List (List ℕ) → Type 0 = λ ns. DemandsOfDocuments (names_of_get pairs) ns pairs found (found ≡ None) in
      let R : Option ℕ → Type 0 = λ x. DemandsOfDocuments (names_of_get pairs) owner_names pairs x (x ≡ None) in
      subst R is (subst Q also (subst P same least))

  pub documents_broken : (rule : ℕ) → found ≡ Some rule → LeastOfDocuments (Some rule) pairs
  documents_broken rule is = documents_more (names_of_get pairs) owner_names pairs (Some rule) (Some rule ≡ None) _ (λ none. absurd (cc none)) (at_get (Some rule) is)

  pub documents_9 : found ≡ None → passes is_timestamp (codes "since") pairs ≡ false → LeastOfDocuments (Some 9) pairs
  documents_9 is other = documents_more (names_of_get pairs) owner_names pairs None (None ≡ None) _ (λ _. not_true _ other) (at_get None is)

  pub documents_none : found ≡ None → passes is_timestamp (codes "since") pairs ≡ true → LeastOfDocuments None pairs
  documents_none is since = documents_more (names_of_get pairs) owner_names pairs None (None ≡ None) _ (λ _. (since, refl)) (at_get None is)

-- ---- where no rule is broken

owners : (names more : List (List ℕ)) (pairs : List Pair) (others : Type 0) → DemandsOfDocuments names (codes "activityId" ∷ codes "agent" ∷ more) pairs None others → HasOwners pairs
owners names more pairs others met =
    let all : have_all (codes "activityId" ∷ codes "agent" ∷ more) pairs ≡ true = met.1.1.0 in
    record {
      activity_stands = first_so _ _ all;
      activity_passes = met.1.1.1.1.1.0;
      agent_stands = first_so _ _ (second_so _ _ all);
      agent_passes = met.1.1.1.1.0;
    }

pub document_owners : (pairs : List Pair) → LeastOfDocument None pairs → HasOwners pairs
document_owners pairs = owners document_names (codes "stateId" ∷ []) pairs _

pub drop_owners : (pairs : List Pair) → LeastOfDrop None pairs → HasOwners pairs
drop_owners pairs = owners document_names [] pairs _

pub documents_owners : (pairs : List Pair) → LeastOfDocuments None pairs → HasOwners pairs
documents_owners pairs = owners (names_of_get pairs) [] pairs _

pub document_state : (pairs : List Pair) → LeastOfDocument None pairs → has (codes "stateId") pairs ≡ true
document_state pairs least =
    let all : have_all key_names pairs ≡ true = least.1.1.0 in
    first_so _ _ (second_so _ _ (second_so _ _ all))
