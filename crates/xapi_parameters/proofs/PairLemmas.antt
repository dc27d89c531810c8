-- One pair more is read.
use Rattle.std.proofs.Common.{◌≡◌, ◌⊎◌, ℕ, List, [], ◌∷◌, ◌++◌, map, Result, Ok, Err, IfErr, IsErrAnd, append_assoc, append-nil, inl, inr, sym, ap, ◌∙◌, subst}
use Rattle.std.proofs.lemmas.List.Elements.{All-head, All-push, All-same, All-tail}
use Rattle.xapi_parameters.specs.Pairs.{AreTexts, IsText, pair_of}
use Rattle.xapi_parameters.specs.declared.pair.Pair.{Pair}
use Rattle.xapi_parameters.specs.declared.refused.QueryRefused.{QueryRefused}
use Rattle.xapi_parameters.specs.declared.refused.QueryRefused.TheVariants.{BadParameter, Memory}

-- what is read and what is left are the same pairs as before
pub read_one : (items more : List Pair) (rest left : List (List ℕ × List ℕ)) (raw : List ℕ × List ℕ) (pair : Pair) (all : List Pair)
    → items ++ map pair_of rest ≡ all → rest ≡ raw ∷ left → pair ≡ pair_of raw → more ≡ items ++ pair ∷ [] → more ++ map pair_of left ≡ all
read_one items more rest left raw pair all one two three four =
    rw (four, three, append_assoc) (ap (λ r. items ++ map pair_of r) (sym two) ∙ one)

pub read_all : (items : List Pair) (rest : List (List ℕ × List ℕ)) (all : List Pair) → items ++ map pair_of rest ≡ all → rest ≡ [] → items ≡ all
read_all items rest all one none = sym (append-nil items) ∙ ap (λ r. items ++ map pair_of r) (sym none) ∙ one

within : (items behind : List Pair) (pair : Pair) → AreTexts (items ++ pair ∷ behind) → IsText pair
within [] behind pair texts = All-head IsText pair behind texts
within (item ∷ items) behind pair texts = within items behind pair (All-tail IsText item (items ++ pair ∷ behind) texts)

-- where one of them isn't UTF-8
pub no_texts : (items : List Pair) (rest left : List (List ℕ × List ℕ)) (raw : List ℕ × List ℕ) (all : List Pair)
    → items ++ map pair_of rest ≡ all → rest ≡ raw ∷ left → ¬ (IsText (pair_of raw)) → ¬ (AreTexts all)
no_texts items rest left raw all one two bad texts =
    bad (within items (map pair_of left) (pair_of raw) (subst AreTexts (sym one ∙ ap (λ r. items ++ map pair_of r) two) texts))

pub texts_more : (items more : List Pair) (pair raw : Pair) → more ≡ items ++ pair ∷ [] → pair ≡ raw → IsText raw → AreTexts items → AreTexts more
texts_more items more pair raw is same text texts =
    All-same IsText more (items ++ pair ∷ []) is (All-push IsText items pair texts (subst IsText (sym same) text))

pub texts_all : (items : List Pair) (rest : List (List ℕ × List ℕ)) (all : List Pair) → items ++ map pair_of rest ≡ all → rest ≡ [] → AreTexts items → AreTexts all
texts_all items rest all one none texts = All-same IsText all items (sym (read_all items rest all one none)) texts

-- why a pair isn't read is why the query isn't
bad_pair : (refused : QueryRefused) (raw : Pair) (all : List Pair) → (¬ (IsText raw) → ¬ (AreTexts all)) → (refused ≡ Memory) ⊎ ((refused ≡ BadParameter 1) × (¬ (IsText raw)))
    → (refused ≡ Memory) ⊎ ((refused ≡ BadParameter 1) × (¬ (AreTexts all)))
bad_pair refused raw all worse (inl memory) = inl memory
bad_pair refused raw all worse (inr bad) = inr (bad.0, worse bad.1)

pub bad_query : (T : Type 0) (result : Result T QueryRefused) (refused : QueryRefused) (raw : Pair) (all : List Pair) → (¬ (IsText raw) → ¬ (AreTexts all))
    → IsErrAnd result (λ e. e ≡ refused) → (refused ≡ Memory) ⊎ ((refused ≡ BadParameter 1) × (¬ (IsText raw)))
    → IfErr result (λ e. (e ≡ Memory) ⊎ ((e ≡ BadParameter 1) × (¬ (AreTexts all))))
bad_query T (Ok value) refused raw all worse is why = absurd is
bad_query T (Err e) refused raw all worse is why =
    let P : QueryRefused → Type 0 = λ x. (x ≡ Memory) ⊎ ((x ≡ BadParameter 1) × (¬ (AreTexts all))) in
    subst P (sym is) (bad_pair refused raw all worse why)
