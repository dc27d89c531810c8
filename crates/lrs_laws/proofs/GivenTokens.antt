-- A session's token was given away by a fetch, and is never a provider's.
use Rattle.std.proofs.Common.{◌≡◌, inl, inr, ℕ, ◌+◌, ◌^◌, ◌<◌, ◌≤◌, List, [], ◌∷◌, ◌++◌, length, drop, Bool, true, false, Option, Some, None, cond, refl, sym, ap, subst, ◌∙◌, arith, length-append, append_assoc}
use Rattle.std.specs.Fmt.{decimal}
use Rattle.std.specs.Prelude.{option_map, position}
use Rattle.std.specs.List.{AllByRecursion, position_from}
use Rattle.std.specs.Option.{option_or}
use Rattle.std.specs.Str.{bytes_eq}
use Rattle.std.specs.Cmp.Lexicographic.{same_text}
use Rattle.std.proofs.Math.Seq.{drop-append_seam}
use Rattle.std.proofs.lemmas.Fmt.{decimal_injective}
use Rattle.std.proofs.lemmas.Iterator.Adapters.{position_from-zero}
use Rattle.std.proofs.lemmas.List.Folds.{find-append}
use Rattle.lrs_history.specs.Effects.{effect}
use Rattle.lrs_history.specs.Occasions.{Occasion, occasion}
use Rattle.lrs_history.specs.History.{state, state_from, step}
use Rattle.lrs_laws.proofs.Launched.{after_one, by_entries}
use Rattle.lrs_laws.proofs.Lists.{each_found, each_push, each_weaker, found_passes}
use Rattle.lrs_laws.proofs.Moves.{Moves, MovesProviders, moves}
use Rattle.lrs_laws.specs.Sessions.{WasGiven}
use Rattle.lrs_state.specs.Launches.{launch_of_token, token_under, tokens_after}
use Rattle.lrs_state.specs.Providers.{index_of_token, providers_after}
use Rattle.lrs_state.specs.State.{State, nothing}
use Rattle.lrs_state.specs.declared.effect.Effect.{Effect}
use Rattle.lrs_state.specs.declared.launches.HeldToken.{HeldToken}
use Rattle.lrs_state.specs.declared.providers.HeldProvider.{HeldProvider}
use Rattle.lrs_fields.proofs.Words.{length-word_text}
use Rattle.lrs_record.specs.Entries.{word_text}
use Rattle.lrs_record.specs.declared.entry.Entry.{Entry}
use Rattle.lrs_record.specs.declared.entry.Write.{Write}
use Rattle.lrs_replies.specs.Texts.{token_text}

-- ---- the number of entries

length_from : (st : State) (h : List Entry) → (state_from st h).length ≡ st.length + length h
length_from st [] = omega arith
length_from st (e ∷ h) = let one : (step st e).length ≡ st.length + 1 = refl in length_from (step st e) h ∙ omega (arith, one)

pub state_length : (h : List Entry) → (state h).length ≡ length h
state_length h = length_from nothing h ∙ omega arith

-- ---- where tokens come from

abbrev WereGiven : List Entry → List HeldToken → Type 0
WereGiven h tokens = AllByRecursion (λ (t : HeldToken). WasGiven h t.token) tokens

given_still : (h more : List Entry) (token : List ℕ) → WasGiven h token → WasGiven (h ++ more) token
given_still h more token given = record {
  before = given.before;
  fetch = given.fetch;
  behind = given.behind ++ more;
  whole = ap (λ es. es ++ more) given.whole ∙ append_assoc given.before (given.fetch ∷ given.behind) more;
  key = given.key;
  fetches = given.fetches;
  told = given.told;
}

given_after : (h : List Entry) (e : Entry) (x : Effect) → Moves (state h) (occasion (state h) e) e.write x → WereGiven h (state h).tokens → WereGiven (h ++ e ∷ []) (tokens_after (state h).tokens x.tokens)
given_after h e x by_move each = by_kind by_move
  where
    still : WereGiven (h ++ e ∷ []) (state h).tokens
    still = each_weaker (λ (t : HeldToken). WasGiven h t.token) (λ (t : HeldToken). WasGiven (h ++ e ∷ []) t.token) (λ t given. given_still h (e ∷ []) t.token given) (state h).tokens each

    by_kind : Moves (state h) (occasion (state h) e) e.write x → WereGiven (h ++ e ∷ []) (tokens_after (state h).tokens x.tokens)
    by_kind (inl quiet) = subst (λ c. WereGiven (h ++ e ∷ []) (tokens_after (state h).tokens c)) (sym quiet.tokens) still
    by_kind (inr (inl comes)) = subst (λ c. WereGiven (h ++ e ∷ []) (tokens_after (state h).tokens c)) (sym comes.tokens) still
    by_kind (inr (inr gift)) =
        subst (λ (y : Effect). WereGiven (h ++ e ∷ []) (tokens_after (state h).tokens y.tokens)) (sym gift.gives)
        (each_push (λ (t : HeldToken). WasGiven (h ++ e ∷ []) t.token) (state h).tokens (record { token = (occasion (state h) e).token; launch = gift.key.launch }) still (record {
          before = h;
          fetch = e;
          behind = [];
          whole = refl;
          key = gift.name;
          fetches = gift.fetches;
          told = ap (λ n. token_text n e.draw.secret) (state_length h);
        }))

pub all_given : (h : List Entry) → WereGiven h (state h).tokens
all_given = by_entries (λ h. WereGiven h (state h).tokens) tt
    (λ h e each. subst (λ (st : State). WereGiven (h ++ e ∷ []) st.tokens) (sym (after_one h e)) (given_after h e (effect (state h) e) (moves (state h) (occasion (state h) e) e.write) each))

pub token_given : (h : List Entry) (token : List ℕ) (k : ℕ) → launch_of_token token (state h).tokens ≡ Some k → WasGiven h token
token_given h token k is = by_token (token_under token (state h).tokens) refl is
  where
    by_token : (o : Option HeldToken) → token_under token (state h).tokens ≡ o → option_map (λ (t : HeldToken). t.launch) o ≡ Some k → WasGiven h token
    by_token None found at = cc at
    by_token (Some t) found at =
        each_found (λ (t : HeldToken). bytes_eq t.token token ≡ true → WasGiven h token) (λ (t : HeldToken). bytes_eq t.token token) (state h).tokens t
        (each_weaker (λ (t : HeldToken). WasGiven h t.token) (λ (t : HeldToken). bytes_eq t.token token ≡ true → WasGiven h token) (λ t given same. subst (WasGiven h) (same_text t.token token (sym same)) given) (state h).tokens (all_given h))
        found (found_passes (λ (t : HeldToken). bytes_eq t.token token) (state h).tokens t found)

-- ---- tokens of different indices

behind_word : (word : ℕ) (rest : List ℕ) → drop 32 (word_text word ++ rest) ≡ rest
behind_word word rest = ap (λ n. drop n (word_text word ++ rest)) (sym (length-word_text word)) ∙ drop-append_seam (word_text word) rest

pub joined : (index secret : ℕ) → token_text index secret ≡ word_text secret ++ 45 ∷ decimal index
joined index secret = append_assoc (word_text secret) (45 ∷ []) (decimal index)

pub same_index : (m n s t : ℕ) → m < 2 ^ 64 → n < 2 ^ 64 → token_text m s ≡ token_text n t → m ≡ n
same_index m n s t small few is =
    let tails : 45 ∷ decimal m ≡ 45 ∷ decimal n = sym (behind_word s (45 ∷ decimal m)) ∙ (ap (drop 32) (sym (joined m s) ∙ (is ∙ joined n t)) ∙ behind_word t (45 ∷ decimal n)) in
    decimal_injective m n small few (ap (drop 1) tails)

-- what is given away later is another token
pub other_token : (h : List Entry) (token : List ℕ) (n secret : ℕ) → WasGiven h token → length h ≤ n → n < 2 ^ 64 → bytes_eq (token_text n secret) token ≡ false
other_token h token n secret given later few = by_test (bytes_eq (token_text n secret) token) refl
  where
    earlier : length given.before < length h
    earlier = omega (arith, ap (λ es. length es) given.whole, length-append given.before (given.fetch ∷ given.behind))

    by_test : (b : Bool) → bytes_eq (token_text n secret) token ≡ b → b ≡ false
    by_test false is = refl
    by_test true is =
        let index : n ≡ length given.before = same_index n (length given.before) secret given.fetch.draw.secret few (omega (arith, earlier, later, few)) (same_text (token_text n secret) token (sym is) ∙ given.told) in
        absurd (omega (arith, earlier, later, index))

-- ---- what a token tells stays

from_none : {A : Type 0} (p : A → Bool) (i : ℕ) (xs : List A) (y : A) → position_from p i xs ≡ None → p y ≡ false → position_from p i (xs ++ y ∷ []) ≡ None
from_none p i [] y none other = ap (λ b. cond b (Some i) None) other
from_none {A} p i (x ∷ xs) y none other = by_test (p x) none (λ rest. from_none p (i + 1) xs y rest other)
  where
    by_test : (b : Bool) → cond b (Some i) (position_from p (i + 1) xs) ≡ None → (position_from p (i + 1) xs ≡ None → position_from p (i + 1) (xs ++ y ∷ []) ≡ None)
        → cond b (Some i) (position_from p (i + 1) (xs ++ y ∷ [])) ≡ None
    by_test true at more = cc at
    by_test false at more = more at

none_push : {A : Type 0} (p : A → Bool) (xs : List A) (y : A) → position p xs ≡ None → p y ≡ false → position p (xs ++ y ∷ []) ≡ None
none_push p xs y none other = position_from-zero p (xs ++ y ∷ []) ∙ from_none p 0 xs y (sym (position_from-zero p xs) ∙ none) other

none_made : (h : List Entry) (token : List ℕ) (st : State) (e : Entry) (x : Effect) → MovesProviders (occasion st e) x → WasGiven h token → length h ≤ st.length → st.length < 2 ^ 64
    → index_of_token token st.providers ≡ None → index_of_token token (providers_after st.providers x.providers) ≡ None
none_made h token st e x (inl same) given later few none = ap (λ c. index_of_token token (providers_after st.providers c)) same ∙ none
none_made h token st e x (inr made) given later few none =
    ap (λ c. index_of_token token (providers_after st.providers c)) made.providers
    ∙ none_push (λ (c : HeldProvider). bytes_eq c.token token) st.providers (record { name = made.name; token = (occasion st e).token }) none (other_token h token st.length e.draw.secret given later few)

pub provider_moves : (st : State) (at : Occasion) (w : Write) (x : Effect) → Moves st at w x → MovesProviders at x
provider_moves st at w x (inl quiet) = quiet.providers
provider_moves st at w x (inr (inl comes)) = inl comes.providers
provider_moves st at w x (inr (inr gift)) = inl (ap (λ (y : Effect). y.providers) gift.gives)

-- a token that was given away is no provider's later
pub no_provider_on : (h : List Entry) (token : List ℕ) (st : State) (more : List Entry) → WasGiven h token → length h ≤ st.length → st.length + length more < 2 ^ 64
    → index_of_token token st.providers ≡ None → index_of_token token (state_from st more).providers ≡ None
no_provider_on h token st [] given later few none = none
no_provider_on h token st (e ∷ more) given later few none =
    let one : (step st e).length ≡ st.length + 1 = refl in
    no_provider_on h token (step st e) more given (omega (arith, later, one)) (omega (arith, few, one))
    (none_made h token st e (effect st e) (provider_moves st (occasion st e) e.write (effect st e) (moves st (occasion st e) e.write)) given later (omega (arith, few)) none)

found_after : (token : List ℕ) (st : State) (at : Occasion) (w : Write) (x : Effect) (t : HeldToken) → Moves st at w x → token_under token st.tokens ≡ Some t → token_under token (tokens_after st.tokens x.tokens) ≡ Some t
found_after token st at w x t (inl quiet) is = ap (λ c. token_under token (tokens_after st.tokens c)) quiet.tokens ∙ is
found_after token st at w x t (inr (inl comes)) is = ap (λ c. token_under token (tokens_after st.tokens c)) comes.tokens ∙ is
found_after token st at w x t (inr (inr gift)) is =
    let new : HeldToken = record { token = at.token; launch = gift.key.launch } in
    ap (λ (y : Effect). token_under token (tokens_after st.tokens y.tokens)) gift.gives
    ∙ (find-append (λ (u : HeldToken). bytes_eq u.token token) st.tokens (new ∷ []) ∙ ap (λ o. option_or o (token_under token (new ∷ []))) is)

token_on : (token : List ℕ) (st : State) (more : List Entry) (t : HeldToken) → token_under token st.tokens ≡ Some t → token_under token (state_from st more).tokens ≡ Some t
token_on token st [] t is = is
token_on token st (e ∷ more) t is = token_on token (step st e) more t (found_after token st (occasion st e) e.write (effect st e) t (moves st (occasion st e) e.write) is)

-- a token that is known is that of the same launch later
pub launch_on : (token : List ℕ) (st : State) (more : List Entry) (k : ℕ) → launch_of_token token st.tokens ≡ Some k → launch_of_token token (state_from st more).tokens ≡ Some k
launch_on token st more k is = by_token (token_under token st.tokens) refl is
  where
    by_token : (o : Option HeldToken) → token_under token st.tokens ≡ o → option_map (λ (t : HeldToken). t.launch) o ≡ Some k → launch_of_token token (state_from st more).tokens ≡ Some k
    by_token None found at = cc at
    by_token (Some t) found at = ap (λ o. option_map (λ (t : HeldToken). t.launch) o) (token_on token st more t found) ∙ at
