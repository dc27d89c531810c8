-- Keys and tokens are those of launches that the store holds.
use Rattle.std.proofs.Common.{◌≡◌, inl, inr, ℕ, ◌+◌, ◌<◌, List, [], ◌∷◌, ◌++◌, length, Bool, true, false, Option, Some, None, refl, sym, ap, subst, ◌∙◌, arith, length-append, append_assoc, append-nil}
use Rattle.std.specs.Prelude.{if◌then◌else◌, option_map, slice_get}
use Rattle.std.specs.List.{AllByRecursion}
use Rattle.std.specs.Str.{bytes_eq}
use Rattle.cmi5_course.specs.declared.launch.Launch.{Launch}
use Rattle.lrs_history.specs.Effects.{effect}
use Rattle.lrs_history.specs.Occasions.{Occasion, occasion}
use Rattle.lrs_history.specs.DeskEffects.{coming}
use Rattle.lrs_history.specs.History.{state, state_from, step}
use Rattle.lrs_history.specs.Whose.{known_as, who_is}
use Rattle.lrs_laws.proofs.Keepers.{state_from-append}
use Rattle.lrs_laws.proofs.Lists.{each_first, each_found, each_push, each_weaker, item_still, item_there}
use Rattle.lrs_laws.proofs.Moves.{Moves, moves, new_key}
use Rattle.lrs_command.specs.declared.who.Who.TheVariants as who
use Rattle.lrs_state.specs.Founding.{is_admin}
use Rattle.lrs_state.specs.Providers.{index_of_token}
use Rattle.lrs_record.specs.declared.entry.Caller.{Caller}
use Rattle.lrs_record.specs.declared.entry.Caller.TheVariants.{Nobody, Operator, Token}
use Rattle.lrs_state.specs.Launches.{keys_after, launch_of_token, launches_after, token_under, tokens_after, unchanged_keys, unchanged_launches, unchanged_tokens}
use Rattle.lrs_state.specs.State.{State, apply, nothing}
use Rattle.lrs_state.specs.declared.effect.Effect.{Effect}
use Rattle.lrs_state.specs.declared.launches.HeldKey.{HeldKey}
use Rattle.lrs_state.specs.declared.launches.HeldToken.{HeldToken}
use Rattle.lrs_record.specs.declared.entry.Entry.{Entry}
use Rattle.lrs_record.specs.declared.entry.Write.{Write}
use Rattle.lrs_register.specs.declared.change.Change.{Change}

-- ---- one entry after the other

-- what holds of no entry, and of one more, holds of every history
pub by_entries : (P : List Entry → Type 0) → P [] → ((h : List Entry) (e : Entry) → P h → P (h ++ e ∷ [])) → (h : List Entry) → P h
by_entries P none more h = behind [] h none
  where
    behind : (before after : List Entry) → P before → P (before ++ after)
    behind before [] is = subst P (sym (append-nil before)) is
    behind before (e ∷ after) is = subst P (append_assoc before (e ∷ []) after) (behind (before ++ e ∷ []) after (more before e is))

pub after_one : (h : List Entry) (e : Entry) → state (h ++ e ∷ []) ≡ step (state h) e
after_one h e = state_from-append nothing h (e ∷ [])

-- ---- launch numbers

-- the launches of these keys and tokens are held
abbrev pub AreLaunchedIn : List Launch → List HeldKey → List HeldToken → Type 0
AreLaunchedIn launches keys tokens =
    AllByRecursion (λ (k : HeldKey). k.launch < length launches) keys × AllByRecursion (λ (t : HeldToken). t.launch < length launches) tokens

abbrev pub AreLaunched : State → Type 0
AreLaunched st = AreLaunchedIn st.launches st.keys st.tokens

-- of changed lists, where the changes are known
known_in : (st : State) (l launches : Change Launch) (k keys : Change HeldKey) (t tokens : Change HeldToken) → l ≡ launches → k ≡ keys → t ≡ tokens
    → AreLaunchedIn (launches_after st.launches launches) (keys_after st.keys keys) (tokens_after st.tokens tokens) → AreLaunchedIn (launches_after st.launches l) (keys_after st.keys k) (tokens_after st.tokens t)
known_in st l launches k keys t tokens il ik it each =
    subst (λ c. AreLaunchedIn (launches_after st.launches c) (keys_after st.keys k) (tokens_after st.tokens t)) (sym il)
    (subst (λ c. AreLaunchedIn (launches_after st.launches launches) (keys_after st.keys c) (tokens_after st.tokens t)) (sym ik)
    (subst (λ c. AreLaunchedIn (launches_after st.launches launches) (keys_after st.keys keys) (tokens_after st.tokens c)) (sym it) each))

launched_after : (st : State) (at : Occasion) (w : Write) (x : Effect) → Moves st at w x → AreLaunched st → AreLaunched (apply st x)
launched_after st at w x (inl quiet) each = known_in st x.launches unchanged_launches x.keys unchanged_keys x.tokens unchanged_tokens quiet.launches quiet.keys quiet.tokens each
launched_after st at w x (inr (inl comes)) each =
    known_in st x.launches (coming comes.launch) x.keys (coming (new_key st at)) x.tokens unchanged_tokens comes.launches comes.keys comes.tokens (
      each_push (λ (k : HeldKey). k.launch < length (st.launches ++ comes.launch ∷ [])) st.keys (new_key st at)
          (each_weaker (λ (k : HeldKey). k.launch < length st.launches) (λ (k : HeldKey). k.launch < length (st.launches ++ comes.launch ∷ [])) (λ k less. omega (arith, less, longer)) st.keys each.0)
          (omega (arith, longer)),
      each_weaker (λ (t : HeldToken). t.launch < length st.launches) (λ (t : HeldToken). t.launch < length (st.launches ++ comes.launch ∷ [])) (λ t less. omega (arith, less, longer)) st.tokens each.1,
    )
  where
    longer : length (st.launches ++ comes.launch ∷ []) ≡ length st.launches + 1
    longer = length-append st.launches (comes.launch ∷ [])
launched_after st at w x (inr (inr gift)) each =
    subst (λ y. AreLaunched (apply st y)) (sym gift.gives) (
      each_first (λ (k : HeldKey). k.launch < length st.launches) (λ (k : HeldKey). bytes_eq k.key gift.key.key) (record gift.key { fetched = true }) st.keys each.0 less,
      each_push (λ (t : HeldToken). t.launch < length st.launches) st.tokens (record { token = at.token; launch = gift.key.launch }) each.1 less,
    )
  where
    less : gift.key.launch < length st.launches
    less = each_found (λ (k : HeldKey). k.launch < length st.launches) (λ (k : HeldKey). bytes_eq k.key gift.name) st.keys gift.key each.0 gift.held

pub all_launched : (h : List Entry) → AreLaunched (state h)
all_launched = by_entries (λ h. AreLaunched (state h)) (tt, tt)
    (λ h e each. subst AreLaunched (sym (after_one h e)) (launched_after (state h) (occasion (state h) e) e.write (effect (state h) e) (moves (state h) (occasion (state h) e) e.write) each))

-- the launch of a known token is held
pub token_launched : (st : State) (token : List ℕ) (k : ℕ) → AreLaunched st → launch_of_token token st.tokens ≡ Some k → (launch : Launch) × (slice_get st.launches k ≡ Some launch)
token_launched st token k each is = by_token (token_under token st.tokens) refl is
  where
    by_token : (o : Option HeldToken) → token_under token st.tokens ≡ o → option_map (λ (t : HeldToken). t.launch) o ≡ Some k → (launch : Launch) × (slice_get st.launches k ≡ Some launch)
    by_token None found at = cc at
    by_token (Some t) found at =
        let same : t.launch ≡ k = cc at in
        item_there st.launches k
        (subst (λ n. n < length st.launches) same (each_found (λ (t : HeldToken). t.launch < length st.launches) (λ (t : HeldToken). bytes_eq t.token token) st.tokens t each.1 found))

-- whoever acts in a session presents a token of its launch
pub acting : (st : State) (token : List ℕ) (k : ℕ) → who_is st (Token token) ≡ who.Session k → launch_of_token token st.tokens ≡ Some k
acting st token k is = by_admin (is_admin st.founding token) is
  where
    by_indices : (o p : Option ℕ) → launch_of_token token st.tokens ≡ p → known_as o p ≡ who.Session k → launch_of_token token st.tokens ≡ Some k
    by_indices None None acts at = cc at
    by_indices None (Some j) acts at = let same : j ≡ k = cc at in acts ∙ ap Some same
    by_indices (Some j) p acts at = cc at

    by_admin : (b : Bool) → (if b then who.Admin else known_as (index_of_token token st.providers) (launch_of_token token st.tokens)) ≡ who.Session k → launch_of_token token st.tokens ≡ Some k
    by_admin true at = cc at
    by_admin false at = by_indices (index_of_token token st.providers) (launch_of_token token st.tokens) refl at

-- the launch of a session is held
pub session_launched : (h : List Entry) (caller : Caller) (k : ℕ) → who_is (state h) caller ≡ who.Session k → (launch : Launch) × (slice_get (state h).launches k ≡ Some launch)
session_launched h Nobody k is = cc is
session_launched h Operator k is = cc is
session_launched h (Token token) k is = token_launched (state h) token k (all_launched h) (acting (state h) token k is)

-- ---- launches stay

pub there_after : (st : State) (at : Occasion) (w : Write) (x : Effect) (k : ℕ) (launch : Launch) → Moves st at w x → slice_get st.launches k ≡ Some launch → slice_get (launches_after st.launches x.launches) k ≡ Some launch
there_after st at w x k launch (inl quiet) is = ap (λ c. slice_get (launches_after st.launches c) k) quiet.launches ∙ is
there_after st at w x k launch (inr (inl comes)) is = ap (λ c. slice_get (launches_after st.launches c) k) comes.launches ∙ item_still st.launches (comes.launch ∷ []) k launch is
there_after st at w x k launch (inr (inr gift)) is = ap (λ (y : Effect). slice_get (launches_after st.launches y.launches) k) gift.gives ∙ is

pub launched_on : (st : State) (more : List Entry) (k : ℕ) (launch : Launch) → slice_get st.launches k ≡ Some launch → slice_get (state_from st more).launches k ≡ Some launch
launched_on st [] k launch is = is
launched_on st (e ∷ more) k launch is = launched_on (step st e) more k launch (there_after st (occasion st e) e.write (effect st e) k launch (moves st (occasion st e) e.write) is)
