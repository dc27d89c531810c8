-- A token that a fetch gave away opens its launch's session.
use Rattle.std.proofs.Common.{◌≡◌, inl, inr, ℕ, ◌+◌, ◌^◌, ◌<◌, List, [], ◌∷◌, ◌++◌, length, Bool, true, false, ◌&&◌, Option, Some, None, cond, refl, sym, ap, subst, ◌∙◌, arith, length-append, true≢false}
use Rattle.std.specs.Fmt.{decimal}
use Rattle.std.specs.Prelude.{find, if◌then◌else◌, option_map, slice_get}
use Rattle.std.specs.Char.{is_ascii_alphanumeric}
use Rattle.std.specs.List.{AllByRecursion, list_all, position_from}
use Rattle.std.specs.Option.{option_or}
use Rattle.std.specs.Str.{bytes_eq}
use Rattle.std.specs.Cmp.Lexicographic.{same_text}
use Rattle.std.specs.Cmp.{second_so}
use Rattle.std.proofs.lemmas.Cmp.{nat_list_eq_equiv}
use Rattle.std.proofs.lemmas.Iterator.Adapters.{position_from-zero}
use Rattle.std.proofs.lemmas.List.Folds.{find-append, list_all-append}
use Rattle.lrs_command.specs.declared.who.Who.TheVariants as who
use Rattle.lrs_history.specs.Effects.{effect}
use Rattle.lrs_history.specs.Occasions.{occasion}
use Rattle.lrs_history.specs.History.{state, state_from, step}
use Rattle.lrs_history.specs.Whose.{known_as}
use Rattle.lrs_laws.proofs.Fetching.{fetched_name, gave, legal_from}
use Rattle.lrs_laws.proofs.GivenTokens.{all_given, joined, launch_on, no_provider_on, provider_moves, same_index, state_length}
use Rattle.lrs_laws.proofs.Keepers.{state_from-append}
use Rattle.lrs_laws.proofs.Launched.{after_one, all_launched, by_entries, launched_on}
use Rattle.lrs_laws.proofs.Lists.{each_found, each_push, each_weaker, item_there}
use Rattle.lrs_laws.proofs.Moves.{MovesProviders, moves}
use Rattle.lrs_laws.proofs.PageLaws.{has_founding}
use Rattle.lrs_laws.specs.Sessions.{GivenTokensAct, WasGiven}
use Rattle.lrs_state.specs.Founding.{is_admin, is_token}
use Rattle.lrs_state.specs.Launches.{key_under, launch_of_token, token_under, tokens_after}
use Rattle.lrs_state.specs.Providers.{index_of_token, providers_after}
use Rattle.lrs_state.specs.State.{State, nothing}
use Rattle.lrs_state.specs.declared.effect.Effect.{Effect}
use Rattle.lrs_state.specs.declared.founding.Founding.{Founding}
use Rattle.lrs_state.specs.declared.launches.HeldKey.{HeldKey}
use Rattle.lrs_state.specs.declared.launches.HeldToken.{HeldToken}
use Rattle.lrs_state.specs.declared.providers.HeldProvider.{HeldProvider}
use Rattle.lrs_record.specs.Entries.{word_text}
use Rattle.lrs_record.specs.declared.entry.Entry.{Entry}
use Rattle.lrs_replies.specs.Texts.{token_text}

-- ---- the indices of providers' tokens

-- the token tells an earlier index than that
record TellsIndex (n : ℕ) (token : List ℕ) : Type 0 where
  pub index : ℕ
  pub secret : ℕ
  pub earlier : index < n
  pub told : token ≡ token_text index secret

abbrev AreTold : ℕ → List HeldProvider → Type 0
AreTold n providers = AllByRecursion (λ (c : HeldProvider). TellsIndex n c.token) providers

told_after : (h : List Entry) (e : Entry) (x : Effect) → MovesProviders (occasion (state h) e) x → AreTold (length h) (state h).providers → AreTold (length (h ++ e ∷ [])) (providers_after (state h).providers x.providers)
told_after h e x by_move each = by_kind by_move
  where
    longer : length (h ++ e ∷ []) ≡ length h + 1
    longer = length-append h (e ∷ [])

    still : AreTold (length (h ++ e ∷ [])) (state h).providers
    still = each_weaker (λ (c : HeldProvider). TellsIndex (length h) c.token) (λ (c : HeldProvider). TellsIndex (length (h ++ e ∷ [])) c.token)
        (λ c tells. record { index = tells.index; secret = tells.secret; earlier = omega (arith, tells.earlier, longer); told = tells.told }) (state h).providers each

    by_kind : MovesProviders (occasion (state h) e) x → AreTold (length (h ++ e ∷ [])) (providers_after (state h).providers x.providers)
    by_kind (inl same) = subst (λ c. AreTold (length (h ++ e ∷ [])) (providers_after (state h).providers c)) (sym same) still
    by_kind (inr made) =
        subst (λ c. AreTold (length (h ++ e ∷ [])) (providers_after (state h).providers c)) (sym made.providers)
        (each_push (λ (c : HeldProvider). TellsIndex (length (h ++ e ∷ [])) c.token) (state h).providers (record { name = made.name; token = (occasion (state h) e).token }) still
        (record { index = length h; secret = e.draw.secret; earlier = omega (arith, longer); told = ap (λ n. token_text n e.draw.secret) (state_length h) }))

all_told : (h : List Entry) → AreTold (length h) (state h).providers
all_told = by_entries (λ h. AreTold (length h) (state h).providers) tt
    (λ h e each. subst (λ (st : State). AreTold (length (h ++ e ∷ [])) st.providers) (sym (after_one h e))
    (told_after h e (effect (state h) e) (provider_moves (state h) (occasion (state h) e) e.write (effect (state h) e) (moves (state h) (occasion (state h) e) e.write)) each))

-- ---- a token of another index

apart : (token : List ℕ) (n secret index other : ℕ) → token ≡ token_text index other → index < n → n < 2 ^ 64 → bytes_eq token (token_text n secret) ≡ false
apart token n secret index other told earlier few = by_test (bytes_eq token (token_text n secret)) refl
  where
    by_test : (b : Bool) → bytes_eq token (token_text n secret) ≡ b → b ≡ false
    by_test false is = refl
    by_test true is =
        let one : index ≡ n = same_index index n other secret (omega (arith, earlier, few)) few (sym told ∙ same_text token (token_text n secret) (sym is)) in
        absurd (omega (arith, earlier, one))

none_from : {A : Type 0} (p : A → Bool) (i : ℕ) (xs : List A) → AllByRecursion (λ x. p x ≡ false) xs → position_from p i xs ≡ None
none_from p i [] each = refl
none_from p i (x ∷ xs) each = ap (λ b. cond b (Some i) (position_from p (i + 1) xs)) each.0 ∙ none_from p (i + 1) xs each.1

no_provider : (h : List Entry) (secret : ℕ) → length h < 2 ^ 64 → index_of_token (token_text (length h) secret) (state h).providers ≡ None
no_provider h secret few =
    let T : List ℕ = token_text (length h) secret in
    position_from-zero (λ (c : HeldProvider). bytes_eq c.token T) (state h).providers
    ∙ none_from (λ (c : HeldProvider). bytes_eq c.token T) 0 (state h).providers
    (each_weaker (λ (c : HeldProvider). TellsIndex (length h) c.token) (λ (c : HeldProvider). bytes_eq c.token T ≡ false)
    (λ c tells. apart c.token (length h) secret tells.index tells.secret tells.told tells.earlier few) (state h).providers (all_told h))

none_found : {A : Type 0} (p : A → Bool) (xs : List A) → AllByRecursion (λ x. p x ≡ false) xs → find p xs ≡ None
none_found p [] each = refl
none_found p (x ∷ xs) each = ap (λ b. cond b (Some x) (find p xs)) each.0 ∙ none_found p xs each.1

no_token : (h : List Entry) (secret : ℕ) → length h < 2 ^ 64 → token_under (token_text (length h) secret) (state h).tokens ≡ None
no_token h secret few =
    let T : List ℕ = token_text (length h) secret in
    none_found (λ (t : HeldToken). bytes_eq t.token T) (state h).tokens
    (each_weaker (λ (t : HeldToken). WasGiven h t.token) (λ (t : HeldToken). bytes_eq t.token T ≡ false)
    (λ t given. apart t.token (length h) secret (length given.before) given.fetch.draw.secret given.told
    (omega (arith, ap (λ es. length es) given.whole, length-append given.before (given.fetch ∷ given.behind))) few) (state h).tokens (all_given h))

-- ---- the admin's token

and_false : (b : Bool) → b && false ≡ false
and_false true = refl
and_false false = refl

-- a token that is given away has a hyphen
hyphened : (n secret : ℕ) → list_all is_ascii_alphanumeric (token_text n secret) ≡ false
hyphened n secret =
    ap (list_all is_ascii_alphanumeric) (joined n secret) ∙ (list_all-append is_ascii_alphanumeric (word_text secret) (45 ∷ decimal n) ∙ and_false (list_all is_ascii_alphanumeric (word_text secret)))

no_admin : (o : Option Founding) (founding : Founding) (n secret : ℕ) → o ≡ Some founding → is_token founding.admin ≡ true → is_admin o (token_text n secret) ≡ false
no_admin o founding n secret is formed = ap (λ f. is_admin f (token_text n secret)) is ∙ by_test (bytes_eq founding.admin (token_text n secret)) refl
  where
    by_test : (b : Bool) → bytes_eq founding.admin (token_text n secret) ≡ b → b ≡ false
    by_test false at = refl
    by_test true at =
        let alike : founding.admin ≡ token_text n secret = same_text founding.admin (token_text n secret) (sym at) in
        absurd (true≢false (sym (second_so _ (list_all is_ascii_alphanumeric founding.admin) formed) ∙ (ap (list_all is_ascii_alphanumeric) alike ∙ hyphened n secret)))

-- ---- the law

pub given_tokens_act : GivenTokensAct
given_tokens_act limit before behind e key legal few fetches =
    let st = state before in
    let T : List ℕ = token_text (length before) e.draw.secret in
    let gift = (gave limit before e key (legal_from limit [] before behind e legal.1) fetches).gift in
    let held : HeldKey = gift.key in
    let less : held.launch < length st.launches = each_found (λ (k : HeldKey). k.launch < length st.launches) (λ (k : HeldKey). bytes_eq k.key gift.name) st.keys held (all_launched before).0 gift.held in
    let found = item_there st.launches held.launch less in
    let size : length (before ++ e ∷ behind) ≡ length before + length (e ∷ behind) = length-append before (e ∷ behind) in
    let small : length before < 2 ^ 64 = omega (arith, few, size) in
    let one : (step st e).length ≡ st.length + 1 = refl in
    let last : HeldToken = record { token = T; launch = held.launch } in
    let same_token : (occasion st e).token ≡ T = ap (λ n. token_text n e.draw.secret) (state_length before) in
    let tokens : (step st e).tokens ≡ st.tokens ++ last ∷ [] =
    ap (λ (x : Effect). tokens_after st.tokens x.tokens) gift.gives ∙ ap (λ t. st.tokens ++ record { token = t; launch = held.launch } ∷ []) same_token in
    let known : launch_of_token T (step st e).tokens ≡ Some held.launch =
    ap (λ ts. launch_of_token T ts) tokens
    ∙ (ap (λ o. option_map (λ (t : HeldToken). t.launch) o) (find-append (λ (t : HeldToken). bytes_eq t.token T) st.tokens (last ∷ [])
    ∙ (ap (λ o. option_or o (token_under T (last ∷ []))) (no_token before e.draw.secret small) ∙ ap (λ b. cond b (Some last) None) (nat_list_eq_equiv.refl T)))) in
    let given : WasGiven (before ++ e ∷ []) T = record { before = before; fetch = e; behind = []; whole = refl; key = key; fetches = fetches; told = refl } in
    let none_yet : index_of_token T (step st e).providers ≡ None =
    ap (λ (x : Effect). index_of_token T (providers_after st.providers x.providers)) gift.gives ∙ no_provider before e.draw.secret small in
    let none_later = no_provider_on (before ++ e ∷ []) T (step st e) behind given (omega (arith, one, state_length before, length-append before (e ∷ []))) (omega (arith, one, state_length before, size, few)) none_yet in
    let whole : state (before ++ e ∷ behind) ≡ state_from st (e ∷ behind) = state_from-append nothing before (e ∷ behind) in
    let founding = has_founding limit (before ++ e ∷ behind) legal in (
      found.0,
      record { held = held; found = subst (λ n. key_under n st.keys ≡ Some held) (ap fetched_name (sym gift.fetches)) gift.held; launched = found.1 },
      record {
        index = held.launch;
        known = ap (λ b. if b then who.Admin else known_as (index_of_token T (state (before ++ e ∷ behind)).providers) (launch_of_token T (state (before ++ e ∷ behind)).tokens)) (no_admin (state (before ++ e ∷ behind)).founding founding.0 (length before) e.draw.secret founding.1 founding.2)
            ∙ (ap (λ (s : State). known_as (index_of_token T s.providers) (launch_of_token T s.tokens)) whole
            ∙ (ap (λ o. known_as o (launch_of_token T (state_from st (e ∷ behind)).tokens)) none_later ∙ ap (known_as None) (launch_on T (step st e) behind held.launch known)));
        launched = ap (λ (s : State). slice_get s.launches held.launch) whole ∙ launched_on st (e ∷ behind) held.launch found.0 found.1;
      },
    )
