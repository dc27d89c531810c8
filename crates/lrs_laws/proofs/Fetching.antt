-- A key gives one token, once.
use Rattle.std.proofs.Common.{◌≡◌, inl, inr, ℕ, List, [], ◌∷◌, ◌++◌, length, Bool, true, false, ◌&&◌, Option, Some, None, cond, refl, sym, ap, subst, ◌∙◌, append_assoc, append-nil, true≢false}
use Rattle.std.specs.Prelude.{if◌then◌else◌}
use Rattle.std.specs.Option.{option_or}
use Rattle.std.specs.Str.{bytes_eq}
use Rattle.std.specs.Cmp.Lexicographic.{same_text}
use Rattle.std.specs.Cmp.{second_so}
use Rattle.std.proofs.lemmas.Cmp.{nat_list_eq_equiv}
use Rattle.std.proofs.lemmas.List.Folds.{find-append}
use Rattle.lrs_command.specs.declared.command.Command.TheVariants as command
use Rattle.lrs_history.specs.Answers.{write_said}
use Rattle.lrs_history.specs.Effects.{effect, effect_of}
use Rattle.lrs_history.specs.Occasions.{Occasion, occasion}
use Rattle.lrs_history.specs.DeskEffects.{fetching, giving, telling}
use Rattle.lrs_history.specs.History.{ComesNext, IsLegalFrom, answer, founds, is_operator, is_zero, next_entry, state, state_from, step}
use Rattle.lrs_history.specs.Refusals.{unless_there}
use Rattle.lrs_history.specs.Sessions.{is_closed}
use Rattle.lrs_ids.specs.Choices.{first_some}
use Rattle.lrs_laws.proofs.Again.{at_once, said_unchanged}
use Rattle.lrs_laws.proofs.Accepting.{Accepted, accepted}
use Rattle.lrs_laws.proofs.GivenTokens.{state_length}
use Rattle.lrs_laws.proofs.Keepers.{state_from-append}
use Rattle.lrs_laws.proofs.Lists.{found_passes}
use Rattle.lrs_laws.proofs.Moves.{IsGift, Moves, moves, new_key}
use Rattle.lrs_laws.specs.Fetches.{FetchesGive, KeysGiveOnce, UsedKeysAreTold}
use Rattle.lrs_state.specs.Launches.{key_under, keys_after}
use Rattle.lrs_state.specs.State.{State, changes_nothing, nothing}
use Rattle.lrs_state.specs.declared.acceptance.Acceptance.TheVariants as acceptance
use Rattle.lrs_state.specs.declared.effect.Effect.{Effect}
use Rattle.lrs_state.specs.declared.launches.HeldKey.{HeldKey}
use Rattle.lrs_record.specs.declared.entry.Entry.{Entry}
use Rattle.lrs_record.specs.declared.entry.Write.{Write}
use Rattle.lrs_record.specs.declared.entry.Write.TheVariants.{Fetch}
use Rattle.lrs_register.specs.Register.{with_first}
use Rattle.lrs_replies.specs.Texts.{key_used_body, session_token_body, token_text}
use Rattle.lrs_replies.specs.declared.answered.Answered.{Answered}
use Rattle.lrs_replies.specs.declared.answered.Answered.TheVariants.{Shown}

-- ---- used keys

-- the key is held, and it was fetched
pub record IsUsed (name : List ℕ) (keys : List HeldKey) : Type 0 where
  pub key : HeldKey
  pub held : key_under name keys ≡ Some key
  pub used : key.fetched ≡ true

-- an item in the place of the first with its text
abbrev with_key : HeldKey → List HeldKey → List HeldKey
with_key y keys = with_first (λ (x : HeldKey). bytes_eq x.key y.key) y keys

-- one that takes the place of the key that is found is found
found_with_key : (name : List ℕ) (key y : HeldKey) (keys : List HeldKey) → key_under name keys ≡ Some key → y.key ≡ key.key → key_under name (with_key y keys) ≡ Some y
found_with_key name key y [] is same = cc is
found_with_key name key y (x ∷ keys) is same = by_name (bytes_eq x.key name) refl is (λ later. found_with_key name key y keys later same)
  where
    named : bytes_eq y.key name ≡ true
    named = ap (λ t. bytes_eq t name) same ∙ found_passes (λ (k : HeldKey). bytes_eq k.key name) (x ∷ keys) key is

    by_key : (c : Bool) → bytes_eq x.key y.key ≡ c → bytes_eq x.key name ≡ false → key_under name (with_key y keys) ≡ Some y → key_under name (if c then y ∷ keys else x ∷ with_key y keys) ≡ Some y
    by_key true alike other later = absurd (true≢false (sym named ∙ (ap (λ t. bytes_eq t name) (sym (same_text x.key y.key (sym alike))) ∙ other)))
    by_key false apart other later = ap (λ b. cond b (Some x) (key_under name (with_key y keys))) other ∙ later

    by_name : (b : Bool) → bytes_eq x.key name ≡ b → cond b (Some x) (key_under name keys) ≡ Some key → (key_under name keys ≡ Some key → key_under name (with_key y keys) ≡ Some y)
        → key_under name (with_key y (x ∷ keys)) ≡ Some y
    by_name true here at more =
        let found : x ≡ key = cc at in
        let alike : bytes_eq x.key y.key ≡ true = ap (λ (k : HeldKey). bytes_eq k.key y.key) found ∙ (ap (λ t. bytes_eq t y.key) (sym same) ∙ nat_list_eq_equiv.refl y.key) in
        ap (λ c. key_under name (if c then y ∷ keys else x ∷ with_key y keys)) alike ∙ ap (λ c. cond c (Some y) (key_under name keys)) named
    by_name false other at more = by_key (bytes_eq x.key y.key) refl other (more at)

-- a used key stays used where another one is fetched
used_with_key : (name : List ℕ) (y : HeldKey) (keys : List HeldKey) → y.fetched ≡ true → IsUsed name keys → IsUsed name (with_key y keys)
used_with_key name y [] done used = cc used.held
used_with_key name y (x ∷ keys) done used = by_key (bytes_eq x.key y.key) refl (λ rest. used_with_key name y keys done rest)
  where
    by_name : (b : Bool) → bytes_eq x.key name ≡ b → bytes_eq x.key y.key ≡ true → cond b (Some x) (key_under name keys) ≡ Some used.key → IsUsed name (y ∷ keys)
    by_name true here alike at = record {
      key = y;
      held = ap (λ c. cond c (Some y) (key_under name keys)) (ap (λ t. bytes_eq t name) (sym (same_text x.key y.key (sym alike))) ∙ here);
      used = done;
    }
    by_name false other alike at = record {
      key = used.key;
      held = ap (λ c. cond c (Some y) (key_under name keys)) (ap (λ t. bytes_eq t name) (sym (same_text x.key y.key (sym alike))) ∙ other) ∙ at;
      used = used.used;
    }

    by_other : (b : Bool) → bytes_eq x.key name ≡ b → cond b (Some x) (key_under name keys) ≡ Some used.key → (IsUsed name keys → IsUsed name (with_key y keys)) → IsUsed name (x ∷ with_key y keys)
    by_other true here at more = record { key = used.key; held = ap (λ c. cond c (Some x) (key_under name (with_key y keys))) here ∙ at; used = used.used }
    by_other false other at more =
        let rest = more (record { key = used.key; held = at; used = used.used }) in
        record { key = rest.key; held = ap (λ c. cond c (Some x) (key_under name (with_key y keys))) other ∙ rest.held; used = rest.used }

    by_key : (c : Bool) → bytes_eq x.key y.key ≡ c → (IsUsed name keys → IsUsed name (with_key y keys)) → IsUsed name (if c then y ∷ keys else x ∷ with_key y keys)
    by_key true alike more = by_name (bytes_eq x.key name) refl alike used.held
    by_key false apart more = by_other (bytes_eq x.key name) refl used.held more

used_after : (name : List ℕ) (st : State) (at : Occasion) (w : Write) (x : Effect) → Moves st at w x → IsUsed name st.keys → IsUsed name (keys_after st.keys x.keys)
used_after name st at w x (inl quiet) used = subst (λ c. IsUsed name (keys_after st.keys c)) (sym quiet.keys) used
used_after name st at w x (inr (inl comes)) used =
    subst (λ c. IsUsed name (keys_after st.keys c)) (sym comes.keys) (record {
      key = used.key;
      held = find-append (λ (k : HeldKey). bytes_eq k.key name) st.keys (new_key st at ∷ []) ∙ ap (λ o. option_or o (key_under name (new_key st at ∷ []))) used.held;
      used = used.used;
    })
used_after name st at w x (inr (inr gift)) used =
    subst (λ (y : Effect). IsUsed name (keys_after st.keys y.keys)) (sym gift.gives) (used_with_key name (record gift.key { fetched = true }) st.keys refl used)

used_on : (name : List ℕ) (st : State) (more : List Entry) → IsUsed name st.keys → IsUsed name (state_from st more).keys
used_on name st [] used = used
used_on name st (e ∷ more) used = used_on name (step st e) more (used_after name st (occasion st e) e.write (effect st e) (moves st (occasion st e) e.write) used)

-- ---- accepted fetches

pub legal_from : (limit : ℕ) (seen before behind : List Entry) (e : Entry) → IsLegalFrom limit seen (before ++ e ∷ behind) → ComesNext limit (seen ++ before) e
legal_from limit seen [] behind e legal = subst (λ b. ComesNext limit b e) (sym (append-nil seen)) legal.1
legal_from limit seen (x ∷ before) behind e legal =
    subst (λ b. ComesNext limit b e) (append_assoc seen (x ∷ []) before) (legal_from limit (seen ++ x ∷ []) before behind e legal.2)

-- where a fetch changes something, a token is given away
fetch_gives : (st : State) (at : Occasion) (name : List ℕ) (o : Option HeldKey) → key_under name st.keys ≡ o → changes_nothing (fetching st at o) ≡ false → IsGift st at (Fetch name) (fetching st at o)
fetch_gives st at name None is some = absurd (true≢false some)
fetch_gives st at name (Some key) is some = by_use key.fetched refl some
  where
    by_end : (b : Bool) → is_closed st key.launch ≡ b → key.fetched ≡ false → changes_nothing (if b then telling at.moment acceptance.SessionClosed else giving at key) ≡ false
        → IsGift st at (Fetch name) (if b then telling at.moment acceptance.SessionClosed else giving at key)
    by_end true closed unused some = absurd (true≢false some)
    by_end false still unused some = record { name = name; key = key; fetches = refl; held = is; unused = unused; still = still; gives = refl }

    by_use : (b : Bool) → key.fetched ≡ b
        → changes_nothing (if b then telling at.moment acceptance.KeyUsed else (if is_closed st key.launch then telling at.moment acceptance.SessionClosed else giving at key)) ≡ false
        → IsGift st at (Fetch name) (if b then telling at.moment acceptance.KeyUsed else (if is_closed st key.launch then telling at.moment acceptance.SessionClosed else giving at key))
    by_use true used some = absurd (true≢false some)
    by_use false unused some = by_end (is_closed st key.launch) refl unused some

-- the key with which a write fetches
abbrev pub fetched_name : Write → List ℕ
fetched_name (Fetch key) = key
fetched_name other = []

-- what a fetch gave that stands in a legal history, and what it was told
pub record Gave (before : List Entry) (e : Entry) (name : List ℕ) (said : Answered) : Type 0 where
  pub gift : IsGift (state before) (occasion (state before) e) (Fetch name) (effect (state before) e)
  pub told : said ≡ Shown (session_token_body (token_text (length before) e.draw.secret)) None

pub gave : (limit : ℕ) (before : List Entry) (e : Entry) (name : List ℕ) → ComesNext limit before e → e.write ≡ Fetch name
    → Gave before e name (answer limit before e.caller (command.Write e.write) e.moment e.draw).said
gave limit [] e name next fetches = absurd (true≢false (sym (second_so (is_operator e.caller && is_zero e.draw) (founds e.write) next) ∙ ap founds fetches))
gave limit (first ∷ more) e name next fetches = record { gift = gift; told = entry.said ∙ (ap write_said gift.gives ∙ ap (λ n. Shown (session_token_body (token_text n e.draw.secret)) None) (state_length (first ∷ more))) }
  where
    st : State
    st = state (first ∷ more)

    entry : Accepted limit (first ∷ more) e
    entry = accepted limit (first ∷ more) e next

    gift : IsGift st (occasion st e) (Fetch name) (effect st e)
    gift =
        subst (λ (x : Effect). IsGift st (occasion st e) (Fetch name) x) (sym (ap (effect_of st (occasion st e)) fetches))
        (fetch_gives st (occasion st e) name (key_under name st.keys) refl (sym (ap (λ w. changes_nothing (effect_of st (occasion st e) w)) fetches) ∙ entry.changed))

-- after it the key is used
used_behind : (before behind : List Entry) (e : Entry) (name : List ℕ) (said : Answered) → Gave before e name said → IsUsed name (state (before ++ e ∷ behind)).keys
used_behind before behind e name said g =
    let st = state before in
    let key : HeldKey = g.gift.key in
    let y : HeldKey = record key { fetched = true } in
    let same : g.gift.name ≡ name = ap fetched_name (sym g.gift.fetches) in
    let held : key_under name st.keys ≡ Some key = subst (λ n. key_under n st.keys ≡ Some key) same g.gift.held in
    let found : IsUsed name (with_key y st.keys) = record { key = y; held = found_with_key name key y st.keys held refl; used = refl } in
    let here : IsUsed name (step st e).keys = subst (λ (x : Effect). IsUsed name (keys_after st.keys x.keys)) (sym g.gift.gives) found in
    subst (λ (s : State). IsUsed name s.keys) (sym (state_from-append nothing before (e ∷ behind))) (used_on name (step st e) behind here)

-- ---- the laws

pub fetches_give : FetchesGive
fetches_give limit before behind e key legal fetches = (gave limit before e key (legal_from limit [] before behind e legal.1) fetches).told

pub keys_give_once : KeysGiveOnce
keys_give_once limit before between behind e f key legal fetches again =
    let first = gave limit before e key (legal_from limit [] before (between ++ f ∷ behind) e legal.1) fetches in
    let used = used_behind before between e key _ first in
    let whole = append_assoc before (e ∷ between) (f ∷ behind) in
    let next = legal_from limit [] (before ++ e ∷ between) behind f (subst (λ h. IsLegalFrom limit [] h) (sym whole) legal.1) in
    let second = gave limit (before ++ e ∷ between) f key next again in
    let same : second.gift.name ≡ key = ap fetched_name (sym second.gift.fetches) in
    let held : key_under key (state (before ++ e ∷ between)).keys ≡ Some second.gift.key = subst (λ n. key_under n (state (before ++ e ∷ between)).keys ≡ Some second.gift.key) same second.gift.held in
    let one : used.key ≡ second.gift.key = cc (sym used.held ∙ held) in
    true≢false (sym used.used ∙ (ap (λ (k : HeldKey). k.fetched) one ∙ second.gift.unused))

pub used_keys_are_told : UsedKeysAreTold
used_keys_are_told limit before behind e key caller clock draw legal fetches =
    let h : List Entry = before ++ e ∷ behind in
    let st = state h in
    let used = used_behind before behind e key _ (gave limit before e key (legal_from limit [] before behind e legal.1) fetches) in
    let x : Entry = next_entry st caller (Fetch key) clock draw in
    let at = occasion st x in
    let tells : effect st x ≡ telling at.moment acceptance.KeyUsed =
    ap (fetching st at) used.held ∙ ap (λ b. if b then telling at.moment acceptance.KeyUsed else (if is_closed st used.key.launch then telling at.moment acceptance.SessionClosed else giving at used.key)) used.used in
    at_once limit h caller (Fetch key) clock draw (Shown key_used_body None)
    (said_unchanged st x (ap (λ (o : Option HeldKey). first_some (None ∷ None ∷ None ∷ unless_there o ∷ None ∷ None ∷ [])) used.held) (ap changes_nothing tells)
    ∙ ap (λ (y : Effect). Some (write_said y)) tells)
