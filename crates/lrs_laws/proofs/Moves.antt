-- What an entry does to launches, keys, tokens and providers: at most one of each comes, and at most one key is fetched.
use Rattle.std.proofs.Common.{◌≡◌, ◌⊎◌, inl, inr, ℕ, List, length, false, Some, refl}
use Rattle.cmi5_course.specs.declared.launch.Launch.{Launch}
use Rattle.lrs_history.specs.Effects.{effect_of}
use Rattle.lrs_history.specs.Occasions.{Occasion}
use Rattle.lrs_history.specs.DeskEffects.{coming, giving}
use Rattle.lrs_history.specs.Launches.{launch_at, target}
use Rattle.lrs_history.specs.Sessions.{is_closed}
use Rattle.lrs_laws.proofs.DeskKinds.{of_ending, of_enrolment, of_fetch, of_launch, of_waiver}
use Rattle.lrs_state.specs.Courses.{index_meant}
use Rattle.lrs_state.specs.Launches.{key_under, index_of_session, unchanged_keys, unchanged_launches, unchanged_tokens}
use Rattle.lrs_state.specs.Providers.{unchanged_providers}
use Rattle.lrs_state.specs.State.{State, no_change}
use Rattle.lrs_state.specs.declared.effect.Effect.{Effect}
use Rattle.lrs_state.specs.declared.launches.HeldKey.{HeldKey}
use Rattle.lrs_record.specs.declared.entry.Write.{Write}
use Rattle.lrs_record.specs.declared.entry.Write.TheVariants.{Provider, Enrol, Fetch, Waive, Abandon}
use Rattle.lrs_record.specs.declared.entry.Write.TheVariants as write

-- a provider comes, and its token is that of the entry
pub record MakesProvider (at : Occasion) (x : Effect) : Type 0 where
  pub name : List ℕ
  pub providers : x.providers ≡ coming (record { name = name; token = at.token })

abbrev pub MovesProviders : Occasion → Effect → Type 0
MovesProviders at x = (x.providers ≡ unchanged_providers) ⊎ MakesProvider at x

-- no launch, no key and no token is changed
pub record IsQuiet (at : Occasion) (x : Effect) : Type 0 where
  pub launches : x.launches ≡ unchanged_launches
  pub keys : x.keys ≡ unchanged_keys
  pub tokens : x.tokens ≡ unchanged_tokens
  pub providers : MovesProviders at x

abbrev pub new_key : State → Occasion → HeldKey
new_key st at = record { key = at.token; launch = length st.launches; fetched = false }

-- a launch comes with its key
pub record IsLaunch (st : State) (at : Occasion) (x : Effect) : Type 0 where
  pub launch : Launch
  pub session : launch.session ≡ at.supply 0
  pub launches : x.launches ≡ coming launch
  pub keys : x.keys ≡ coming (new_key st at)
  pub tokens : x.tokens ≡ unchanged_tokens
  pub providers : x.providers ≡ unchanged_providers

-- a token is given away for a key that wasn't fetched
pub record IsGift (st : State) (at : Occasion) (w : Write) (x : Effect) : Type 0 where
  pub name : List ℕ
  pub key : HeldKey
  pub fetches : w ≡ Fetch name
  pub held : key_under name st.keys ≡ Some key
  pub unused : key.fetched ≡ false
  pub still : is_closed st key.launch ≡ false
  pub gives : x ≡ giving at key

abbrev pub Moves : State → Occasion → Write → Effect → Type 0
Moves st at w x = IsQuiet at x ⊎ (IsLaunch st at x ⊎ IsGift st at w x)

-- nothing of that kind is changed
quiet : (st : State) (at : Occasion) (w : Write) (moment : ℕ) → Moves st at w (no_change moment)
quiet st at w moment = inl (record { launches = refl; keys = refl; tokens = refl; providers = inl refl })

pub moves : (st : State) (at : Occasion) (w : Write) → Moves st at w (effect_of st at w)
moves st at (Provider name) = inl (record { launches = refl; keys = refl; tokens = refl; providers = inr (record { name = name; providers = refl }) })
moves st at (Enrol course actor edition) =
    let w : Write = Enrol course actor edition in
    of_enrolment (Moves st at w) st at (quiet st at w at.moment) actor (index_meant course edition st.courses st.editions) (λ k. inl (record { launches = refl; keys = refl; tokens = refl; providers = inl refl }))
moves st at (write.Launch registration unit mode return_url) =
    let w : Write = write.Launch registration unit mode return_url in
    of_launch (Moves st at w) st at (quiet st at w at.moment) mode return_url (target st registration unit)
    (λ t. inr (inl (record { launch = launch_at t mode (at.supply 0); session = refl; launches = refl; keys = refl; tokens = refl; providers = refl })))
moves st at (Fetch name) =
    let w : Write = Fetch name in
    of_fetch (Moves st at w) st at (quiet st at w at.moment) (key_under name st.keys) (λ told. inl (record { launches = refl; keys = refl; tokens = refl; providers = inl refl }))
    (λ key is unused still. inr (inr (record { name = name; key = key; fetches = refl; held = is; unused = unused; still = still; gives = refl })))
moves st at (Waive registration unit reason) =
    let w : Write = Waive registration unit reason in
    of_waiver (Moves st at w) st at (quiet st at w at.moment) reason (target st registration unit) (λ t is. inl (record { launches = refl; keys = refl; tokens = refl; providers = inl refl }))
moves st at (Abandon session) =
    let w : Write = Abandon session in
    of_ending (Moves st at w) st at (quiet st at w at.moment) (index_of_session session st.launches) (λ numbers. inl (record { launches = refl; keys = refl; tokens = refl; providers = inl refl }))
moves st at other = inl (record { launches = refl; keys = refl; tokens = refl; providers = inl refl })
