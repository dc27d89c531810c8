-- A key is that of the launch whose entry gave it away.
use Rattle.std.proofs.Common.{◌≡◌, inl, inr, ℕ, List, [], ◌∷◌, ◌++◌, length, true, Some, refl, sym, ap, subst, ◌∙◌, append_assoc}
use Rattle.std.specs.Prelude.{slice_get}
use Rattle.std.specs.List.{AllByRecursion}
use Rattle.std.specs.Str.{bytes_eq}
use Rattle.std.specs.Cmp.Lexicographic.{same_text}
use Rattle.cmi5_course.specs.declared.launch.Launch.{Launch}
use Rattle.lrs_history.specs.Effects.{effect}
use Rattle.lrs_history.specs.Occasions.{occasion}
use Rattle.lrs_history.specs.History.{state}
use Rattle.lrs_laws.proofs.GivenTokens.{state_length}
use Rattle.lrs_laws.proofs.Launched.{after_one, by_entries, there_after}
use Rattle.lrs_laws.proofs.Lists.{each_first, each_found, each_push, each_weaker, found_passes}
use Rattle.lrs_laws.proofs.Moves.{Moves, moves, new_key}
use Rattle.lrs_laws.specs.Sessions.{KeysAreTheirLaunches, WasLaunched}
use Rattle.lrs_state.specs.Launches.{keys_after, launches_after}
use Rattle.lrs_state.specs.State.{State}
use Rattle.lrs_state.specs.declared.effect.Effect.{Effect}
use Rattle.lrs_state.specs.declared.launches.HeldKey.{HeldKey}
use Rattle.lrs_record.specs.declared.entry.Entry.{Entry}
use Rattle.lrs_replies.specs.Texts.{token_text}

-- the launch of the key's number is that of the entry that gave the key away
abbrev TellsIn : List Entry → List Launch → HeldKey → Type 0
TellsIn h launches k = (launch : Launch) × (slice_get launches k.launch ≡ Some launch) × WasLaunched h k.key launch

launched_still : (h more : List Entry) (key : List ℕ) (launch : Launch) → WasLaunched h key launch → WasLaunched (h ++ more) key launch
launched_still h more key launch was = record {
  before = was.before;
  entry = was.entry;
  behind = was.behind ++ more;
  whole = ap (λ es. es ++ more) was.whole ∙ append_assoc was.before (was.entry ∷ was.behind) more;
  told = was.told;
  session = was.session;
}

item_last : {A : Type 0} (xs : List A) (x : A) → slice_get (xs ++ x ∷ []) (length xs) ≡ Some x
item_last [] x = refl
item_last (y ∷ xs) x = item_last xs x

tells_after : (h : List Entry) (e : Entry) (x : Effect) → Moves (state h) (occasion (state h) e) e.write x → AllByRecursion (TellsIn h (state h).launches) (state h).keys
    → AllByRecursion (TellsIn (h ++ e ∷ []) (launches_after (state h).launches x.launches)) (keys_after (state h).keys x.keys)
tells_after h e x by_move each = by_kind by_move
  where
    still : AllByRecursion (TellsIn (h ++ e ∷ []) (launches_after (state h).launches x.launches)) (state h).keys
    still = each_weaker (TellsIn h (state h).launches) (TellsIn (h ++ e ∷ []) (launches_after (state h).launches x.launches))
        (λ k tells. (tells.0, there_after (state h) (occasion (state h) e) e.write x k.launch tells.0 by_move tells.1, launched_still h (e ∷ []) k.key tells.0 tells.2)) (state h).keys each

    by_kind : Moves (state h) (occasion (state h) e) e.write x → AllByRecursion (TellsIn (h ++ e ∷ []) (launches_after (state h).launches x.launches)) (keys_after (state h).keys x.keys)
    by_kind (inl quiet) = subst (λ c. AllByRecursion (TellsIn (h ++ e ∷ []) (launches_after (state h).launches x.launches)) (keys_after (state h).keys c)) (sym quiet.keys) still
    by_kind (inr (inl comes)) =
        subst (λ c. AllByRecursion (TellsIn (h ++ e ∷ []) (launches_after (state h).launches x.launches)) (keys_after (state h).keys c)) (sym comes.keys)
        (each_push (TellsIn (h ++ e ∷ []) (launches_after (state h).launches x.launches)) (state h).keys (new_key (state h) (occasion (state h) e)) still (
          comes.launch,
          ap (λ c. slice_get (launches_after (state h).launches c) (length (state h).launches)) comes.launches ∙ item_last (state h).launches comes.launch,
          record { before = h; entry = e; behind = []; whole = refl; told = ap (λ n. token_text n e.draw.secret) (state_length h); session = comes.session },
        ))
    by_kind (inr (inr gift)) =
        subst (λ (y : Effect). AllByRecursion (TellsIn (h ++ e ∷ []) (launches_after (state h).launches x.launches)) (keys_after (state h).keys y.keys)) (sym gift.gives)
        (each_first (TellsIn (h ++ e ∷ []) (launches_after (state h).launches x.launches)) (λ (k : HeldKey). bytes_eq k.key gift.key.key) (record gift.key { fetched = true }) (state h).keys still
        (each_found (TellsIn (h ++ e ∷ []) (launches_after (state h).launches x.launches)) (λ (k : HeldKey). bytes_eq k.key gift.name) (state h).keys gift.key still gift.held))

all_tell : (h : List Entry) → AllByRecursion (TellsIn h (state h).launches) (state h).keys
all_tell = by_entries (λ h. AllByRecursion (TellsIn h (state h).launches) (state h).keys) tt
    (λ h e each. subst (λ (st : State). AllByRecursion (TellsIn (h ++ e ∷ []) st.launches) st.keys) (sym (after_one h e))
    (tells_after h e (effect (state h) e) (moves (state h) (occasion (state h) e) e.write) each))

pub keys_are_their_launches : KeysAreTheirLaunches
keys_are_their_launches h key launch is =
    let tells = each_found (TellsIn h (state h).launches) (λ (k : HeldKey). bytes_eq k.key key) (state h).keys is.held (all_tell h) is.found in
    let named : is.held.key ≡ key = same_text is.held.key key (sym (found_passes (λ (k : HeldKey). bytes_eq k.key key) (state h).keys is.held is.found)) in
    let one : tells.0 ≡ launch = cc (sym tells.1 ∙ is.launched) in
    subst (λ t. WasLaunched h t launch) named (subst (λ l. WasLaunched h is.held.key l) one tells.2)
