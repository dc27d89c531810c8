-- What moving a store leaves on the two disks, and the desk that comes of it.
use Rattle.std.proofs.Common.{◌≡◌, ◌<◌, ◌≤◌, ℕ, List, [], ◌∷◌, length, map, take, refl, sym, ◌∙◌, ap, subst, inl, inr, arith, Option, Some, None, false, true}
use Rattle.std.specs.Prelude.{◌⊎◌, option_map, unwrap_or, IfSome, Result, Ok, Err, IfErr}
use Rattle.std.specs.Option.{ForSome}
use Rattle.std.proofs.lemmas.List.{length-map}
use Rattle.lrs_disk.specs.Disk.{LeavesOnly}
use Rattle.lrs_journal.specs.Builder.{Builder, IsBuilding, IsBuilt}
use Rattle.lrs_journal.specs.Create.{IsStore}
use Rattle.lrs_journal.specs.Journal.{Journal, frames_of, HasCount, IsJournal, IsSynced, TellsAlike}
use Rattle.lrs_journal.specs.Replay.{Replay}
use Rattle.lrs_journal.specs.Store.{HasHeaderIn, HasNoHeader, IsLimit, StandsIn}
use Rattle.lrs_journal.specs.declared.sizes.Format.{Format}
use Rattle.lrs_journal.proofs.Told.{alike_both, alike_self}
use Rattle.lrs_fold.specs.LrsHistoryHistory.{end_offset, state, IsLegal}
use Rattle.lrs_parts.specs.State.{State}
use Rattle.lrs_record.specs.Entries.{written_entry}
use Rattle.lrs_record.specs.declared.entry.Entry.{Entry}
use Rattle.lrs_machine.specs.Desk.{IsStoreOf}
use Rattle.lrs_machine.specs.Migrating.{chosen, Advances, BuildsOnly, GoesOn, HaveCounts, IsMovable, IsMovedFrom, IsMovedOrNone, StandsForEntries}
use Rattle.lrs_machine.specs.Steps.{HoldsEntries}
use Rattle.lrs_machine.proofs.Lines.{none_some, some_same}
use Rattle.lrs_machine.proofs.Moved.{movable_legal}
use Rattle.lrs_machine.proofs.Prefixes.{rests, run_then, weaker}

-- ---- the desk

-- the journal that a builder makes
pub moved_opened : {D : Type 0} (told : D → Option (List ℕ)) (image : D → List ℕ → Type 0) (builder : Builder D) (journal : Journal D) (st : State) (h : List Entry) → IsBuilding told builder (map written_entry h) → IsMovable builder.limit h
    → st ≡ state h → 0 < length h → ((payloads : List (List ℕ)) → IsBuilding told builder payloads → frames_of told journal ≡ option_map (λ _. payloads) (told builder.disk))
    → (journal.doubt ≡ false) × (journal.limit ≡ builder.limit) × (journal.end ≡ builder.end) × (journal.number ≡ builder.number) → IsJournal told image journal → HoldsEntries told image journal st h
moved_opened told image builder journal st h laid movable folded some opened fields sound = record {
  sound = sound;
  folded = folded;
  legal = subst (λ l. IsLegal l h) (sym fields.1) (movable_legal builder.limit h some movable);
  counts = fields.3 ∙ laid.counts ∙ length-map h written_entry;
  offset = fields.2 ∙ laid.offset ∙ ap (λ l. end_offset l h) (sym fields.1);
  settled = fields.0;
  frames = λ ps there. by_told (told builder.disk) ps (sym (opened (map written_entry h) laid) ∙ there);
}
  where
    by_told : (o : Option (List ℕ)) (ps : List (List ℕ)) → option_map (λ _. map written_entry h) o ≡ Some ps → ps ≡ map written_entry h
    by_told None ps is = absurd (none_some ps is)
    by_told (Some b) ps is = some_same ps (map written_entry h) (sym is)

-- the limit that is taken
pub taken_limit : (limit : Option ℕ) (own : ℕ) → unwrap_or limit own ≡ chosen limit own
taken_limit None own = refl
taken_limit (Some l) own = refl

pub taken_bounds : (limit : Option ℕ) (own : ℕ) → IfSome limit IsLimit → IsLimit own → IsLimit (unwrap_or limit own)
taken_bounds None own given bounds = bounds
taken_bounds (Some l) own given bounds = given

pub taken_given : (limit : Option ℕ) (own : ℕ) → IfSome limit (λ most. chosen limit own ≡ most)
taken_given None own = tt
taken_given (Some l) own = refl

-- ---- runs on the new disk

-- no call
pub goes_same : {D : Type 0} (time : D → ℕ) (since : D → ℕ → List ℕ → Type 0) (disk : D) → GoesOn time since disk disk HasNoHeader
goes_same time since disk = λ first run. run

-- one run more
pub goes_more : {D : Type 0} (time : D → ℕ) (since : D → ℕ → List ℕ → Type 0) (old mid new : D) (P : List ℕ → Type 0) → ((c : List ℕ) → HasNoHeader c → P c) → GoesOn time since old mid HasNoHeader → LeavesOnly time since mid new P
    → GoesOn time since old new P
goes_more time since old mid new P so goes more = λ first run. run_then time since first mid new P P (weaker time since first mid HasNoHeader P (goes first run) so) more (λ c held. held)

pub goes_then : {D : Type 0} (time : D → ℕ) (since : D → ℕ → List ℕ → Type 0) (old mid new : D) (P : List ℕ → Type 0) → GoesOn time since old mid HasNoHeader → GoesOn time since mid new P → GoesOn time since old new P
goes_then time since old mid new P goes more = λ first run. more first (goes first run)

pub goes_weaker : {D : Type 0} (time : D → ℕ) (since : D → ℕ → List ℕ → Type 0) (old new : D) (P Q : List ℕ → Type 0) → ((c : List ℕ) → P c → Q c) → GoesOn time since old new P → GoesOn time since old new Q
goes_weaker time since old new P Q so goes = λ first run. weaker time since first new P Q (goes first run) so

-- ---- both disks

-- no call
pub advances_none : {D : Type 0} (told : D → Option (List ℕ)) (image : D → List ℕ → Type 0) (time : D → ℕ) (since : D → ℕ → List ℕ → Type 0) → ((d : D) (c : List ℕ) → since d (time d) c → image d c) → (old : Replay D) (was : Builder D)
    → IsSynced told image old.disk → Advances told time since old was old was
advances_none told image time since only_now old was synced = record {
  format = refl;
  own = refl;
  limit = refl;
  still = refl;
  tells = alike_self (told was.disk);
  leaves = rests time since image only_now old.disk (λ bytes. told old.disk ≡ Some bytes) synced;
  goes = goes_same time since was.disk;
  later = omega arith;
}

-- a frame was looked for
pub advances_read : {D : Type 0} (told : D → Option (List ℕ)) (time : D → ℕ) (since : D → ℕ → List ℕ → Type 0) (old new : Replay D) (was : Builder D) → new.format ≡ old.format → new.limit ≡ old.limit → told new.disk ≡ told old.disk
    → LeavesOnly time since old.disk new.disk (λ bytes. told old.disk ≡ Some bytes) → Advances told time since old was new was
advances_read told time since old new was kind own still leaves = record {
  format = kind;
  own = own;
  limit = refl;
  still = still;
  tells = alike_self (told was.disk);
  leaves = leaves;
  goes = goes_same time since was.disk;
  later = omega arith;
}

-- and laid
pub advances_laid : {D : Type 0} (told : D → Option (List ℕ)) (time : D → ℕ) (since : D → ℕ → List ℕ → Type 0) (old new : Replay D) (was now : Builder D) → new.format ≡ old.format → new.limit ≡ old.limit → told new.disk ≡ told old.disk
    → LeavesOnly time since old.disk new.disk (λ bytes. told old.disk ≡ Some bytes) → now.limit ≡ was.limit → TellsAlike (told was.disk) (told now.disk) → LeavesOnly time since was.disk now.disk HasNoHeader → Advances told time since old was new now
advances_laid told time since old new was now kind own still leaves limit tells lays = record {
  format = kind;
  own = own;
  limit = limit;
  still = still;
  tells = tells;
  leaves = leaves;
  goes = goes_more time since was.disk was.disk now.disk HasNoHeader (λ c none. none) (goes_same time since was.disk) lays;
  later = lays.later;
}

pub advances_then : {D : Type 0} (told : D → Option (List ℕ)) (time : D → ℕ) (since : D → ℕ → List ℕ → Type 0) (old mid new : Replay D) (was then now : Builder D) → Advances told time since old was mid then → Advances told time since mid then new now
    → Advances told time since old was new now
advances_then told time since old mid new was then now first second = record {
  format = second.format ∙ first.format;
  own = second.own ∙ first.own;
  limit = second.limit ∙ first.limit;
  still = second.still ∙ first.still;
  tells = alike_both (told was.disk) (told then.disk) (told now.disk) first.tells second.tells;
  leaves = run_then time since old.disk mid.disk new.disk (λ bytes. told old.disk ≡ Some bytes) (λ bytes. told mid.disk ≡ Some bytes) first.leaves second.leaves (λ c is. sym first.still ∙ is);
  goes = goes_then time since was.disk then.disk now.disk HasNoHeader first.goes second.goes;
  later = omega (arith, first.later, second.later);
}

-- ---- the counts of faults

-- the new disk wasn't called
pub counts_read : (old was new : ℕ) (failed well other good : Type 0) → HasCount old new failed well → (other → failed) → (good → well) → HaveCounts old was new was other good
counts_read old was new failed well other good counts by all = record {
  later = (counts.later, omega arith);
  cause = λ o. inl (counts.cause (by o));
  kept = λ g. (counts.kept (all g), refl);
}

-- both were, the old one well
pub counts_laid : (old was new now : ℕ) (failed well other good : Type 0) → new ≡ old → HasCount was now failed well → (other → failed) → (good → well) → HaveCounts old was new now other good
counts_laid old was new now failed well other good same counts by all = record {
  later = (omega (arith, same), counts.later);
  cause = λ o. inr (counts.cause (by o));
  kept = λ g. (same, counts.kept (all g));
}

-- after calls that went well
pub counts_after : (old was mid then new now : ℕ) (failed well other good : Type 0) → mid ≡ old → then ≡ was → HaveCounts mid then new now failed well → (other → failed) → (good → well) → HaveCounts old was new now other good
counts_after old was mid then new now failed well other good same alike counts by all =
    subst (λ n. HaveCounts n was new now other good) same (subst (λ m. HaveCounts mid m new now other good) alike (record {
      later = counts.later;
      cause = λ o. counts.cause (by o);
      kept = λ g. counts.kept (all g);
    }))

-- no call
pub counts_rest : (old was new now : ℕ) (failed well : Type 0) → new ≡ old → now ≡ was → (failed → ⊥) → HaveCounts old was new now failed well
counts_rest old was new now failed well same alike none = record {
  later = (omega (arith, same), omega (arith, alike));
  cause = λ f. absurd (none f);
  kept = λ g. (same, alike);
}

-- ---- what a stop leaves of the new disk

pub built_moved : (f : Format) (bytes : List ℕ) (own limit : ℕ) (h : List Entry) (image : List ℕ) → StandsIn f bytes own (map written_entry h) → IsLegal limit h → IsBuilt limit (map written_entry h) image → IsMovedFrom f bytes own limit image
built_moved f bytes own limit h image stands legal (inl none) = inl none
built_moved f bytes own limit h image stands legal (inr built) = inr (h, stands, (built, legal))

pub moved_or_none : (f : Format) (bytes : List ℕ) (own taken : ℕ) (limit : Option ℕ) (image : List ℕ) → taken ≡ chosen limit own → IsMovedFrom f bytes own taken image → IsMovedOrNone bytes limit image
moved_or_none f bytes own taken limit image is (inl none) = inl none
moved_or_none f bytes own taken limit image is (inr (h, stands, store)) = inr (own, h, (f, stands), subst (λ l. IsStoreOf image l h) is store)

header_store : (bytes : List ℕ) (f : Format) (limit : ℕ) → HasHeaderIn f bytes limit → IsStore bytes
header_store bytes f limit h = ap (λ (l : List ℕ). take 8 l) h.split

-- nothing was written
pub builds_nothing : {D : Type 0} (told : D → Option (List ℕ)) (image : D → List ℕ → Type 0) (time : D → ℕ) (since : D → ℕ → List ℕ → Type 0) → ((d : D) (c : List ℕ) → since d (time d) c → image d c) → (disk : D)
    → BuildsOnly told image time since disk disk HasNoHeader
builds_nothing told image time since only_now disk = λ synced bytes there none.
    rests time since image only_now disk HasNoHeader (λ c left f other h. none (header_store bytes f other (subst (λ (b : List ℕ). HasHeaderIn f b other) (some_same c bytes (sym (synced c left) ∙ there)) h)))

pub builds_weaker : {D : Type 0} (told : D → Option (List ℕ)) (image : D → List ℕ → Type 0) (time : D → ℕ) (since : D → ℕ → List ℕ → Type 0) (old new : D) (P Q : List ℕ → Type 0) → ((c : List ℕ) → P c → Q c) → BuildsOnly told image time since old new P
    → BuildsOnly told image time since old new Q
builds_weaker told image time since old new P Q so builds = λ synced bytes there none. weaker time since old new P Q (builds synced bytes there none) so

-- and after that more was laid, or the store was opened
pub builds_then : {D : Type 0} (told : D → Option (List ℕ)) (image : D → List ℕ → Type 0) (time : D → ℕ) (since : D → ℕ → List ℕ → Type 0) (old mid new : D) (P : List ℕ → Type 0) → BuildsOnly told image time since old mid HasNoHeader
    → GoesOn time since mid new P → BuildsOnly told image time since old new P
builds_then told image time since old mid new P first goes = λ synced bytes there none. goes old (first synced bytes there none)

-- ---- results

pub if_err_both : {T E : Type 0} (r : Result T E) (P Q : E → Type 0) → IfErr r P → IfErr r Q → IfErr r (λ e. P e × Q e)
if_err_both (Ok x) P Q p q = tt
if_err_both (Err e) P Q p q = (p, q)
