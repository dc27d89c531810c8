-- Steps of a disk, one step more.
use Rattle.std.proofs.Common.{◌≡◌, ◌⊎◌, inl, inr, ⊎_elim, ℕ, zero, suc, ◌+◌, ◌-◌, ◌^◌, ◌≤◌, ◌<◌, min, List, [], ◌∷◌, ◌++◌, length, take, drop, replicate, refl, sym, ◌∙◌, ap, subst, arith, append_assoc, length-append, length-take, length-drop, true, false, Bool, nat_le, if◌then◌else◌, Result, Ok, Err, OnOk, OnErr, IsOk}
use Rattle.std.proofs.lemmas.Bool.{leb-true}
use Rattle.std.proofs.lemmas.List.{length-replicate, take_all, take_at, take_min, drop_at, take-append-le}
use Rattle.lrs_disk.specs.Disk.{written, Torn, Cut, Elapses, Follows, Within}
use Rattle.lrs_in_memory.specs.Images.{torn_nothing, cut_nothing, reads_image}
use Rattle.lrs_in_memory.specs.Steps.{Step, Nothing, Wrote, FailedWrite, CutTo, FailedCut, Synced, read_after, reads_after, Leaves, AllLeave, IsImage, IsImageSince, MayAdd, torn_write, torn_cut, image_after, crash_image}
use Rattle.lrs_in_memory.specs.declared.call.Pending.{Pending}
use Rattle.lrs_in_memory.specs.declared.call.Pending.TheVariants as pendings

pub all_leave_push : (steps : List Step) (step : Step) (read : List ℕ) (old : List ℕ → Type 0) (c : List ℕ) → AllLeave (steps ++ step ∷ []) read old c → Leaves step (reads_after steps read) (AllLeave steps read old) c
all_leave_push [] step read old c left = left
all_leave_push (first ∷ steps) step read old c left = all_leave_push steps step (read_after first read) (Leaves first read old) c left

-- the images after one step more
pub images_push : (old new : List Step) (first : List ℕ) (step : Step) → new ≡ old ++ step ∷ [] → (c : List ℕ) → IsImage new first c → Leaves step (reads_after old first) (IsImage old first) c
images_push old new first step more c left = all_leave_push old step first (λ d. d ≡ first) c (subst (λ (l : List Step). IsImage l first c) more left)

-- what a read gives after one step more
pub reads_push : (steps : List Step) (step : Step) (read : List ℕ) → reads_after (steps ++ step ∷ []) read ≡ read_after step (reads_after steps read)
reads_push [] step read = refl
reads_push (first ∷ steps) step read = reads_push steps step (read_after first read)

apart : (k now : ℕ) → (k ≤ now) ⊎ (now + 1 ≤ k)
apart zero now = inl (omega arith)
apart (suc k) zero = inr (omega arith)
apart (suc k) (suc now) = ⊎_elim (λ a. inl (omega arith)) (λ b. inr (omega arith)) (apart k now)

-- a moment later, with one step more
pub time_push : (old new : List Step) (first : List ℕ) (now later : ℕ) (step : Step) → new ≡ old ++ step ∷ [] → length old ≡ now → now < 2 ^ 64 - 1 → later ≡ min (now + 1) (2 ^ 64 - 1)
    → Elapses now later (IsImageSince old first now) (IsImageSince new first later) (IsImage new first)
time_push old new first now later step more kept below is = record {
  later = omega arith;
  next = inl (omega arith);
  nothing_else = λ t c le left. ⊎_elim
      (λ low. inl (left.0, left.1, low, subst (λ (l : List Step). IsImage l first c) (front left.0 low) left.3))
      (λ top. inr (subst (λ (l : List Step). IsImage l first c) (take_all left.0 new (omega (arith, ap length more, length-append old (step ∷ [])))) left.3))
      (apart left.0 now);
  keeps = λ t c le left. (left.0, left.1, omega (arith, left.2), subst (λ (l : List Step). IsImage l first c) (sym (front left.0 left.2)) left.3);
}
  where
    front : (k : ℕ) → k ≤ now → take k new ≡ take k old
    front k le = ap (λ (l : List Step). take k l) more ∙ take-append-le k old (step ∷ []) (omega arith)

ticks : (now later : ℕ) → later ≡ min (now + 1) (2 ^ 64 - 1) → now ≤ 2 ^ 64 - 1 → (later ≡ now + 1) ⊎ (later ≡ 2 ^ 64 - 1)
ticks now later is fits = ⊎_elim (λ low. inl (omega arith)) (λ high. inr (omega arith)) (apart (now + 1) (2 ^ 64 - 1))

-- a moment later, with the same steps
pub time_same : (old new : List Step) (first : List ℕ) (now later : ℕ) → new ≡ old → length old ≤ now → now ≤ 2 ^ 64 - 1 → later ≡ min (now + 1) (2 ^ 64 - 1)
    → Elapses now later (IsImageSince old first now) (IsImageSince new first later) (IsImage new first)
time_same old new first now later same kept fits is =
    subst (λ (l : List Step). Elapses now later (IsImageSince old first now) (IsImageSince l first later) (IsImage l first)) (sym same) record {
      later = omega arith;
      next = ticks now later is fits;
      nothing_else = λ t c le left. ⊎_elim
          (λ low. inl (left.0, left.1, low, left.3))
          (λ top. inr (subst (λ (l : List Step). IsImage l first c) (take_all left.0 old (omega arith)) left.3))
          (apart left.0 now);
      keeps = λ t c le left. (left.0, left.1, omega (arith, left.2), left.3);
    }

-- a write that reached the disk is one that was torn
pub torn_whole : (offset : ℕ) (read bytes : List ℕ) → offset ≤ length read → Torn offset (length bytes) read (written read offset bytes)
torn_whole offset read bytes le =
    let front : length (take offset read) ≡ offset = omega (arith, length-take offset read) in
    let both : length (take offset read ++ bytes) ≡ offset + length bytes = omega (arith, front, length-append (take offset read) bytes) in
    let back = drop (offset + length bytes) read in
    record {
      before = ap (λ (l : List ℕ). take offset l) (append_assoc (take offset read) bytes back) ∙ take_at (take offset read) (bytes ++ back) offset front;
      after = drop_at (take offset read ++ bytes) back (offset + length bytes) both;
      no_shorter = omega (arith, both, length-append (take offset read ++ bytes) back, length-drop (offset + length bytes) read);
      no_longer = omega (arith, both, length-append (take offset read ++ bytes) back, length-drop (offset + length bytes) read);
    }

pub cut_whole : (to : ℕ) (read : List ℕ) → Cut to read (take to read)
cut_whole to read = record { no_shorter = omega (arith, length-take to read); front = ap (λ (n : ℕ). take n read) (length-take to read) ∙ take_min to read }

-- a failed call leaves what a read gives
pub kept_reads : (old new : List Step) (first : List ℕ) (step : Step) → ((read : List ℕ) → read_after step read ≡ read) → MayAdd old new step → reads_after new first ≡ reads_after old first
kept_reads old new first step still may = ⊎_elim
    (λ more. ap (λ (l : List Step). reads_after l first) more ∙ reads_push old step first ∙ still (reads_after old first))
    (λ rest. ⊎_elim (λ more. ap (λ (l : List Step). reads_after l first) more ∙ reads_push old Nothing first) (λ same. ap (λ (l : List Step). reads_after l first) same) rest) may

pub reads_more : (old new : List Step) (first : List ℕ) (step : Step) → new ≡ old ++ step ∷ [] → reads_after new first ≡ read_after step (reads_after old first)
reads_more old new first step more = ap (λ (l : List Step). reads_after l first) more ∙ reads_push old step first

pub ok_fact : {T E : Type 0} {P : Type 0} (r : Result T E) → IsOk r → OnOk r P → P
ok_fact (Ok x) ok p = p
ok_fact (Err e) ok p = absurd (cc ok)

-- a call whose steps leave what a read gives
pub looked_reads : {T E : Type 0} (r : Result T E) (old new : List Step) (first : List ℕ) (made tried : Step) → ((read : List ℕ) → read_after made read ≡ read) → ((read : List ℕ) → read_after tried read ≡ read)
    → OnOk r (new ≡ old ++ made ∷ []) → OnErr r (MayAdd old new tried) → reads_after new first ≡ reads_after old first
looked_reads (Ok x) old new first made tried still tried_still more may = ap (λ (l : List Step). reads_after l first) more ∙ reads_push old made first ∙ still (reads_after old first)
looked_reads (Err e) old new first made tried still tried_still more may = kept_reads old new first tried tried_still may

-- a failed call leaves an image as its step does, or as it was
pub kept_images : (old new : List Step) (first : List ℕ) (step : Step) → MayAdd old new step → (c : List ℕ) → IsImage new first c → Leaves step (reads_after old first) (IsImage old first) c ⊎ IsImage old first c
kept_images old new first step may c left = ⊎_elim
    (λ more. inl (images_push old new first step more c left))
    (λ rest. ⊎_elim (λ more. inr (images_push old new first Nothing more c left)) (λ same. inr (subst (λ (l : List Step). IsImage l first c) same left)) rest) may

pub kept_within : (old new : List Step) (first : List ℕ) → MayAdd old new Nothing → Within (IsImage old first) (IsImage new first)
kept_within old new first may c left = ⊎_elim (λ same. same) (λ same. same) (kept_images old new first Nothing may c left)

pub looked_within : (old new : List Step) (first : List ℕ) → new ≡ old ++ Nothing ∷ [] → Within (IsImage old first) (IsImage new first)
looked_within old new first more c left = images_push old new first Nothing more c left

pub kept_write : (old new : List Step) (first : List ℕ) (offset : ℕ) (bytes : List ℕ) → MayAdd old new (FailedWrite offset bytes) → Follows (Torn offset (length bytes)) (IsImage old first) (IsImage new first)
kept_write old new first offset bytes may c left = ⊎_elim (λ torn. torn) (λ same. (c, same, torn_nothing offset (length bytes) c)) (kept_images old new first (FailedWrite offset bytes) may c left)

pub wrote_follows : (old new : List Step) (first : List ℕ) (offset : ℕ) (bytes : List ℕ) → offset ≤ length (reads_after old first) → new ≡ old ++ Wrote offset bytes ∷ [] → Follows (Torn offset (length bytes)) (IsImage old first) (IsImage new first)
wrote_follows old new first offset bytes le more c left = ⊎_elim
    (λ is. (reads_after old first, reads_image old first (reads_after old first) refl, subst (Torn offset (length bytes) (reads_after old first)) (sym is) (torn_whole offset (reads_after old first) bytes le)))
    (λ torn. torn) (images_push old new first (Wrote offset bytes) more c left)

pub kept_cut : (old new : List Step) (first : List ℕ) (to : ℕ) → MayAdd old new (FailedCut to) → Follows (Cut to) (IsImage old first) (IsImage new first)
kept_cut old new first to may c left = ⊎_elim (λ torn. torn) (λ same. (c, same, cut_nothing to c)) (kept_images old new first (FailedCut to) may c left)

pub cut_follows : (old new : List Step) (first : List ℕ) (to : ℕ) → new ≡ old ++ CutTo to ∷ [] → Follows (Cut to) (IsImage old first) (IsImage new first)
cut_follows old new first to more c left = ⊎_elim
    (λ is. (reads_after old first, reads_image old first (reads_after old first) refl, subst (Cut to (reads_after old first)) (sym is) (cut_whole to (reads_after old first))))
    (λ torn. torn) (images_push old new first (CutTo to) more c left)

pub synced_within : (old new : List Step) (first : List ℕ) → new ≡ old ++ Synced ∷ [] → Within (IsImage old first) (IsImage new first)
synced_within old new first more c left = reads_image old first c (images_push old new first Synced more c left)

torn_if : (offset n : ℕ) (bytes left : List ℕ) (b : Bool) → nat_le offset (length left) ≡ b → length bytes ≡ n → Torn offset n left (if b then written left offset bytes else left)
torn_if offset n bytes left true le size = subst (λ (k : ℕ). Torn offset k left (written left offset bytes)) size (torn_whole offset left bytes (leb-true offset (length left) le))
torn_if offset n bytes left false le size = torn_nothing offset n left

torn_write_is : (pending : Pending) (offset : ℕ) (bytes left : List ℕ) → Torn offset (length bytes) left (torn_write pending offset bytes left)
torn_write_is pendings.Lost offset bytes left = torn_nothing offset (length bytes) left
torn_write_is pendings.Landed offset bytes left = torn_if offset (length bytes) bytes left (nat_le offset (length left)) refl refl
torn_write_is (pendings.Torn byte) offset bytes left = torn_if offset (length bytes) (replicate (length bytes) byte) left (nat_le offset (length left)) refl (length-replicate (length bytes) byte)

torn_cut_is : (pending : Pending) (to : ℕ) (left : List ℕ) → Cut to left (torn_cut pending to left)
torn_cut_is pendings.Lost to left = cut_nothing to left
torn_cut_is pendings.Landed to left = cut_whole to left
torn_cut_is (pendings.Torn byte) to left = cut_whole to left

image_after_is : (pending : Pending) (step : Step) (read left : List ℕ) (old : List ℕ → Type 0) → old left → Leaves step read old (image_after pending step read left)
image_after_is pending Nothing read left old was = was
image_after_is pending (Wrote offset bytes) read left old was = inr (left, was, torn_write_is pending offset bytes left)
image_after_is pending (FailedWrite offset bytes) read left old was = (left, was, torn_write_is pending offset bytes left)
image_after_is pending (CutTo to) read left old was = inr (left, was, torn_cut_is pending to left)
image_after_is pending (FailedCut to) read left old was = (left, was, torn_cut_is pending to left)
image_after_is pending Synced read left old was = refl

-- what a crash leaves is an image
pub crash_image_is : (pending : Pending) (steps : List Step) (read left : List ℕ) (old : List ℕ → Type 0) → old left → AllLeave steps read old (crash_image pending steps read left)
crash_image_is pending [] read left old was = was
crash_image_is pending (step ∷ steps) read left old was = crash_image_is pending steps (read_after step read) (image_after pending step read left) (Leaves step read old) (image_after_is pending step read left old was)

pub length-written : (offset : ℕ) (read bytes : List ℕ) → offset ≤ length read → length (written read offset bytes) ≤ length read + length bytes
length-written offset read bytes le = omega (arith, (torn_whole offset read bytes le).no_longer)

-- each image after a sync is what a read gives
pub synced_is : (old new : List Step) (first : List ℕ) → new ≡ old ++ Synced ∷ [] → (c : List ℕ) → IsImage new first c → c ≡ reads_after new first
synced_is old new first more c left = images_push old new first Synced more c left ∙ sym (ap (λ (l : List Step). reads_after l first) more ∙ reads_push old Synced first)

pub image_at : (pending : Pending) (steps : List Step) (first : List ℕ) (now moment : ℕ) (c : List ℕ) → moment ≤ now → c ≡ crash_image pending (take moment steps) first first → IsImageSince steps first now moment c
image_at pending steps first now moment c le is = (moment, omega arith, le, subst (IsImage (take moment steps) first) (sym is) (crash_image_is pending (take moment steps) first first (λ d. d ≡ first) refl))

pub sync_within : {T E : Type 0} (r : Result T E) (old new : List Step) (first : List ℕ) → OnOk r (new ≡ old ++ Synced ∷ []) → OnErr r (MayAdd old new Nothing) → Within (IsImage old first) (IsImage new first)
sync_within (Ok x) old new first more may = synced_within old new first more
sync_within (Err e) old new first more may = kept_within old new first may
