-- What calls that write nothing leave.
use Rattle.std.proofs.Common.{◌≡◌, ◌∙◌, ℕ, ◌≤◌, List, Option, Some, refl, subst}
use Rattle.lrs_disk.specs.Disk.{Elapses, LeavesOnly, Within}
use Rattle.lrs_disk.proofs.Moments.{started, stayed, now_has, then_run, weaker_run}
use Rattle.lrs_journal.specs.Create.{IsStore, IsUntouched}
use Rattle.lrs_journal.specs.Journal.{IsSynced}
use Rattle.lrs_journal.proofs.Frames.{same_told}

module _ {D : Type 0} (told : D → Option (List ℕ)) (image : D → List ℕ → Type 0) (time : D → ℕ) (since : D → ℕ → List ℕ → Type 0)
    (counts_now : (d : D) (t : ℕ) (c : List ℕ) → t ≤ time d → image d c → since d t c) (only_now : (d : D) (c : List ℕ) → since d (time d) c → image d c) where
  -- no call at all
  pub untouched_still : (disk : D) → IsUntouched told image time since disk disk
  untouched_still disk = (refl, started time since image counts_now only_now disk (image disk) (λ c left. left))

  -- one call that leaves the images
  pub untouched_read : (old new : D) → told new ≡ told old → Elapses (time old) (time new) (since old) (since new) (image new) → Within (image old) (image new) → IsUntouched told image time since old new
  untouched_read old new still passes within =
      (still, stayed time since image counts_now only_now old old new (image old) (started time since image counts_now only_now old (image old) (λ c left. left)) passes within)

  -- one run after another
  pub untouched_then : (old mid new : D) → IsUntouched told image time since old mid → IsUntouched told image time since mid new → IsUntouched told image time since old new
  untouched_then old mid new first second = (
    second.0 ∙ first.0,
    then_run time since image counts_now only_now old mid new (image old) (image mid) first.1 second.1 (now_has time since image counts_now only_now old mid (image old) first.1),
  )

  -- where there is no store and nothing is pending
  pub untouched_none : (P : List ℕ → Type 0) → ((c : List ℕ) → (IsStore c → ⊥) → P c) → (old new : D) (x : List ℕ) → IsUntouched told image time since old new → IsSynced told image old
      → told old ≡ Some x → (IsStore x → ⊥) → LeavesOnly time since old new P
  untouched_none P without old new x still synced told_x none =
      weaker_run time since image counts_now only_now old new (image old) P still.1 (λ f left.
      without f (subst (λ (b : List ℕ). IsStore b → ⊥) (same_told (told old) x f told_x (synced f left)) none))

  -- and a store is made then
  pub made_then : (P : List ℕ → Type 0) → ((c : List ℕ) → (IsStore c → ⊥) → P c) → (old mid new : D) (x : List ℕ) → IsUntouched told image time since old mid → IsSynced told image old
      → told old ≡ Some x → (IsStore x → ⊥) → (IsSynced told image mid → LeavesOnly time since mid new P) → LeavesOnly time since old new P
  made_then P without old mid new x still synced told_x none made =
      then_run time since image counts_now only_now old mid new P P (untouched_none P without old mid x still synced told_x none)
      (made (λ f left. still.0 ∙ synced f (now_has time since image counts_now only_now old mid (image old) still.1 f left))) (λ f p. p)
