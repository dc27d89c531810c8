-- A builder's frames, and what is left while its header is opened.
use Rattle.std.proofs.Common.{◌≡◌, ◌∙◌, ℕ, ◌+◌, ◌≤◌, ◌<◌, ◌^◌, List, [], ◌∷◌, ◌++◌, length, drop, Bool, false, refl, Option, Some, None, option_map, sym, ap, subst, arith, length-append}
use Rattle.lrs_disk.specs.Disk.{written, LeavesOnly}
use Rattle.lrs_disk.proofs.Moments.{weaker_run}
use Rattle.lrs_journal.specs.Builder.{Builder, IsBuilding, IsBuilt}
use Rattle.lrs_journal.specs.Store.{store, body, payloads_in}
use Rattle.lrs_journal.specs.Journal.{frames_of, settled, TellsAlike}
use Rattle.lrs_journal.specs.Steps.{GivesBytes, IsBuilder, IsEndOffset, IsLaid, IsSettled, IsSound, IsUnlocking}
use Rattle.lrs_journal.specs.declared.sizes.Format.TheVariants as format
use Rattle.lrs_journal.specs.declared.sizes.TheConstants.{LEAST_BYTES, MOST_BYTES}
use Rattle.lrs_journal.proofs.Creating.{unlocked_rests, unlocking_built}
use Rattle.lrs_journal.proofs.Doubt.{length-body, sizes-push, store-push}
use Rattle.lrs_journal.proofs.Frames.{same_told}
use Rattle.lrs_journal.proofs.Kept.{same_map, seen, settled_read}
use Rattle.lrs_journal.proofs.Told.{told_back}

-- a builder of these fields
abbrev pub laying : {D : Type 0} → D → ℕ → ℕ → ℕ → Bool → Builder D
laying disk limit end number broken = record { disk = disk; limit = limit; end = end; number = number; broken = broken }

module _ {D : Type 0} (told : D → Option (List ℕ)) where
  pub building_laid : (disk : D) (limit end number : ℕ) (broken : Bool) (ps : List (List ℕ)) → LEAST_BYTES ≤ limit → limit ≤ MOST_BYTES → IsBuilding told (laying disk limit end number broken) ps
      → (b : List ℕ) → told disk ≡ Some b → IsLaid b limit end number ps
  building_laid disk limit end number broken ps least most h b told_b = record {
    placed = record { least = least; most = most; sizes = h.sizes; behind = h.offset };
    counts = h.counts;
    is = h.reads b told_b;
  }

  -- one frame more
  pub building_more : (d0 d1 : D) (limit end number : ℕ) (before after : Bool) (ps : List (List ℕ)) (p : List ℕ) → length p < 2 ^ 32 → IsBuilding told (laying d0 limit end number before) ps
      → ((f : List ℕ) → told d1 ≡ Some f → (b : List ℕ) × (told d0 ≡ Some b) × (f ≡ b ++ 1 ∷ body number p)) → IsBuilding told (laying d1 limit (end + (13 + length p)) (number + 1) after) (ps ++ p ∷ [])
  building_more d0 d1 limit end number before after ps p small h laid = record {
    sizes = sizes-push ps p h.sizes small;
    offset = omega (arith, h.offset, ap length (store-push format.Two limit ps p), length-append (store limit ps) (1 ∷ body (length ps) p), length-body (length ps) p);
    counts = omega (arith, h.counts, length-append ps (p ∷ []));
    reads = λ f told_f.
        let from = laid f told_f in
        from.2 ∙ ap (λ (n : ℕ). from.0 ++ 1 ∷ body n p) h.counts ∙ ap (λ (l : List ℕ). l ++ 1 ∷ body (length ps) p) (h.reads from.0 from.1)
        ∙ ap (λ (l : List ℕ). 0 ∷ drop 1 l) (sym (store-push format.Two limit ps p));
  }

-- ---- the header is opened

module _ {D : Type 0} (told : D → Option (List ℕ)) (image : D → List ℕ → Type 0) (reads : (disk : D) (b : List ℕ) → told disk ≡ Some b → image disk b) (d0 d1 : D) (limit end number : ℕ)
    (opened : (f : List ℕ) → image d1 f → (b : List ℕ) × (told d0 ≡ Some b) × (f ≡ written (written b end (0 ∷ [])) 0 (1 ∷ []))) where
  unlocked_settled : (ps : List (List ℕ)) → IsEndOffset limit end ps → number ≡ length ps → ((b : List ℕ) → told d0 ≡ Some b → IsLaid b limit end number ps) → IsSettled (image d1) limit end number ps
  unlocked_settled ps placed counts laid = record {
    placed = placed;
    each = λ f left. let from = opened f left in unlocked_rests limit end number ps from.0 f (laid from.0 from.1) from.2;
    counts = counts;
  }

  pub unlocked_sound : IsBuilder (told d0) (image d0) limit end number false → TellsAlike (told d0) (told d1) → IsSound (told d1) (image d1) limit end number None
  unlocked_sound builder alike = record {
    least = builder.least;
    most = builder.most;
    fits = builder.few;
    tied = λ f told_f.
        let old = told_back (told d0) (told d1) f alike told_f in
        let tied = builder.tied refl old.0 old.1 in (
          tied.0,
          unlocked_settled tied.0 tied.1.placed tied.1.counts (λ b told_b. subst (λ (x : List ℕ). IsLaid x limit end number tied.0) (same_told (told d0) old.0 b old.1 told_b) tied.1),
        );
  }

  pub unlocked_frames : (broken : Bool) (ps : List (List ℕ)) → LEAST_BYTES ≤ limit → limit ≤ MOST_BYTES → TellsAlike (told d0) (told d1) → IsBuilding told (laying d0 limit end number broken) ps
      → frames_of told (seen d1 limit end number None) ≡ option_map (λ _. ps) (told d0)
  unlocked_frames broken ps least most alike h =
      let s = unlocked_settled ps (record { least = least; most = most; sizes = h.sizes; behind = h.offset }) h.counts (building_laid told d0 limit end number broken ps least most h) in
      same_map (λ bytes. ps) (λ bytes. payloads_in (settled false end bytes)) (told d0) (told d1) alike (λ x y told_x told_y. settled_read (image d1) limit end number ps y s (reads d1 y told_y))

-- a crash while it is opened
pub unlocking_run : {D : Type 0} (told : D → Option (List ℕ)) (image : D → List ℕ → Type 0) (time : D → ℕ) (since : D → ℕ → List ℕ → Type 0) (counts_now : (d : D) (t : ℕ) (c : List ℕ) → t ≤ time d → image d c → since d t c)
    (only_now : (d : D) (c : List ℕ) → since d (time d) c → image d c) (d0 d1 : D) (limit end number : ℕ) (broken : Bool) (ps : List (List ℕ)) → IsBuilder (told d0) (image d0) limit end number broken
    → IsBuilding told (laying d0 limit end number broken) ps → LeavesOnly time since d0 d1 (IsUnlocking end (GivesBytes told d0) (image d0)) → LeavesOnly time since d0 d1 (IsBuilt limit ps)
unlocking_run told image time since counts_now only_now d0 d1 limit end number broken ps builder h run =
    weaker_run time since image counts_now only_now d0 d1 (IsUnlocking end (GivesBytes told d0) (image d0)) (IsBuilt limit ps) run
    (λ f left. unlocking_built limit end number ps (GivesBytes told d0) (image d0) f (omega (arith, builder.far)) (building_laid told d0 limit end number broken ps builder.least builder.most h) builder.shut left)
