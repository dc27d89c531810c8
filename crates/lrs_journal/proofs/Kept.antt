-- What a journal's fields say, and how they follow its disk.
use Rattle.std.proofs.Common.{◌≡◌, inl, inr, ⊎_elim, ℕ, ◌+◌, ◌≤◌, ◌<◌, ◌^◌, List, [], ◌∷◌, ◌++◌, length, refl, sym, ◌∙◌, ap, arith, subst, Option, Some, None, option_map, Bool, true, false, length-append}
use Rattle.std.specs.Option.{is_some}
use Rattle.std.proofs.lemmas.List.{same_from_push}
use Rattle.lrs_disk.specs.Disk.{written}
use Rattle.lrs_journal.specs.Store.{body, Stands, IsBeforeOrAfter, payloads_in}
use Rattle.lrs_journal.specs.Steps.{KeepsUpTo, IsAtGate, IsSettled, IsDoubtful, IsSound, end_behind}
use Rattle.lrs_journal.specs.Journal.{Journal, settled, frames_of, need_of, StandsForFrames, IsHolding, IsJournal, TellsAlike, Stores}
use Rattle.lrs_journal.proofs.Told.{told_back}
use Rattle.lrs_journal.proofs.Doubt.{gate_within, doubt_within, behind_free, gate_keeps, gate_opens, staged_doubt, rest_stands, doubt_stands, placed_push}
use Rattle.lrs_journal.proofs.Reading.{stands_read}

-- ---- one call more

pub settled_kept : (old new : List ℕ → Type 0) (limit end number : ℕ) (ps : List (List ℕ)) → IsSettled old limit end number ps → ((c : List ℕ) → new c → KeepsUpTo (end + 1) old c) → IsSettled new limit end number ps
settled_kept old new limit end number ps s from = record {
  placed = s.placed;
  each = λ c left. let now = from c left in behind_free limit ps [] end s.placed.behind c now.0 (s.each now.0 now.1) now.2;
  counts = s.counts;
}

pub settled_staged : (old new : List ℕ → Type 0) (limit end number : ℕ) (ps : List (List ℕ)) (p : List ℕ) → IsSettled old limit end number ps
    → ((c : List ℕ) → new c → (b : List ℕ) × old b × (c ≡ written b (end + 1) (body number p ++ 0 ∷ []))) → IsDoubtful new limit end (number + 1) ps p
settled_staged old new limit end number ps p s from = record {
  placed = s.placed;
  each = λ c left. let now = from c left in staged_doubt limit ps p end s.placed.behind c now.0 (s.each now.0 now.1) (now.2 ∙ ap (λ (n : ℕ). written now.0 (end + 1) (body n p ++ 0 ∷ [])) s.counts);
  counts = ap (λ (n : ℕ). n + 1) s.counts;
}

pub doubt_kept : (old new : List ℕ → Type 0) (limit end number : ℕ) (ps : List (List ℕ)) (p : List ℕ) → IsDoubtful old limit end number ps p → ((c : List ℕ) → new c → IsAtGate end old c) → IsDoubtful new limit end number ps p
doubt_kept old new limit end number ps p d from = record {
  placed = d.placed;
  each = λ c left. let now = from c left in gate_keeps limit ps p end d.placed.behind c now.0 (d.each now.0 now.1) now.2 now.3;
  counts = d.counts;
}

pub doubt_opened : (old new : List ℕ → Type 0) (limit end number size : ℕ) (ps : List (List ℕ)) (p : List ℕ) → IsDoubtful old limit end number ps p → size ≡ length p → size < 2 ^ 32
    → ((c : List ℕ) → new c → (b : List ℕ) × old b × (c ≡ written b end (1 ∷ []))) → IsSettled new limit (end + (13 + size)) number (ps ++ p ∷ [])
doubt_opened old new limit end number size ps p d is small from = record {
  placed = placed_push limit end size ps p d.placed is small;
  each = λ c left. let now = from c left in gate_opens limit ps p end d.placed.behind c now.0 (d.each now.0 now.1) now.2;
  counts = d.counts ∙ sym (length-append ps (p ∷ []));
}

-- ---- what is told

-- what is made of told bytes is the same before and after
pub same_map : (f g : List ℕ → List (List ℕ)) (old new : Option (List ℕ)) → TellsAlike old new → ((b c : List ℕ) → old ≡ Some b → new ≡ Some c → g c ≡ f b) → option_map g new ≡ option_map f old
same_map f g None None alike same = refl
same_map f g None (Some c) alike same = absurd alike
same_map f g (Some b) None alike same = absurd alike
same_map f g (Some b) (Some c) alike same = ap Some (same b c refl refl)

pub more_map : (f g : List ℕ → List (List ℕ)) (more : List (List ℕ) → List (List ℕ)) (old new : Option (List ℕ)) → TellsAlike old new → ((b c : List ℕ) → old ≡ Some b → new ≡ Some c → g c ≡ more (f b))
    → option_map g new ≡ option_map more (option_map f old)
more_map f g more None None alike same = refl
more_map f g more None (Some c) alike same = absurd alike
more_map f g more (Some b) None alike same = absurd alike
more_map f g more (Some b) (Some c) alike same = ap Some (same b c refl refl)

-- the bytes of which a list was read
pub mapped : (f : List ℕ → List (List ℕ)) (told : Option (List ℕ)) (x : List (List ℕ)) → option_map f told ≡ Some x → (b : List ℕ) × (told ≡ Some b) × (x ≡ f b)
mapped f None x is = absurd (cc is)
mapped f (Some b) x is = (b, refl, cc is)

-- ---- what is read

pub settled_read : (image : List ℕ → Type 0) (limit end number : ℕ) (ps : List (List ℕ)) (b : List ℕ) → IsSettled image limit end number ps → image b → payloads_in (settled false end b) ≡ ps
settled_read image limit end number ps b s left = stands_read b limit ps (rest_stands limit end ps b s.placed (s.each b left))

pub doubt_read : (image : List ℕ → Type 0) (limit end number : ℕ) (ps : List (List ℕ)) (p b : List ℕ) → IsDoubtful image limit end number ps p → length p < 2 ^ 32 → image b → payloads_in (settled true end b) ≡ ps ++ p ∷ []
doubt_read image limit end number ps p b d small left =
    let opened : List ℕ = written b end (1 ∷ []) in
    stands_read opened limit (ps ++ p ∷ []) (rest_stands limit (end + (13 + length p)) (ps ++ p ∷ []) opened (placed_push limit end (length p) ps p d.placed refl small) (gate_opens limit ps p end d.placed.behind opened b (d.each b left) refl))

-- ---- what it stands for

-- a journal of these fields
abbrev pub seen : {D : Type 0} → D → ℕ → ℕ → ℕ → Option ℕ → Journal D
seen disk limit gate number doubt = record { disk = disk; limit = limit; gate = gate; end = end_behind gate doubt; doubt = is_some doubt; number = number }

module _ {D : Type 0} (told : D → Option (List ℕ)) (image : D → List ℕ → Type 0) (reads : (disk : D) (b : List ℕ) → told disk ≡ Some b → image disk b) where
  pub settled_journal : (disk : D) (limit end number : ℕ) → IsSound (told disk) (image disk) limit end number None → IsJournal told image (seen disk limit end number None)
  settled_journal disk limit end number sound = record {
    least = sound.least;
    most = sound.most;
    holds = λ x is.
        let from = mapped (λ bytes. payloads_in (settled false end bytes)) (told disk) x is in
        let tied = sound.tied from.0 from.1 in
        let whole : x ≡ tied.0 = from.2 ∙ settled_read (image disk) limit end number tied.0 from.0 tied.1 (reads disk from.0 from.1) in
        subst (IsHolding told image (seen disk limit end number None)) (sym whole) (record {
          reads = λ c told_c. rest_stands limit end tied.0 c tied.1.placed (tied.1.each c (reads disk c told_c));
          each = λ c left. rest_stands limit end tied.0 c tied.1.placed (tied.1.each c left);
          offset = tied.1.placed.behind;
          counts = tied.1.counts;
        });
  }

  pub doubt_journal : (disk : D) (limit end number size : ℕ) → IsSound (told disk) (image disk) limit end number (Some size) → IsJournal told image (seen disk limit end number (Some size))
  doubt_journal disk limit end number size sound = record {
    least = sound.least;
    most = sound.most;
    holds = λ x is.
        let from = mapped (λ bytes. payloads_in (settled true end bytes)) (told disk) x is in
        let tied = sound.tied from.0 from.1 in
        let ps = tied.0 in
        let p = tied.1 in
        let d = tied.3 in
        let small : length p < 2 ^ 32 = omega (arith, tied.2, sound.fits.2, sound.most) in
        let whole : x ≡ ps ++ p ∷ [] = from.2 ∙ doubt_read (image disk) limit end number ps p from.0 d small (reads disk from.0 from.1) in
        subst (IsHolding told image (seen disk limit end number (Some size))) (sym whole) (record {
          reads = λ c told_c. (ps, p, refl, doubt_stands limit end ps p c d.placed small (d.each c (reads disk c told_c)));
          each = λ c left. (ps, p, refl, doubt_stands limit end ps p c d.placed small (d.each c left));
          offset = (placed_push limit end size ps p d.placed tied.2 (omega (arith, sound.fits.2, sound.most))).behind;
          counts = d.counts ∙ sym (length-append ps (p ∷ []));
        });
  }

  pub sound_journal : (disk : D) (limit end number : ℕ) (doubt : Option ℕ) → IsSound (told disk) (image disk) limit end number doubt → IsJournal told image (seen disk limit end number doubt)
  sound_journal disk limit end number None sound = settled_journal disk limit end number sound
  sound_journal disk limit end number (Some size) sound = doubt_journal disk limit end number size sound

  -- ---- the fields after a step

  -- a gate that may have been opened leaves the doubt
  pub after_gate : (d0 d1 : D) (limit end number size : ℕ) → IsSound (told d0) (image d0) limit end number (Some size) → TellsAlike (told d0) (told d1) → ((c : List ℕ) → image d1 c → IsAtGate end (image d0) c)
      → IsSound (told d1) (image d1) limit end number (Some size) × (frames_of told (seen d1 limit end number (Some size)) ≡ frames_of told (seen d0 limit end number (Some size)))
  after_gate d0 d1 limit end number size sound alike from = (
    record {
      least = sound.least;
      most = sound.most;
      fits = sound.fits;
      tied = λ c told_c.
          let old = told_back (told d0) (told d1) c alike told_c in
          let tied = sound.tied old.0 old.1 in
          (tied.0, tied.1, tied.2, doubt_kept (image d0) (image d1) limit end number tied.0 tied.1 tied.3 from);
    },
    same_map (λ bytes. payloads_in (settled true end bytes)) (λ bytes. payloads_in (settled true end bytes)) (told d0) (told d1) alike (λ b c told_b told_c.
        let tied = sound.tied b told_b in
        let small : length tied.1 < 2 ^ 32 = omega (arith, tied.2, sound.fits.2, sound.most) in
        doubt_read (image d1) limit end number tied.0 tied.1 c (doubt_kept (image d0) (image d1) limit end number tied.0 tied.1 tied.3 from) small (reads d1 c told_c)
        ∙ sym (doubt_read (image d0) limit end number tied.0 tied.1 b tied.3 small (reads d0 b told_b))),
  )

  -- an open gate ends the doubt
  pub after_opened : (d0 d1 : D) (limit end number size : ℕ) → IsSound (told d0) (image d0) limit end number (Some size) → TellsAlike (told d0) (told d1)
      → ((c : List ℕ) → image d1 c → (b : List ℕ) × (told d0 ≡ Some b) × (c ≡ written b end (1 ∷ [])))
      → IsSound (told d1) (image d1) limit (end + (13 + size)) number None × (frames_of told (seen d1 limit (end + (13 + size)) number None) ≡ frames_of told (seen d0 limit end number (Some size)))
  after_opened d0 d1 limit end number size sound alike from = (
    record {
      least = sound.least;
      most = sound.most;
      fits = omega (arith, sound.fits.1);
      tied = λ c told_c.
          let old = told_back (told d0) (told d1) c alike told_c in
          let tied = sound.tied old.0 old.1 in
          (tied.0 ++ tied.1 ∷ [], doubt_opened (image d0) (image d1) limit end number size tied.0 tied.1 tied.3 tied.2 (omega (arith, sound.fits.2, sound.most)) was);
    },
    same_map (λ bytes. payloads_in (settled true end bytes)) (λ bytes. payloads_in (settled false (end + (13 + size)) bytes)) (told d0) (told d1) alike (λ b c told_b told_c.
        let tied = sound.tied b told_b in
        let small : length tied.1 < 2 ^ 32 = omega (arith, tied.2, sound.fits.2, sound.most) in
        settled_read (image d1) limit (end + (13 + size)) number (tied.0 ++ tied.1 ∷ []) c (doubt_opened (image d0) (image d1) limit end number size tied.0 tied.1 tied.3 tied.2 (omega (arith, sound.fits.2, sound.most)) was) (reads d1 c told_c)
        ∙ sym (doubt_read (image d0) limit end number tied.0 tied.1 b tied.3 small (reads d0 b told_b))),
  )
    where
      was : (c : List ℕ) → image d1 c → (b : List ℕ) × image d0 b × (c ≡ written b end (1 ∷ []))
      was c left = let now = from c left in (now.0, reads d0 now.0 now.1, now.2)

  -- what changed after a closed gate doesn't count
  pub after_behind : (d0 d1 : D) (limit end number : ℕ) → IsSound (told d0) (image d0) limit end number None → TellsAlike (told d0) (told d1) → ((c : List ℕ) → image d1 c → KeepsUpTo (end + 1) (image d0) c)
      → IsSound (told d1) (image d1) limit end number None × (frames_of told (seen d1 limit end number None) ≡ frames_of told (seen d0 limit end number None))
  after_behind d0 d1 limit end number sound alike from = (
    record {
      least = sound.least;
      most = sound.most;
      fits = sound.fits;
      tied = λ c told_c.
          let old = told_back (told d0) (told d1) c alike told_c in
          let tied = sound.tied old.0 old.1 in
          (tied.0, settled_kept (image d0) (image d1) limit end number tied.0 tied.1 from);
    },
    same_map (λ bytes. payloads_in (settled false end bytes)) (λ bytes. payloads_in (settled false end bytes)) (told d0) (told d1) alike (λ b c told_b told_c.
        let tied = sound.tied b told_b in
        settled_read (image d1) limit end number tied.0 c (settled_kept (image d0) (image d1) limit end number tied.0 tied.1 from) (reads d1 c told_c)
        ∙ sym (settled_read (image d0) limit end number tied.0 b tied.1 (reads d0 b told_b))),
  )

  -- a staged frame is in doubt
  pub after_staged : (d0 d1 : D) (limit end number : ℕ) (p : List ℕ) → IsSound (told d0) (image d0) limit end number None → end + 14 + length p ≤ limit → TellsAlike (told d0) (told d1)
      → ((c : List ℕ) → image d1 c → (b : List ℕ) × (told d0 ≡ Some b) × (c ≡ written b (end + 1) (body number p ++ 0 ∷ [])))
      → IsSound (told d1) (image d1) limit end (number + 1) (Some (length p))
      × (frames_of told (seen d1 limit end (number + 1) (Some (length p))) ≡ option_map (λ payloads. payloads ++ p ∷ []) (frames_of told (seen d0 limit end number None)))
  after_staged d0 d1 limit end number p sound fits alike from = (
    record {
      least = sound.least;
      most = sound.most;
      fits = (omega arith, omega (arith, sound.fits), fits);
      tied = λ c told_c.
          let old = told_back (told d0) (told d1) c alike told_c in
          let tied = sound.tied old.0 old.1 in
          (tied.0, p, refl, settled_staged (image d0) (image d1) limit end number tied.0 p tied.1 was);
    },
    more_map (λ bytes. payloads_in (settled false end bytes)) (λ bytes. payloads_in (settled true end bytes)) (λ payloads. payloads ++ p ∷ []) (told d0) (told d1) alike (λ b c told_b told_c.
        let tied = sound.tied b told_b in
        let small : length p < 2 ^ 32 = omega (arith, fits, sound.most) in
        doubt_read (image d1) limit end (number + 1) tied.0 p c (settled_staged (image d0) (image d1) limit end number tied.0 p tied.1 was) small (reads d1 c told_c)
        ∙ ap (λ (l : List (List ℕ)). l ++ p ∷ []) (sym (settled_read (image d0) limit end number tied.0 b tied.1 (reads d0 b told_b)))),
  )
    where
      was : (c : List ℕ) → image d1 c → (b : List ℕ) × image d0 b × (c ≡ written b (end + 1) (body number p ++ 0 ∷ []))
      was c left = let now = from c left in (now.0, reads d0 now.0 now.1, now.2)

  -- ---- where the gate is

  pub gate_there : (disk : D) (limit end number : ℕ) (doubt : Option ℕ) → IsSound (told disk) (image disk) limit end number doubt → (b : List ℕ) → told disk ≡ Some b → end < length b
  gate_there disk limit end number None sound b told_b =
      let tied = sound.tied b told_b in
      omega (arith, gate_within limit tied.0 b (tied.1.each b (reads disk b told_b)), tied.1.placed.behind)
  gate_there disk limit end number (Some size) sound b told_b =
      let tied = sound.tied b told_b in
      omega (arith, doubt_within limit tied.0 tied.1 b (tied.3.each b (reads disk b told_b)), tied.3.placed.behind)

  -- ---- a crash

  -- what a gate that may have been opened leaves
  pub gate_leaves : (d0 : D) (limit end number size : ℕ) → IsSound (told d0) (image d0) limit end number (Some size) → (x : List (List ℕ)) → frames_of told (seen d0 limit end number (Some size)) ≡ Some x
      → (c : List ℕ) → IsAtGate end (image d0) c → StandsForFrames limit true x c
  gate_leaves d0 limit end number size sound x is c now =
      let from = mapped (λ bytes. payloads_in (settled true end bytes)) (told d0) x is in
      let tied = sound.tied from.0 from.1 in
      let d = tied.3 in
      let small : length tied.1 < 2 ^ 32 = omega (arith, tied.2, sound.fits.2, sound.most) in
      let whole : x ≡ tied.0 ++ tied.1 ∷ [] = from.2 ∙ doubt_read (image d0) limit end number tied.0 tied.1 from.0 d small (reads d0 from.0 from.1) in
      subst (λ (l : List (List ℕ)). StandsForFrames limit true l c) (sym whole) (
        tied.0,
        tied.1,
        refl,
        doubt_stands limit end tied.0 tied.1 c d.placed small (gate_keeps limit tied.0 tied.1 end d.placed.behind c now.0 (d.each now.0 now.1) now.2 now.3),
      )

  -- what a change after a closed gate leaves
  pub behind_leaves : (d0 : D) (limit end number : ℕ) → IsSound (told d0) (image d0) limit end number None → (x : List (List ℕ)) → frames_of told (seen d0 limit end number None) ≡ Some x
      → (c : List ℕ) → KeepsUpTo (end + 1) (image d0) c → Stands c limit x
  behind_leaves d0 limit end number sound x is c now =
      let from = mapped (λ bytes. payloads_in (settled false end bytes)) (told d0) x is in
      let tied = sound.tied from.0 from.1 in
      let whole : x ≡ tied.0 = from.2 ∙ settled_read (image d0) limit end number tied.0 from.0 tied.1 (reads d0 from.0 from.1) in
      subst (λ (l : List (List ℕ)). Stands c limit l) (sym whole) (rest_stands limit end tied.0 c tied.1.placed (behind_free limit tied.0 [] end tied.1.placed.behind c now.0 (tied.1.each now.0 now.1) now.2))

-- what has room after the frames of a journal without doubt has it after the gate
pub room_behind : {D : Type 0} (disk : D) (limit gate number : ℕ) (doubt : Option ℕ) (p : List ℕ) (held : Journal D) → seen disk limit gate number doubt ≡ held → doubt ≡ None
    → need_of held p ≤ held.limit → gate + 14 + length p ≤ limit
room_behind {D} disk limit gate number doubt p held view none fits =
    omega (arith, fits, ap (λ (h : Journal D). h.end) view, ap (λ (h : Journal D). h.limit) view, ap (λ (o : Option ℕ). end_behind gate o) none)

pub no_doubt : (o : Option ℕ) → is_some o ≡ false → o ≡ None
no_doubt None none = refl
no_doubt (Some size) none = cc none

-- what a doubtful frame after these leaves
pub doubt_before_or_after : (limit : ℕ) (x : List (List ℕ)) (p c : List ℕ) → StandsForFrames limit true (x ++ p ∷ []) c → IsBeforeOrAfter limit x p c
doubt_before_or_after limit x p c stands =
    let same : x ≡ stands.0 = (same_from_push x stands.0 p stands.1 stands.2).0 in
    ⊎_elim (λ s. inl (subst (λ (l : List (List ℕ)). Stands c limit l) (sym same) s)) (λ s. inr s) stands.3

-- a journal without doubt leaves its frames on its disk
pub stored : {D : Type 0} (told : D → Option (List ℕ)) (image : D → List ℕ → Type 0) (j : Journal D) → IsJournal told image j → j.doubt ≡ false → (x : List (List ℕ)) → frames_of told j ≡ Some x → Stores told j.disk j.limit x
stored told image j sound none x is =
    let from = mapped (λ bytes. payloads_in (settled j.doubt j.gate bytes)) (told j.disk) x is in
    (from.0, from.1, subst (λ (b : Bool). StandsForFrames j.limit b x from.0) none ((sound.holds x is).reads from.0 from.1))
