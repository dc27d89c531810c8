-- What a replay knows once it has gone past what was fetched.
use Rattle.std.proofs.Common.{◌≡◌, ◌≢◌, ◌∙◌, Bool, true, false, ℕ, ◌+◌, ◌≤◌, ◌<◌, ◌^◌, List, [], ◌∷◌, ◌++◌, length, take, drop, refl, sym, ap, subst, Option, Some, Result, Ok, Err, IfOk}
use Rattle.std.specs.Prelude.{IsOk, IsErr, not}
use Rattle.lrs_journal.specs.Store.{head_of, StandsIn, IsDamagedIn}
use Rattle.lrs_journal.specs.declared.sizes.Format.{Format}
use Rattle.lrs_journal.specs.Journal.{HasCount}
use Rattle.lrs_journal.specs.Steps.{IsReplay}
use Rattle.lrs_journal.specs.Replay.{HasReadTo, IsFetched, IsFrameWithin, IsPassed, IsWholeFrame}
use Rattle.lrs_journal.specs.declared.replay.Ahead.{Ahead}
use Rattle.lrs_journal.specs.declared.replay.Ahead.TheVariants as ahead
use Rattle.lrs_journal.specs.declared.replay.ReplayRefused.{ReplayRefused}
use Rattle.lrs_journal.specs.declared.replay.ReplayRefused.TheVariants as refused
use Rattle.lrs_journal.proofs.Frames.{damaged_behind, ended_stands, read_whole, replay_more}

-- what was fetched at an offset of what is told
abbrev pub Found : Format → ℕ → Option (List ℕ) → ℕ → List ℕ → Result Ahead ReplayRefused → Type 0
Found f k told offset into fetched = IfOk fetched (λ h. (x : List ℕ) → told ≡ Some x → IsFetched f k x offset h into)

-- and where it ends
abbrev pub Fits : Format → ℕ → ℕ → List ℕ → Result Ahead ReplayRefused → Type 0
Fits f offset size into fetched = IfOk fetched (λ h. (s : ℕ) → h ≡ ahead.Frame s → IsFrameWithin f offset size s into)

-- ---- what is fetched

-- a whole frame, whose payload was then read
pub fetched_frame : (f : Format) (k : ℕ) (fetched : Result Ahead ReplayRefused) (old new : Option (List ℕ)) (offset size : ℕ) (into : List ℕ) → new ≡ old → ((x : List ℕ) → old ≡ Some x → IsWholeFrame f k (drop offset x) size)
    → IfOk fetched (λ h. (x : List ℕ) → new ≡ Some x → (h ≡ ahead.Frame size) × (into ≡ take size (drop (offset + head_of f) x))) → Found f k old offset into fetched
fetched_frame f k (Err failure) old new offset size into same whole all = tt
fetched_frame f k (Ok h) old new offset size into same whole all = λ x told_x.
    let read = all x (same ∙ told_x) in
    subst (λ (a : Ahead). IsFetched f k x offset a into) (sym read.0) (whole x told_x, λ s is. let alike : size ≡ s = cc is in subst (λ (k : ℕ). into ≡ take k (drop (offset + head_of f) x)) alike read.1)

pub fetched_within : (f : Format) (fetched : Result Ahead ReplayRefused) (offset total size : ℕ) (into : List ℕ) → size < 2 ^ 32 → offset + head_of f + size ≤ total
    → IfOk fetched (λ h. (s : ℕ) → h ≡ ahead.Frame s → (s ≡ size) × (length into ≡ s)) → Fits f offset total into fetched
fetched_within f (Err failure) offset total size into small fits long = tt
fetched_within f (Ok h) offset total size into small fits long = λ s is.
    let read = long s is in
    record {
      small = subst (λ (k : ℕ). k < 2 ^ 32) (sym read.0) small;
      fits = subst (λ (k : ℕ). offset + head_of f + k ≤ total) (sym read.0) fits;
      long = read.1;
    }

-- the frame that was fetched
pub frame_within : (f : Format) (fetched : Result Ahead ReplayRefused) (offset size s : ℕ) (into : List ℕ) → Fits f offset size into fetched → fetched ≡ Ok (ahead.Frame s) → IsFrameWithin f offset size s into
frame_within f (Ok h) offset size s into fits is = (let same : h ≡ ahead.Frame s = cc is in fits s same)
frame_within f (Err failure) offset size s into fits is = absurd (cc is)

-- ---- what was passed

module _ (f : Format) (told : Option (List ℕ)) (limit size offset number : ℕ) (ended : Bool) (into : List ℕ) (p n : ℕ) (e : Bool) (said : Result Bool ReplayRefused) where
  pub replay_passed : (image : List ℕ → Type 0) (fetched : Result Ahead ReplayRefused) → IsPassed f fetched offset number ended p n e said → Found f number told offset into fetched → Fits f offset size into fetched
      → IsReplay f told image limit size offset number ended → IsReplay f told image limit size p n e
  replay_passed image (Ok ahead.End) passed found fits r = rw (passed.0, passed.1, passed.2) (record {
    least = r.least;
    most = r.most;
    few = r.few;
    synced = r.synced;
    size_is = r.size_is;
    tied = r.tied;
    ends = λ b told_b _. (found b told_b).0;
  })
  replay_passed image (Ok ahead.Torn) passed found fits r = rw (passed.0, passed.1, passed.2) r
  replay_passed image (Ok (ahead.Frame s)) passed found fits r =
      let frame = fits s refl in
      rw (passed.0, passed.1, passed.2)
      (replay_more f told image limit size offset number ended into s r frame.small frame.long (λ b told_b. (found b told_b).0) (λ b told_b. (found b told_b).1 s refl))
  replay_passed image (Err failure) passed found fits r = rw (passed.0, passed.1, passed.2) r

  pub frame_passed : (fetched : Result Ahead ReplayRefused) → IsPassed f fetched offset number ended p n e said → Found f number told offset into fetched → Fits f offset size into fetched
      → IfOk said (λ more. more ≡ true → (x : List ℕ) → told ≡ Some x → (ps : List (List ℕ)) → HasReadTo f x limit offset number ps → HasReadTo f x limit p n (ps ++ into ∷ []))
  frame_passed (Ok ahead.End) passed found fits = rw (passed.3) (λ is. absurd (cc is))
  frame_passed (Ok ahead.Torn) passed found fits = rw (passed.3) tt
  frame_passed (Ok (ahead.Frame s)) passed found fits = rw (passed.3, passed.0, passed.1) (λ _ x told_x ps h.
      let whole = found x told_x in
      let frame = fits s refl in
      read_whole f x limit offset number ps into s h frame.small whole.0 frame.long (whole.1 s refl))
  frame_passed (Err failure) passed found fits = rw (passed.3) tt

  pub end_passed : (fetched : Result Ahead ReplayRefused) → IsPassed f fetched offset number ended p n e said → Found f number told offset into fetched
      → IfOk said (λ more. more ≡ false → ((p ≡ offset) × (n ≡ number)) × ((x : List ℕ) → told ≡ Some x → (ps : List (List ℕ)) → HasReadTo f x limit offset number ps → HasReadTo f x limit p n ps × StandsIn f x limit ps))
  end_passed (Ok ahead.End) passed found =
      rw (passed.3, passed.0, passed.1) (λ _. ((refl, refl), λ x told_x ps h. (h, ended_stands f x limit offset number ps h (found x told_x).0)))
  end_passed (Ok ahead.Torn) passed found = rw (passed.3) tt
  end_passed (Ok (ahead.Frame s)) passed found = rw (passed.3) (λ is. absurd (cc is))
  end_passed (Err failure) passed found = rw (passed.3) tt

  pub moved_passed : (fetched : Result Ahead ReplayRefused) → IsPassed f fetched offset number ended p n e said → Fits f offset size into fetched
      → IfOk said (λ more. more ≡ true → (p ≡ offset + (head_of f + length into)) × (n ≡ number + 1))
  moved_passed (Ok ahead.End) passed fits = rw (passed.3) (λ is. absurd (cc is))
  moved_passed (Ok ahead.Torn) passed fits = rw (passed.3) tt
  moved_passed (Ok (ahead.Frame s)) passed fits = rw (passed.3, passed.0, passed.1) (λ _. (ap (λ (k : ℕ). offset + (head_of f + k)) (sym (fits s refl).long), refl))
  moved_passed (Err failure) passed fits = rw (passed.3) tt

  pub ended_passed : (fetched : Result Ahead ReplayRefused) → IsPassed f fetched offset number ended p n e said → IfOk said (λ more. e ≡ not more)
  ended_passed (Ok ahead.End) passed = rw (passed.3) passed.2
  ended_passed (Ok ahead.Torn) passed = rw (passed.3) tt
  ended_passed (Ok (ahead.Frame s)) passed = rw (passed.3) passed.2
  ended_passed (Err failure) passed = rw (passed.3) tt

  pub damaged_passed : (fetched : Result Ahead ReplayRefused) → IsPassed f fetched offset number ended p n e said → Found f number told offset into fetched → ((k : ℕ) → fetched ≢ Err (refused.Damaged k))
      → (k : ℕ) → said ≡ Err (refused.Damaged k) → (k ≡ number) × ((x : List ℕ) → told ≡ Some x → (ps : List (List ℕ)) → HasReadTo f x limit offset number ps → IsDamagedIn f x limit ps)
  damaged_passed (Ok ahead.End) passed found none k is = absurd (cc (sym passed.3 ∙ is))
  damaged_passed (Ok ahead.Torn) passed found none k is =
      (cc (sym passed.3 ∙ is), λ x told_x ps h. damaged_behind f x limit offset number ps h (found x told_x).0)
  damaged_passed (Ok (ahead.Frame s)) passed found none k is = absurd (cc (sym passed.3 ∙ is))
  damaged_passed (Err failure) passed found none k is =
      let same : failure ≡ refused.Damaged k = cc (sym passed.3 ∙ is) in
      absurd (none k (ap (λ (r : ReplayRefused). Err r) same))

  pub refused_passed : (fetched : Result Ahead ReplayRefused) → IsPassed f fetched offset number ended p n e said → IsErr said → ((p ≡ offset) × (n ≡ number)) × (e ≡ ended)
  refused_passed (Ok ahead.End) passed = rw (passed.3) (λ bad. absurd (cc bad))
  refused_passed (Ok ahead.Torn) passed = λ bad. ((passed.0, passed.1), passed.2)
  refused_passed (Ok (ahead.Frame s)) passed = rw (passed.3) (λ bad. absurd (cc bad))
  refused_passed (Err failure) passed = λ bad. ((passed.0, passed.1), passed.2)

  pub count_passed : (a b : ℕ) (fetched : Result Ahead ReplayRefused) → IsPassed f fetched offset number ended p n e said → HasCount a b (fetched ≡ Err refused.Failed) (IsOk fetched)
      → HasCount a b (said ≡ Err refused.Failed) (IsOk said)
  count_passed a b (Ok ahead.End) passed h = record { later = h.later; cause = λ is. absurd (cc (sym passed.3 ∙ is)); kept = λ _. h.kept refl }
  count_passed a b (Ok ahead.Torn) passed h = record { later = h.later; cause = λ is. absurd (cc (sym passed.3 ∙ is)); kept = λ _. h.kept refl }
  count_passed a b (Ok (ahead.Frame s)) passed h = record { later = h.later; cause = λ is. absurd (cc (sym passed.3 ∙ is)); kept = λ _. h.kept refl }
  count_passed a b (Err failure) passed h = record {
    later = h.later;
    cause = λ is. let same : failure ≡ refused.Failed = cc (sym passed.3 ∙ is) in h.cause (ap (λ (r : ReplayRefused). Err r) same);
    kept = λ well. let no = rw (passed.3) at well in absurd (cc no);
  }
