-- What a frame more makes of a replay.
use Rattle.std.proofs.Common.{◌≡◌, ◌+◌, ℕ, List, [], ◌∷◌, ◌++◌, length, map, drop, refl, sym, ◌∙◌, ap, subst, inl, inr, arith, append_assoc, length-append, Option, Bool, true, false, Err}
use Rattle.std.specs.Prelude.{◌==◌}
use Rattle.std.specs.Option.{ForSome}
use Rattle.lrs_fold.specs.LrsHistoryHistory.{end_offset, step, IsLegalFrom, ComesNext}
use Rattle.lrs_journal.specs.Store.{store, header, head_of, frames, Stands, StandsIn, IsDamaged}
use Rattle.lrs_journal.specs.declared.sizes.Format.TheVariants as format
use Rattle.lrs_journal.specs.Replay.{Replay, HasReadTo, HasRead, HasNextOffset, HasSameOffset}
use Rattle.lrs_journal.specs.declared.replay.ReplayRefused.{ReplayRefused}
use Rattle.lrs_journal.specs.declared.replay.ReplayRefused.TheVariants as replay
use Rattle.lrs_journal.specs.declared.sizes.TheConstants.{FRAME_HEAD, HEADER}
use Rattle.lrs_journal.proofs.Unique.{store_length, store_longer}
use Rattle.lrs_machine.specs.declared.opening.DeskRefused.{DeskRefused}
use Rattle.lrs_machine.specs.declared.opening.DeskRefused.TheVariants as desk
use Rattle.lrs_machine.specs.Desk.{BeginsWithFrames, HasLegalFrames, IsDeskRefused}
use Rattle.lrs_machine.specs.Replays.{may_follow, refusal_of, HasReadAll, HasReadEntries, IsReplayed, TakesEntry, TakesFrame}
use Rattle.lrs_machine.proofs.Following.{may_decides}
use Rattle.lrs_machine.proofs.Histories.{state_from-more, map-more, legal-more}
use Rattle.lrs_parts.specs.State.{State, nothing}
use Rattle.lrs_record.specs.Entries.{IsLawful, written_entry}
use Rattle.lrs_record.specs.declared.entry.Entry.{Entry}

not_both : (b : Bool) → b ≡ true → b ≡ false → ⊥
not_both b is isnt = cc

-- ---- frames

pub begins_with : (bytes : List ℕ) (limit offset number : ℕ) (ps : List (List ℕ)) → HasReadTo format.Two bytes limit offset number ps → BeginsWithFrames bytes limit ps
begins_with bytes limit offset number ps read = (
  record {
    least = read.least;
    most = read.most;
    rest = frames ps ++ drop offset bytes;
    split = read.begins ∙ append_assoc (header limit) (frames ps) (drop offset bytes);
  },
  read.sizes,
  (drop offset bytes, read.begins),
)

legal_frames : {D : Type 0} (bytes : List ℕ) (replay : Replay D) (st : State) (h : List Entry) (k : ℕ) → length h ≡ k → IsReplayed replay st h → HasReadEntries bytes replay h → HasLegalFrames bytes replay.limit k h
legal_frames bytes replay st h k long so_far read = (
  long,
  so_far.legal,
  begins_with bytes replay.limit replay.offset replay.number (map written_entry h)
      (subst (λ f. HasReadTo f bytes replay.limit replay.offset replay.number (map written_entry h)) so_far.format read),
)

-- the list ended, and the replay has read the same
pub taken_end : {D : Type 0} (told : D → Option (List ℕ)) (old new : Replay D) (st : State) (h : List Entry) (k : ℕ) → length h ≡ k → new.format ≡ old.format → new.limit ≡ old.limit → told new.disk ≡ told old.disk → IsReplayed old st h
    → ForSome (told old.disk) (λ bytes. HasReadEntries bytes old h) → HasSameOffset old new
    → ForSome (told old.disk) (λ bytes. (payloads : List (List ℕ)) → HasRead bytes old payloads → HasRead bytes new payloads × StandsIn old.format bytes old.limit payloads) → TakesFrame told new st k h false
taken_end told old new st h k long kind limit still so_far read same ends = (
  long,
  record {
    format = kind ∙ so_far.format;
    legal = subst (λ l. IsLegalFrom l [] h) (sym limit) so_far.legal;
    folded = so_far.folded;
    counts = same.1 ∙ so_far.counts;
    offset = same.0 ∙ so_far.offset ∙ ap (λ l. end_offset l h) (sym limit);
  },
  λ bytes there.
      let e = ends bytes (sym still ∙ there) (map written_entry h) (read bytes (sym still ∙ there)) in
      (e.0, subst (λ l. Stands bytes l (map written_entry h)) (sym limit) (subst (λ f. StandsIn f bytes old.limit (map written_entry h)) so_far.format e.1)),
)

offset_behind : {D : Type 0} (old new : Replay D) (st : State) (h : List Entry) (frame : List ℕ) (e : Entry) → new.limit ≡ old.limit → HasNextOffset old new frame → IsReplayed old st h → written_entry e ≡ frame
    → new.offset ≡ end_offset new.limit h + (FRAME_HEAD + length (written_entry e))
offset_behind old new st h frame e limit next so_far is =
    next.0 ∙ ap (λ f. old.offset + (head_of f + length frame)) so_far.format ∙ ap (λ n. n + (FRAME_HEAD + length frame)) (so_far.offset ∙ ap (λ l. end_offset l h) (sym limit)) ∙ ap (λ f. end_offset new.limit h + (FRAME_HEAD + length f)) (sym is)

-- one entry more
pub taken_more : {D : Type 0} (told : D → Option (List ℕ)) (old new : Replay D) (st su : State) (h g : List Entry) (k : ℕ) (frame : List ℕ) (e : Entry) → length h ≡ k → new.format ≡ old.format → new.limit ≡ old.limit → told new.disk ≡ told old.disk
    → IsReplayed old st h → ForSome (told old.disk) (λ bytes. HasReadEntries bytes old h) → HasNextOffset old new frame
    → ForSome (told old.disk) (λ bytes. (payloads : List (List ℕ)) → HasRead bytes old payloads → HasRead bytes new (payloads ++ frame ∷ []))
    → IsLawful e → written_entry e ≡ frame → may_follow (k == 0) new.limit new.offset st e ≡ true → su ≡ step st e → g ≡ h ++ e ∷ [] → TakesFrame told new su k g true
taken_more told old new st su h g k frame e long kind limit still so_far read next more lawful is may folded longer = subst (λ (l : List Entry). TakesFrame told new su k l true) (sym longer) (
  omega (arith, long, length-append h (e ∷ [])),
  record {
    format = kind ∙ so_far.format;
    legal = legal-more new.limit [] h e (subst (λ l. IsLegalFrom l [] h) (sym limit) so_far.legal) lawful
        ((may_decides new.limit new.offset st h e k long so_far.folded lawful.values.moment (offset_behind old new st h frame e limit next so_far is)).0 may);
    folded = folded ∙ (ap (λ z. step z e) so_far.folded ∙ sym (state_from-more nothing h e));
    counts = omega (arith, next.1, so_far.counts, length-append h (e ∷ []));
    offset = offset_behind old new st h frame e limit next so_far is ∙ sym (store_longer format.Two new.limit (map written_entry h) (written_entry e)) ∙ ap (λ ps. length (store new.limit ps)) (sym (map-more written_entry h e));
  },
  λ bytes there.
      subst (λ ps. HasReadTo new.format bytes new.limit new.offset new.number ps) (ap (λ f. map written_entry h ++ f ∷ []) (sym is) ∙ sym (map-more written_entry h e))
      (more bytes (sym still ∙ there) (map written_entry h) (read bytes (sym still ∙ there))),
)

-- a frame that is none of an entry that comes next
taken_illegal : {D : Type 0} (bytes : List ℕ) (old new : Replay D) (st : State) (h : List Entry) (k : ℕ) (frame : List ℕ) → length h ≡ k → new.format ≡ old.format → new.limit ≡ old.limit → IsReplayed old st h → HasReadEntries bytes old h
    → HasNextOffset old new frame → HasRead bytes new (map written_entry h ++ frame ∷ [])
    → ((e : Entry) → IsLawful e → written_entry e ≡ frame → may_follow (k == 0) new.limit new.offset st e ≡ false) → IsDeskRefused bytes (desk.IllegalEntry k)
taken_illegal bytes old new st h k frame long kind limit so_far before next read never = (
  old.limit,
  h,
  legal_frames bytes old st h k long so_far before,
  inl (record {
    frame = frame;
    begins = subst (λ l. BeginsWithFrames bytes l (map written_entry h ++ frame ∷ [])) limit (begins_with bytes new.limit new.offset new.number (map written_entry h ++ frame ∷ [])
        (subst (λ f. HasReadTo f bytes new.limit new.offset new.number (map written_entry h ++ frame ∷ [])) (kind ∙ so_far.format) read));
    broken = λ e lawful is comes.
        not_both (may_follow (k == 0) new.limit new.offset st e)
        ((may_decides new.limit new.offset st h e k long so_far.folded lawful.values.moment (offset_behind old new st h frame e limit next so_far is)).1 (subst (λ l. ComesNext l h e) (sym limit) comes))
        (never e lawful is);
  }),
)

taken_damaged : {D : Type 0} (bytes : List ℕ) (old : Replay D) (st : State) (h : List Entry) (j : ℕ) → IsReplayed old st h → HasReadEntries bytes old h → j ≡ old.number
    → IsDamaged bytes old.limit (map written_entry h) → IsDeskRefused bytes (desk.Damaged j)
taken_damaged bytes old st h j so_far before is damaged = (old.limit, h, legal_frames bytes old st h j (sym so_far.counts ∙ sym is) so_far before, damaged)

-- a frame that isn't read
pub taken_unread : {D : Type 0} (bytes : List ℕ) (old : Replay D) (st : State) (h : List Entry) (r : ReplayRefused) → IsReplayed old st h → HasReadEntries bytes old h
    → ((j : ℕ) → r ≡ replay.Damaged j → (j ≡ old.number) × IsDamaged bytes old.limit (map written_entry h)) → IsDeskRefused bytes (refusal_of r)
taken_unread bytes old st h (replay.Damaged j) so_far before damaged = let d = damaged j refl in taken_damaged bytes old st h j so_far before d.0 d.1
taken_unread bytes old st h replay.Failed so_far before damaged = tt
taken_unread bytes old st h replay.Memory so_far before damaged = tt

-- an entry that isn't taken
pub taken_refused : {D : Type 0} (bytes : List ℕ) (old new : Replay D) (st su : State) (h g : List Entry) (k limit offset : ℕ) (frame : List ℕ) (r : DeskRefused) → length h ≡ k → new.format ≡ old.format → new.limit ≡ old.limit
    → IsReplayed old st h → HasReadEntries bytes old h → HasNextOffset old new frame → HasRead bytes new (map written_entry h ++ frame ∷ []) → limit ≡ new.limit → offset ≡ new.offset
    → TakesEntry frame k limit offset st su h g (Err r) → IsDeskRefused bytes r
taken_refused bytes old new st su h g k limit offset frame (desk.IllegalEntry j) long kind same so_far before next read of_limit of_offset takes =
    subst (λ i. IsDeskRefused bytes (desk.IllegalEntry i)) (sym takes.0) (taken_illegal bytes old new st h k frame long kind same so_far before next read (λ e lawful is.
    subst (λ p. may_follow (k == 0) new.limit p st e ≡ false) of_offset (subst (λ l. may_follow (k == 0) l offset st e ≡ false) of_limit (takes.1 e lawful is))))
taken_refused bytes old new st su h g k limit offset frame desk.Memory long kind same so_far before next read of_limit of_offset takes = tt
taken_refused bytes old new st su h g k limit offset frame desk.Failed long kind same so_far before next read of_limit of_offset takes = absurd takes
taken_refused bytes old new st su h g k limit offset frame desk.NotAStore long kind same so_far before next read of_limit of_offset takes = absurd takes
taken_refused bytes old new st su h g k limit offset frame desk.OldFormat long kind same so_far before next read of_limit of_offset takes = absurd takes
taken_refused bytes old new st su h g k limit offset frame (desk.Damaged j) long kind same so_far before next read of_limit of_offset takes = absurd takes

-- a list's end without a frame
pub ended_empty : {D : Type 0} (bytes : List ℕ) (replay : Replay D) (st : State) (h : List Entry) → length h ≡ 0 → IsReplayed replay st h → HasReadAll bytes replay h → IsDeskRefused bytes (desk.IllegalEntry 0)
ended_empty bytes replay st [] long so_far read = (replay.limit, [], legal_frames bytes replay st [] 0 long so_far read.0, inr (refl, read.1))
ended_empty bytes replay st (x ∷ h) long so_far read = absurd (omega (arith, long))

-- before the first frame
pub taken_none : {D : Type 0} (replay : Replay D) (st : State) (h : List Entry) → st ≡ nothing → h ≡ [] → replay.format ≡ format.Two → (replay.offset ≡ HEADER) × (replay.number ≡ 0) → IsReplayed replay st h
taken_none replay st h empty none kind begun = subst (λ (l : List Entry). IsReplayed replay st l) (sym none) (record {
  format = kind;
  legal = tt;
  folded = empty;
  counts = begun.1;
  offset = begun.0 ∙ sym (store_length format.Two replay.limit []);
})
