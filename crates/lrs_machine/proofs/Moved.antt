-- What moving a store rests on: entries that may come, frames that are laid, and why a frame isn't moved.
use Rattle.std.proofs.Common.{◌≡◌, ◌<◌, ◌≤◌, ◌+◌, ◌-◌, ◌^◌, ℕ, min, List, [], ◌∷◌, ◌++◌, length, map, drop, refl, sym, ◌∙◌, ap, subst, inl, inr, arith, append_assoc, length-append, Option, Some, None, Bool, true, false, nat_lt, Result, Ok, Err}
use Rattle.std.specs.Prelude.{◌==◌, ◌||◌, ◌⊎◌, IsErr, IsErrOf}
use Rattle.std.specs.Option.{ForSome}
use Rattle.std.specs.List.{AllByRecursion}
use Rattle.std.proofs.lemmas.Grind.{common_steps}
use Rattle.std.proofs.lemmas.List.{append-nil}
use Rattle.lrs_journal.specs.Builder.{Builder, IsBuilding}
use Rattle.lrs_journal.specs.Create.{IsOpenTo}
use Rattle.lrs_journal.specs.Replay.{Replay, HasReadTo, HasRead, HasNextOffset, HasSameOffset}
use Rattle.lrs_journal.specs.Store.{frames_in, header_in, need_at, need_told, IsDamagedIn, IsPayload, StandsIn}
use Rattle.lrs_journal.specs.declared.journal.AppendRefused.{AppendRefused}
use Rattle.lrs_journal.specs.declared.journal.AppendRefused.TheVariants as append
use Rattle.lrs_journal.specs.declared.replay.ReplayRefused.{ReplayRefused}
use Rattle.lrs_journal.specs.declared.replay.ReplayRefused.TheVariants as replay
use Rattle.lrs_journal.specs.declared.sizes.Format.{Format}
use Rattle.lrs_journal.specs.declared.sizes.TheConstants.{FRAME_HEAD, MOST_BYTES}
use Rattle.lrs_fold.specs.LrsHistoryHistory.{end_offset, need, state, step, ComesNext, IsLegal, IsLegalFrom}
use Rattle.lrs_fold.specs.Next.{may_come}
use Rattle.lrs_parts.specs.State.{State, nothing}
use Rattle.lrs_record.specs.Entries.{IsLawful, written_entry}
use Rattle.lrs_record.specs.declared.entry.Entry.{Entry}
use Rattle.lrs_machine.specs.Migrating.{add_refusal, frame_refusal, judge_refusal, BeginsWithFramesIn, HasFitFrames, HasRoomFrom, IsMigrateRefused, IsMovable, IsMoving, JudgesEntry, MayComeAfter, MayComeFrom, MovesFrame}
use Rattle.lrs_machine.specs.Replays.{has_room, HasReadEntries}
use Rattle.lrs_machine.specs.declared.migrating.MigrateRefused.TheVariants as migrate
use Rattle.lrs_machine.specs.declared.replaying.JudgeRefused.{JudgeRefused}
use Rattle.lrs_machine.specs.declared.replaying.JudgeRefused.TheVariants as judge
use Rattle.lrs_machine.proofs.Following.{may_decides, with_room}
use Rattle.lrs_machine.proofs.Histories.{map-more, state_from-more}

-- ---- entries that can be moved

may-more : (before h : List Entry) (e : Entry) → MayComeFrom before h → IsLawful e → MayComeAfter (before ++ h) e → MayComeFrom before (h ++ e ∷ [])
may-more before [] e may lawful comes = (lawful, subst (λ k. MayComeAfter k e) (append-nil before) comes, tt)
may-more before (x ∷ h) e may lawful comes =
    (may.0, may.1, may-more (before ++ x ∷ []) h e may.2 lawful (subst (λ k. MayComeAfter k e) (sym (append_assoc before (x ∷ []) h)) comes))

room-more : (limit : ℕ) (before h : List Entry) (e : Entry) → HasRoomFrom limit before h → need (end_offset limit (before ++ h)) e ≤ limit → HasRoomFrom limit before (h ++ e ∷ [])
room-more limit before [] e room fits = (subst (λ k. need (end_offset limit k) e ≤ limit) (append-nil before) fits, tt)
room-more limit before (x ∷ h) e room fits =
    (room.0, room-more limit (before ++ x ∷ []) h e room.1 (subst (λ k. need (end_offset limit k) e ≤ limit) (sym (append_assoc before (x ∷ []) h)) fits))

-- one entry more
movable-more : (limit : ℕ) (h : List Entry) (e : Entry) → IsMovable limit h → IsLawful e → MayComeAfter h e → need (end_offset limit h) e ≤ limit → IsMovable limit (h ++ e ∷ [])
movable-more limit h e movable lawful comes fits = (may-more [] h e movable.0 lawful comes, room-more limit [] h e movable.1 fits)

-- an entry that may come and has room comes next
comes_with_room : (limit : ℕ) (h : List Entry) (e : Entry) → IsLawful e → MayComeAfter h e → need (end_offset limit h) e ≤ limit → ComesNext limit h e
comes_with_room limit h e lawful comes fits =
    (may_decides limit (end_offset limit h + (13 + length (written_entry e))) (state h) h e (length h) refl refl lawful.values.moment refl).0
    (with_room (length h == 0) limit (end_offset limit h + (13 + length (written_entry e))) (state h) e (either (length h == 0) _ (roomy (end_offset limit h) (length (written_entry e)) limit fits)) comes)
  where
    either : (a b : Bool) → b ≡ true → a || b ≡ true
    either true b is = refl
    either false b is = is

    roomy : (p n l : ℕ) → p + 14 + n ≤ l → nat_lt (p + (13 + n)) l ≡ true
    roomy p n l fits = let below : p + (13 + n) < l = omega (arith, fits) in grind (arith, common_steps)

legal_from : (limit : ℕ) (before h : List Entry) → MayComeFrom before h → HasRoomFrom limit before h → IsLegalFrom limit before h
legal_from limit before [] may room = tt
legal_from limit before (e ∷ h) may room = (may.0, comes_with_room limit before e may.0 may.1 room.0, legal_from limit (before ++ e ∷ []) h may.2 room.1)

pub movable_legal : (limit : ℕ) (h : List Entry) → 0 < length h → IsMovable limit h → IsLegal limit h
movable_legal limit h some movable = (some, legal_from limit [] h movable.0 movable.1)

-- ---- frames that were read

begins_in : (f : Format) (bytes : List ℕ) (limit offset number : ℕ) (ps : List (List ℕ)) → HasReadTo f bytes limit offset number ps → BeginsWithFramesIn f bytes limit ps
begins_in f bytes limit offset number ps read = (
  record {
    least = read.least;
    most = read.most;
    rest = frames_in f 0 ps ++ drop offset bytes;
    split = read.begins ∙ append_assoc (header_in f limit) (frames_in f 0 ps) (drop offset bytes);
  },
  read.sizes,
  (drop offset bytes, read.begins),
)

-- the entries that were moved so far
fit_frames : {D : Type 0} (told : D → Option (List ℕ)) (bytes : List ℕ) (old : Replay D) (was : Builder D) (st : State) (h : List Entry) (k : ℕ) → length h ≡ k → IsMoving told old was st h → HasReadEntries bytes old h
    → HasFitFrames old.format bytes old.limit (Some was.limit) k h
fit_frames told bytes old was st h k long moving read = (long, moving.movable, begins_in old.format bytes old.limit old.offset old.number (map written_entry h) read)

-- a frame that was read behind them
begins_more : {D : Type 0} (bytes : List ℕ) (old new : Replay D) (ps : List (List ℕ)) → new.format ≡ old.format → new.limit ≡ old.limit → HasRead bytes new ps → BeginsWithFramesIn old.format bytes old.limit ps
begins_more bytes old new ps kind limit read =
    subst (λ f. BeginsWithFramesIn f bytes old.limit ps) kind (subst (λ l. BeginsWithFramesIn new.format bytes l ps) limit (begins_in new.format bytes new.limit new.offset new.number ps read))

-- what was judged, by the entries before it
after_judged : (k : ℕ) (st : State) (h : List Entry) (e : Entry) (b : Bool) → length h ≡ k → st ≡ state h → may_come (k == 0) st e ≡ b → may_come (length h == 0) (state h) e ≡ b
after_judged k st h e b long folded is = subst (λ n. may_come (n == 0) (state h) e ≡ b) (sym long) (subst (λ z. may_come (k == 0) z e ≡ b) folded is)

-- ---- a frame that is moved

-- before the first frame
pub moving_none : {D : Type 0} (told : D → Option (List ℕ)) (old : Replay D) (was : Builder D) (st : State) (h : List Entry) → st ≡ nothing → h ≡ [] → (old.number ≡ 0) × (was.broken ≡ false) × IsBuilding told was [] → was.limit ≤ MOST_BYTES
    → ForSome (told old.disk) (λ bytes. HasRead bytes old []) → IsMoving told old was st h
moving_none told old was st h empty none begun most read = subst (λ l. IsMoving told old was st l) (sym none) (record {
  most = most;
  near = omega (arith, begun.2.offset);
  movable = (tt, tt);
  folded = empty;
  counts = begun.0;
  whole = begun.1;
  laid = begun.2;
  read = read;
})

-- one entry more
pub moved_more : {D : Type 0} (told : D → Option (List ℕ)) (old new : Replay D) (was is : Builder D) (st su : State) (h g : List Entry) (k : ℕ) (frame laid : List ℕ) (e : Entry)
    → length h ≡ k → IsMoving told old was st h → told new.disk ≡ told old.disk → HasNextOffset old new frame
    → ForSome (told old.disk) (λ bytes. (payloads : List (List ℕ)) → HasRead bytes old payloads → HasRead bytes new (payloads ++ frame ∷ []))
    → IsLawful e → written_entry e ≡ frame → written_entry e ≡ laid → may_come (k == 0) st e ≡ true → su ≡ step st e → g ≡ h ++ e ∷ []
    → ((payloads : List (List ℕ)) → IsBuilding told was payloads → IsBuilding told is (payloads ++ laid ∷ []))
    → (is.broken ≡ false) × (is.number ≡ was.number + 1) × (is.end ≡ was.end + (FRAME_HEAD + length laid)) → need_at was.end laid ≤ was.limit → is.limit ≡ was.limit → MovesFrame told new is su k g true
moved_more told old new was is st su h g k frame laid e long moving still next more lawful spells alike comes folds longer added fields room limit = subst (λ l. MovesFrame told new is su k l true) (sym longer) (
  omega (arith, long, length-append h (e ∷ [])),
  record {
    most = subst (λ l. l ≤ MOST_BYTES) (sym limit) moving.most;
    near = omega (arith, fields.2, room, moving.most);
    movable = subst (λ l. IsMovable l (h ++ e ∷ [])) (sym limit) (movable-more was.limit h e moving.movable lawful (after_judged k st h e true long moving.folded comes) fits);
    folded = folds ∙ ap (λ z. step z e) moving.folded ∙ sym (state_from-more nothing h e);
    counts = omega (arith, next.1, moving.counts, length-append h (e ∷ []));
    whole = fields.0;
    laid = subst (λ ps. IsBuilding told is ps) (spelled laid alike) (added (map written_entry h) moving.laid);
    read = λ bytes there. subst (λ ps. HasRead bytes new ps) (spelled frame spells) (more bytes (sym still ∙ there) (map written_entry h) (moving.read bytes (sym still ∙ there)));
  },
)
  where
    spelled : (p : List ℕ) → written_entry e ≡ p → map written_entry h ++ p ∷ [] ≡ map written_entry (h ++ e ∷ [])
    spelled p same = ap (λ f. map written_entry h ++ f ∷ []) (sym same) ∙ sym (map-more written_entry h e)

    fits : need (end_offset was.limit h) e ≤ was.limit
    fits = subst (λ p. need p e ≤ was.limit) moving.laid.offset (subst (λ f. need_at was.end f ≤ was.limit) (sym alike) room)

-- the list ended, and the replay has read the same
pub moved_end : {D : Type 0} (told : D → Option (List ℕ)) (old new : Replay D) (was : Builder D) (st : State) (h : List Entry) (k : ℕ) → length h ≡ k → IsMoving told old was st h → new.format ≡ old.format → new.limit ≡ old.limit
    → told new.disk ≡ told old.disk → HasSameOffset old new
    → ForSome (told old.disk) (λ bytes. (payloads : List (List ℕ)) → HasRead bytes old payloads → HasRead bytes new payloads × StandsIn old.format bytes old.limit payloads) → MovesFrame told new was st k h false
moved_end told old new was st h k long moving kind limit still same ends = (
  long,
  record {
    most = moving.most;
    near = moving.near;
    movable = moving.movable;
    folded = moving.folded;
    counts = same.1 ∙ moving.counts;
    whole = moving.whole;
    laid = moving.laid;
    read = λ bytes there. (ends bytes (sym still ∙ there) (map written_entry h) (moving.read bytes (sym still ∙ there))).0;
  },
  λ bytes there.
      subst (λ f. StandsIn f bytes new.limit (map written_entry h)) (sym kind) (subst (λ l. StandsIn old.format bytes l (map written_entry h)) (sym limit)
      (ends bytes (sym still ∙ there) (map written_entry h) (moving.read bytes (sym still ∙ there))).1),
)

-- ---- a frame that isn't moved

-- a frame that isn't read
pub moved_unread : {D : Type 0} (told : D → Option (List ℕ)) (bytes free : List ℕ) (old : Replay D) (was : Builder D) (st : State) (h : List Entry) (r : ReplayRefused) → IsMoving told old was st h → HasReadEntries bytes old h → IsOpenTo free
    → ((j : ℕ) → r ≡ replay.Damaged j → (j ≡ old.number) × IsDamagedIn old.format bytes old.limit (map written_entry h)) → IsMigrateRefused bytes free (Some was.limit) (frame_refusal r)
moved_unread told bytes free old was st h (replay.Damaged j) moving read vacant damaged =
    let d = damaged j refl in
    (old.format, old.limit, h, vacant, fit_frames told bytes old was st h j (sym (d.0 ∙ moving.counts)) moving read, d.1)
moved_unread told bytes free old was st h replay.Failed moving read vacant damaged = tt
moved_unread told bytes free old was st h replay.Memory moving read vacant damaged = tt

not_both : (b : Bool) → b ≡ true → b ≡ false → ⊥
not_both b is isnt = cc

-- a frame that is none of an entry that may come next
pub moved_illegal : {D : Type 0} (told : D → Option (List ℕ)) (bytes free : List ℕ) (old new : Replay D) (was : Builder D) (st su : State) (h g : List Entry) (k : ℕ) (frame : List ℕ) (r : JudgeRefused) → length h ≡ k → IsMoving told old was st h
    → HasReadEntries bytes old h → IsOpenTo free → new.format ≡ old.format → new.limit ≡ old.limit → HasRead bytes new (map written_entry h ++ frame ∷ []) → JudgesEntry frame (k == 0) st su h g (Err r)
    → IsMigrateRefused bytes free (Some was.limit) (judge_refusal r k)
moved_illegal told bytes free old new was st su h g k frame judge.Illegal long moving read vacant kind limit more never = (
  old.format,
  old.limit,
  h,
  vacant,
  fit_frames told bytes old was st h k long moving read,
  inl (record {
    frame = frame;
    begins = begins_more bytes old new (map written_entry h ++ frame ∷ []) kind limit more;
    broken = λ e lawful spells comes. not_both (may_come (length h == 0) (state h) e) comes (after_judged k st h e false long moving.folded (never e lawful spells));
  }),
)
moved_illegal told bytes free old new was st su h g k frame judge.Memory long moving read vacant kind limit more never = tt

last_small : (ps : List (List ℕ)) (p : List ℕ) → AllByRecursion IsPayload (ps ++ p ∷ []) → IsPayload p
last_small [] p small = small.0
last_small (q ∷ ps) p small = last_small ps p small.1

-- a frame that isn't added
pub moved_unadded : {D : Type 0} (told : D → Option (List ℕ)) (bytes free : List ℕ) (old new : Replay D) (was : Builder D) (st : State) (h : List Entry) (k : ℕ) (frame laid : List ℕ) (e : Entry) (r : AppendRefused) → length h ≡ k → IsMoving told old was st h
    → HasReadEntries bytes old h → IsOpenTo free → new.format ≡ old.format → new.limit ≡ old.limit → HasRead bytes new (map written_entry h ++ frame ∷ [])
    → IsLawful e → written_entry e ≡ frame → written_entry e ≡ laid → may_come (k == 0) st e ≡ true
    → (was.limit < need_at was.end laid → r ≡ append.Full (need_told was.end laid) was.limit) → (need_at was.end laid ≤ was.limit → r ≡ append.Failed) → IsMigrateRefused bytes free (Some was.limit) (add_refusal r)
moved_unadded told bytes free old new was st h k frame laid e append.Failed long moving read vacant kind limit more lawful spells alike comes full fits = tt
moved_unadded told bytes free old new was st h k frame laid e (append.Full needed most) long moving read vacant kind limit more lawful spells alike comes full fits = by_test (nat_lt was.limit (need_at was.end laid)) refl
  where
    by_test : (b : Bool) → nat_lt was.limit (need_at was.end laid) ≡ b → IsMigrateRefused bytes free (Some was.limit) (migrate.Full needed most)
    by_test false is = let below : need_at was.end laid ≤ was.limit = grind (arith, common_steps) in absurd (cc (fits below))
    by_test true is =
        let above : was.limit < need_at was.end laid = grind (arith, common_steps) in
        let told_full = full above in
        let same : most ≡ was.limit = cc told_full in
        let told_needs : needed ≡ need_told was.end laid = cc told_full in
        let small : length frame < 2 ^ 32 = last_small (map written_entry h) frame more.sizes in
        let same_length : length laid ≡ length frame = ap length (sym alike ∙ spells) in
        let whole : need_told was.end laid ≡ need_at was.end laid = omega (arith, small, moving.near, same_length) in
        let needs : needed ≡ need (end_offset was.limit h) e = told_needs ∙ whole ∙ ap (λ f. need_at was.end f) (sym alike) ∙ ap (λ p. need p e) moving.laid.offset in (
          old.format,
          old.limit,
          h,
          vacant,
          fit_frames told bytes old was st h (length h) refl moving read,
          same,
          record {
            entry = e;
            lawful = lawful;
            comes = after_judged k st h e true long moving.folded comes;
            begins = subst (λ ps. BeginsWithFramesIn old.format bytes old.limit ps) (ap (λ f. map written_entry h ++ f ∷ []) (sym spells) ∙ sym (map-more written_entry h e)) (begins_more bytes old new (map written_entry h ++ frame ∷ []) kind limit more);
            needs = needs ∙ ap (λ l. need (end_offset l h) e) (sym same);
            over = omega (arith, same, above, told_needs, whole);
          },
        )

-- a list's end without a frame
pub moved_nothing : {D : Type 0} (told : D → Option (List ℕ)) (bytes free : List ℕ) (old : Replay D) (was : Builder D) (st : State) (h : List Entry) (k : ℕ) → k ≡ 0 → MovesFrame told old was st k h false → told old.disk ≡ Some bytes → IsOpenTo free
    → IsMigrateRefused bytes free (Some was.limit) (migrate.IllegalEntry k)
moved_nothing told bytes free old was st [] k zero moves there vacant =
    (old.format, old.limit, [], vacant, fit_frames told bytes old was st [] k moves.0 moves.1 (moves.1.read bytes there), inr (refl, moves.2 bytes there))
moved_nothing told bytes free old was st (x ∷ h) k zero moves there vacant = absurd (omega (arith, moves.0, zero))
