-- Why a store isn't moved: what the steps of moving say, and that a store that can be moved is spared.
use Rattle.std.proofs.Common.{◌≡◌, ◌<◌, ◌≤◌, ◌+◌, ◌-◌, ◌^◌, ℕ, min, List, [], ◌∷◌, ◌++◌, length, map, drop, refl, sym, ◌∙◌, ap, subst, inl, inr, arith, append_assoc, Option, Some, None, Bool, true, false, nat_lt}
use Rattle.std.specs.Prelude.{◌⊎◌}
use Rattle.std.specs.List.{AllByRecursion}
use Rattle.std.proofs.lemmas.Grind.{common_steps}
use Rattle.std.proofs.lemmas.List.{append-nil, length-map}
use Rattle.lrs_journal.specs.Create.{IsCreateRefused, IsOpenTo}
use Rattle.lrs_journal.specs.Store.{body_in, frames_in, need_at, need_told, HasHeaderIn, HasNoHeader, IsDamagedIn, IsEnd, IsPayload, StandsIn}
use Rattle.lrs_journal.specs.declared.create.CreateRefused.{CreateRefused}
use Rattle.lrs_journal.specs.declared.create.CreateRefused.TheVariants as create
use Rattle.lrs_journal.specs.declared.journal.AppendRefused.{AppendRefused}
use Rattle.lrs_journal.specs.declared.journal.AppendRefused.TheVariants as append
use Rattle.lrs_journal.specs.declared.replay.RecoverRefused.{RecoverRefused}
use Rattle.lrs_journal.specs.declared.replay.RecoverRefused.TheVariants as recover
use Rattle.lrs_journal.specs.declared.replay.ReplayRefused.{ReplayRefused}
use Rattle.lrs_journal.specs.declared.replay.ReplayRefused.TheVariants as replay
use Rattle.lrs_journal.specs.declared.sizes.Format.{Format}
use Rattle.lrs_journal.specs.declared.sizes.TheConstants.{HEADER, MOST_BYTES}
use Rattle.lrs_journal.proofs.Unique.{first_once, format_once, header_once, no_end, stands_header, stands_once, stands_whole}
use Rattle.lrs_fold.specs.LrsHistoryHistory.{end_offset, need}
use Rattle.lrs_record.specs.declared.entry.Entry.{Entry}
use Rattle.lrs_record.specs.Entries.{IsLawful, written_entry}
use Rattle.lrs_record.proofs.Told.{written_entry_injective}
use Rattle.lrs_machine.specs.Migrating.{add_refusal, begin_refusal, chosen, frame_refusal, judge_refusal, unread_refusal, BeginsWithFramesIn, HasFitFrames, HasRoomFrom, IsEarlyRefusal, IsLateRefusal, IsMigrateRefused, IsMovable, IsIllegalBehindIn, IsTooLongBehind, MayComeAfter, MayComeFrom, SparesMovable}
use Rattle.lrs_machine.specs.declared.migrating.MigrateRefused.{MigrateRefused}
use Rattle.lrs_machine.specs.declared.migrating.MigrateRefused.TheVariants as migrate
use Rattle.lrs_machine.specs.declared.replaying.JudgeRefused.{JudgeRefused}
use Rattle.lrs_machine.specs.declared.replaying.JudgeRefused.TheVariants as judge
use Rattle.lrs_machine.proofs.Histories.{map-more}

-- ---- a refusal of the limit that was taken is one of the limit that was asked for

fits_own : (was : List ℕ) (limit : Option ℕ) (f g : Format) (own m taken k : ℕ) (h : List Entry) → HasHeaderIn f was own → taken ≡ chosen limit own → HasFitFrames g was m (Some taken) k h → HasFitFrames g was m limit k h
fits_own was limit f g own m taken k h header is fit = (fit.0, subst (λ l. IsMovable l h) (is ∙ ap (chosen limit) (header_once f g was own m header fit.2.0)) fit.1, fit.2)

pub refused_own : (was free : List ℕ) (limit : Option ℕ) (f : Format) (own taken : ℕ) (r : MigrateRefused) → HasHeaderIn f was own → taken ≡ chosen limit own → IsMigrateRefused was free (Some taken) r → IsMigrateRefused was free limit r
refused_own was free limit f own taken migrate.NotAStore header is refused = refused
refused_own was free limit f own taken migrate.AlreadyStore header is refused = refused
refused_own was free limit f own taken migrate.Foreign header is refused = refused
refused_own was free limit f own taken (migrate.Damaged k) header is (g, m, h, vacant, fit, damaged) = (g, m, h, vacant, fits_own was limit f g own m taken k h header is fit, damaged)
refused_own was free limit f own taken (migrate.IllegalEntry k) header is (g, m, h, vacant, fit, why) = (g, m, h, vacant, fits_own was limit f g own m taken k h header is fit, why)
refused_own was free limit f own taken (migrate.Full need most) header is (g, m, h, vacant, fit, same, long) =
    (g, m, h, vacant, fits_own was limit f g own m taken (length h) h header is fit, same ∙ is ∙ ap (chosen limit) (header_once f g was own m header fit.2.0), long)
refused_own was free limit f own taken migrate.Failed header is refused = tt
refused_own was free limit f own taken migrate.Memory header is refused = tt

-- ---- the first two steps

pub unread_refused : (was free : List ℕ) (limit : Option ℕ) (r : RecoverRefused) → (r ≡ recover.NotAStore → HasNoHeader was) → (r ≡ recover.OldFormat → ⊥) → IsMigrateRefused was free limit (unread_refusal r)
unread_refused was free limit recover.NotAStore none old = none refl
unread_refused was free limit recover.OldFormat none old = absurd (old refl)
unread_refused was free limit recover.Failed none old = tt

pub begin_refused : (was free : List ℕ) (limit : Option ℕ) (f : Format) (own : ℕ) (r : CreateRefused) → HasHeaderIn f was own → IsCreateRefused free r → ((need most : ℕ) → r ≡ create.Full need most → ⊥) → IsMigrateRefused was free limit (begin_refusal r)
begin_refused was free limit f own create.AlreadyStore header refused full = (f, own, header, refused)
begin_refused was free limit f own create.Foreign header refused full = (f, own, header, refused)
begin_refused was free limit f own (create.Full need most) header refused full = absurd (full need most refl)
begin_refused was free limit f own create.Failed header refused full = tt

-- ---- refusals of a frame come late

pub late_frame : (limit : ℕ) (r : ReplayRefused) → IsLateRefusal limit (frame_refusal r)
late_frame limit (replay.Damaged k) = tt
late_frame limit replay.Failed = tt
late_frame limit replay.Memory = tt

pub late_judge : (limit : ℕ) (r : JudgeRefused) (k : ℕ) → IsLateRefusal limit (judge_refusal r k)
late_judge limit judge.Illegal k = tt
late_judge limit judge.Memory k = tt

pub late_add : (limit offset : ℕ) (frame : List ℕ) (r : AppendRefused) → limit ≤ MOST_BYTES → (limit < need_at offset frame → r ≡ append.Full (need_told offset frame) limit) → (need_at offset frame ≤ limit → r ≡ append.Failed)
    → IsLateRefusal limit (add_refusal r)
late_add limit offset frame append.Failed most full fits = tt
late_add limit offset frame (append.Full need other) most full fits = by_test (nat_lt limit (need_at offset frame)) refl
  where
    by_test : (b : Bool) → nat_lt limit (need_at offset frame) ≡ b → (other ≡ limit) × (limit < need)
    by_test false is = let below : need_at offset frame ≤ limit = grind (arith, common_steps) in absurd (cc (fits below))
    by_test true is =
        let above : limit < need_at offset frame = grind (arith, common_steps) in
        let said = full above in
        let same : other ≡ limit = cc said in
        let needs : need ≡ need_told offset frame = cc said in
        (same, omega (arith, above, needs, most))

-- and no early ones are among them
pub not_early : (limit : ℕ) (r : MigrateRefused) → IsLateRefusal limit r → IsEarlyRefusal r → ⊥
not_early limit migrate.NotAStore late early = late
not_early limit migrate.AlreadyStore late early = late
not_early limit migrate.Foreign late early = late
not_early limit (migrate.Damaged k) late early = early
not_early limit (migrate.IllegalEntry k) late early = early
not_early limit (migrate.Full need most) late early = early
not_early limit migrate.Failed late early = early
not_early limit migrate.Memory late early = early

pub late_full : (limit need most : ℕ) (r : MigrateRefused) → r ≡ migrate.Full need most → IsLateRefusal limit r → (most ≡ limit) × (limit < need)
late_full limit need most r is late = subst (λ e. IsLateRefusal limit e) is late

pub unread_not_full : (r : RecoverRefused) (need most : ℕ) → unread_refusal r ≡ migrate.Full need most → ⊥
unread_not_full recover.NotAStore need most is = cc is
unread_not_full recover.OldFormat need most is = cc is
unread_not_full recover.Failed need most is = cc is

pub begin_full : (r : CreateRefused) (need most : ℕ) → begin_refusal r ≡ migrate.Full need most → (n : ℕ) × (m : ℕ) × (r ≡ create.Full n m)
begin_full create.AlreadyStore need most is = cc is
begin_full create.Foreign need most is = cc is
begin_full (create.Full n m) need most is = (n, m, refl)
begin_full create.Failed need most is = cc is

pub begin_not_early : (r : CreateRefused) → r ≡ create.Failed → IsEarlyRefusal (begin_refusal r) → ⊥
begin_not_early r is early = subst (λ e. IsEarlyRefusal (begin_refusal e)) is early

-- ---- which refusals are faults of a disk

pub unread_failed : (r : RecoverRefused) → unread_refusal r ≡ migrate.Failed → r ≡ recover.Failed
unread_failed recover.NotAStore is = cc is
unread_failed recover.OldFormat is = cc is
unread_failed recover.Failed is = refl

pub begin_failed : (r : CreateRefused) → begin_refusal r ≡ migrate.Failed → r ≡ create.Failed
begin_failed create.AlreadyStore is = cc is
begin_failed create.Foreign is = cc is
begin_failed (create.Full need most) is = cc is
begin_failed create.Failed is = refl

pub frame_failed : (r : ReplayRefused) → frame_refusal r ≡ migrate.Failed → r ≡ replay.Failed
frame_failed (replay.Damaged k) is = cc is
frame_failed replay.Failed is = refl
frame_failed replay.Memory is = cc is

pub judge_failed : (r : JudgeRefused) (k : ℕ) → judge_refusal r k ≡ migrate.Failed → ⊥
judge_failed judge.Illegal k is = cc is
judge_failed judge.Memory k is = cc is

pub add_failed : (r : AppendRefused) → add_refusal r ≡ migrate.Failed → r ≡ append.Failed
add_failed (append.Full need most) is = cc is
add_failed append.Failed is = refl

-- ---- a store that can be moved is spared

-- frames in front of a list of frames are its first ones
first_frames : (f : Format) (k : ℕ) (ps qs : List (List ℕ)) (x r : List ℕ) → AllByRecursion IsPayload ps → AllByRecursion IsPayload qs → IsEnd r → frames_in f k ps ++ x ≡ frames_in f k qs ++ r → (rest : List (List ℕ)) × (qs ≡ ps ++ rest)
first_frames f k [] qs x r fp fq ends e = (qs, refl)
first_frames f k (p ∷ ps) [] x r fp fq ends e = absurd (no_end f k p ps r x ends (sym e))
first_frames f k (p ∷ ps) (q ∷ qs) x r fp fq ends e =
    let both = first_once f k k p q (frames_in f (k + 1) ps ++ x) (frames_in f (k + 1) qs ++ r) fp.0 fq.0
    (sym (append_assoc (1 ∷ body_in f k p) (frames_in f (k + 1) ps) x) ∙ e ∙ append_assoc (1 ∷ body_in f k q) (frames_in f (k + 1) qs) r) in
    let more = first_frames f (k + 1) ps qs x r fp.1 fq.1 ends both.1 in
    (more.0, ap (λ (y : List ℕ). y ∷ qs) (sym both.0) ∙ ap (λ (ys : List (List ℕ)). p ∷ ys) more.1)

-- the first frames of a store are those of its first payloads
first_ones : (f : Format) (bytes : List ℕ) (l m : ℕ) (ps qs : List (List ℕ)) → StandsIn f bytes l qs → BeginsWithFramesIn f bytes m ps → (rest : List (List ℕ)) × (qs ≡ ps ++ rest)
first_ones f bytes l m ps qs stands begins =
    first_frames f 0 ps qs begins.2.0 stands.rest begins.1 stands.sizes stands.ends (ap (λ (x : List ℕ). drop HEADER x) (sym begins.2.1 ∙ stands.split))

-- the entry after the first ones that can be moved may come, and has room
next_in : (l : ℕ) (b c h k : List Entry) (p : List ℕ) (rest : List (List ℕ)) → MayComeFrom b h → HasRoomFrom l b h → MayComeFrom c k → map written_entry h ≡ (map written_entry k ++ p ∷ []) ++ rest
    → (e : Entry) × IsLawful e × (written_entry e ≡ p) × MayComeAfter (b ++ k) e × (need (end_offset l (b ++ k)) e ≤ l)
next_in l b c [] [] p rest may room so_far is = cc is
next_in l b c [] (y ∷ k) p rest may room so_far is = cc is
next_in l b c (x ∷ h) [] p rest may room so_far is =
    let same : written_entry x ≡ p = cc is in
    (x, may.0, same, subst (λ z. MayComeAfter z x) (sym (append-nil b)) may.1, subst (λ z. need (end_offset l z) x ≤ l) (sym (append-nil b)) room.0)
next_in l b c (x ∷ h) (y ∷ k) p rest may room so_far is =
    let first : written_entry x ≡ written_entry y = cc is in
    let others : map written_entry h ≡ (map written_entry k ++ p ∷ []) ++ rest = cc is in
    let same : x ≡ y = written_entry_injective x y may.0 so_far.0 first in
    let more = next_in l (b ++ x ∷ []) (c ++ y ∷ []) h k p rest may.2 room.1 so_far.2 others in
    let here : (b ++ x ∷ []) ++ k ≡ b ++ (y ∷ k) = append_assoc b (x ∷ []) k ∙ ap (λ z. b ++ (z ∷ k)) same in
    (more.0, more.1, more.2, subst (λ z. MayComeAfter z more.0) here more.3, subst (λ z. need (end_offset l z) more.0 ≤ l) here more.4)

-- by the format and the limit that the header tells
module _ (was : List ℕ) (limit : Option ℕ) (f g : Format) (own m : ℕ) (h : List Entry) (stands : StandsIn f was own (map written_entry h)) (movable : IsMovable (chosen limit own) h) (header : HasHeaderIn g was m) where
  own_header : HasHeaderIn f was own
  own_header = stands_header f was own (map written_entry h) stands

  kind : f ≡ g
  kind = format_once f g was own m own_header header

  same : StandsIn g was own (map written_entry h)
  same = subst (λ i. StandsIn i was own (map written_entry h)) kind stands

  pub not_damaged : (ps : List (List ℕ)) → IsDamagedIn g was m ps → ⊥
  not_damaged ps damaged = stands_whole g was own m (map written_entry h) ps same damaged

  -- the entry of the frame after the first ones
  next_of : (k : List Entry) (p : List ℕ) → MayComeFrom [] k → BeginsWithFramesIn g was m (map written_entry k ++ p ∷ [])
      → (e : Entry) × IsLawful e × (written_entry e ≡ p) × MayComeAfter k e × (need (end_offset (chosen limit own) k) e ≤ chosen limit own)
  next_of k p may begins =
      let more = first_ones g was own m (map written_entry k ++ p ∷ []) (map written_entry h) same begins in
      next_in (chosen limit own) [] [] h k p more.0 movable.0 movable.1 may more.1

  pub not_illegal : (k : List Entry) → MayComeFrom [] k → IsIllegalBehindIn g was m k → ⊥
  not_illegal k may bad =
      let next = next_of k bad.frame may bad.begins in
      bad.broken next.0 next.1 next.2 next.3

  pub not_empty : 0 < length h → StandsIn g was m [] → ⊥
  not_empty some empty =
      let none : map written_entry h ≡ [] = stands_once g was own m (map written_entry h) [] same empty in
      omega (arith, some, sym (length-map h written_entry) ∙ ap (λ (z : List (List ℕ)). length z) none)

  pub not_too_long : (most needed : ℕ) (k : List Entry) → MayComeFrom [] k → most ≡ chosen limit m → IsTooLongBehind g was m most needed k → ⊥
  not_too_long most needed k may is long =
      let taken : most ≡ chosen limit own = is ∙ ap (chosen limit) (sym (header_once f g was own m own_header header)) in
      let next = next_of k (written_entry long.entry) may (subst (λ ps. BeginsWithFramesIn g was m ps) (map-more written_entry k long.entry) long.begins) in
      let room : need (end_offset most k) next.0 ≤ most = subst (λ l. need (end_offset l k) next.0 ≤ l) (sym taken) next.4 in
      let spelled : length (written_entry next.0) ≡ length (written_entry long.entry) = ap length next.2 in
      omega (arith, room, spelled, long.needs, long.over)

pub spares_movable : (was free : List ℕ) (limit : Option ℕ) (r : MigrateRefused) → IsMigrateRefused was free limit r → SparesMovable was free limit r
spares_movable was free limit migrate.NotAStore refused = λ f own h stands some movable vacant. refused f own (stands_header f was own (map written_entry h) stands)
spares_movable was free limit migrate.AlreadyStore refused = λ f own h stands some movable vacant. vacant.0 refused.3
spares_movable was free limit migrate.Foreign refused = λ f own h stands some movable vacant. vacant.1 refused.3
spares_movable was free limit (migrate.Damaged k) (g, m, front, unused, fit, damaged) = λ f own h stands some movable vacant. not_damaged was limit f g own m h stands movable fit.2.0 (map written_entry front) damaged
spares_movable was free limit (migrate.IllegalEntry k) (g, m, front, unused, fit, inl bad) = λ f own h stands some movable vacant. not_illegal was limit f g own m h stands movable fit.2.0 front fit.1.0 bad
spares_movable was free limit (migrate.IllegalEntry k) (g, m, front, unused, fit, inr empty) = λ f own h stands some movable vacant. not_empty was limit f g own m h stands movable fit.2.0 some empty.1
spares_movable was free limit (migrate.Full need most) (g, m, front, unused, fit, is, long) = λ f own h stands some movable vacant. not_too_long was limit f g own m h stands movable fit.2.0 most need front fit.1.0 is long
spares_movable was free limit migrate.Failed refused = λ f own h stands some movable vacant. tt
spares_movable was free limit migrate.Memory refused = λ f own h stands some movable vacant. tt
