-- After each act the journal, the fold and the line tell of one history.
use Rattle.std.proofs.Common.{◌≡◌, ℕ, ◌+◌, ◌-◌, ◌<◌, ◌≤◌, List, [], ◌∷◌, ◌++◌, length, map, take, Option, Some, None, Bool, true, false, Result, Ok, Err, refl, sym, ap, ◌∙◌, subst, inl, inr, arith, length-append, nat_lt}
use Rattle.std.specs.Prelude.{option_map, is_some, is_ok, slice_get, IsSome, if◌then◌else◌}
use Rattle.std.specs.Option.{ForSome}
use Rattle.std.proofs.lemmas.Grind.{common_steps}
use Rattle.std.proofs.lemmas.List.{append-nil, length-map, map-append, take-append-le}
use Rattle.lrs_command.specs.declared.command.Command.{Command}
use Rattle.lrs_disk.specs.Disk.{LeavesOnly}
use Rattle.lrs_fold.proofs.Again.{kept_again}
use Rattle.lrs_fold.specs.LrsHistoryRoomProofs.{no_room, kept_answer}
use Rattle.lrs_fold.specs.LrsHistoryHistory.{Answer, Outcome, Said, Accepted, answer, answer_of, end_offset, need, outcome, state, ComesNext, IsLegal}
use Rattle.lrs_journal.specs.Journal.{Journal, frames_of, settled, IsJournal, StandsForFrames, TellsAlike}
use Rattle.lrs_journal.specs.Store.{payloads_in, store}
use Rattle.lrs_journal.specs.declared.sizes.TheConstants.{FRAME_HEAD}
use Rattle.lrs_names.specs.declared.draw.Draw.{Draw}
use Rattle.lrs_parts.specs.State.{State, nothing}
use Rattle.lrs_record.specs.Entries.{IsLawful, written_entry}
use Rattle.lrs_record.specs.declared.entry.Caller.{Caller}
use Rattle.lrs_record.specs.declared.entry.Entry.{Entry}
use Rattle.lrs_replies.specs.declared.answered.Answered.{Answered}
use Rattle.lrs_replies.specs.declared.reply.Trouble.{Trouble}
use Rattle.lrs_replies.specs.declared.reply.Trouble.TheVariants as trouble
use Rattle.lrs_machine.specs.Acts.{landed_among}
use Rattle.lrs_machine.specs.Desk.{HoldsPrefix, IsOnDisk, KeepsLine}
use Rattle.lrs_parts.specs.Parts.{SeenParts as Parts}
use Rattle.lrs_machine.specs.Line.{Record, entries, in_doubt, sure, opened_line, line_of}
use Rattle.lrs_machine.specs.Steps.{Does, GrewBy, HoldsFrames, Happens, HoldsEntries, LeavesFrames, IsTied, CarriesOut, folded, landed_of, line_after, one_of, sure_of}
use Rattle.lrs_journal.proofs.Unique.{store_longer}
use Rattle.lrs_journal.specs.declared.sizes.Format.TheVariants as format
use Rattle.lrs_machine.proofs.Histories.{state_from-more, map-more, legal_with}
use Rattle.lrs_machine.proofs.Lines.{Goes, before_goes, begins_opened, opened_within, doubt_opened, doubt_with, entries_goes, entries_opened, goes, moment_opened, none_some, which_of, some_same, sure_front, sure_goes, take_whole}
use Rattle.lrs_machine.proofs.Prefixes.{frames_stand, prefix_less, prefix_more, prefix_of, weaker}

-- ---- what is told

mapped : (f : List ℕ → List (List ℕ)) (o : Option (List ℕ)) (ps : List (List ℕ)) → option_map f o ≡ Some ps → (b : List ℕ) × (o ≡ Some b)
mapped f None ps is = absurd (none_some ps is)
mapped f (Some b) ps is = (b, refl)

-- where the frames are told, so is the disk
pub told_of : {D : Type 0} (told : D → Option (List ℕ)) (journal : Journal D) (ps : List (List ℕ)) → frames_of told journal ≡ Some ps → (b : List ℕ) × (told journal.disk ≡ Some b)
told_of told journal ps there = mapped (λ bytes. payloads_in (settled journal.doubt journal.gate bytes)) (told journal.disk) ps there

-- and the other way round
pub frames_told : {D : Type 0} (told : D → Option (List ℕ)) (journal : Journal D) (b : List ℕ) → told journal.disk ≡ Some b → (ps : List (List ℕ)) × (frames_of told journal ≡ Some ps)
frames_told told journal b there =
    (payloads_in (settled journal.doubt journal.gate b), ap (λ (o : Option (List ℕ)). option_map (λ bytes. payloads_in (settled journal.doubt journal.gate bytes)) o) there)

pub alike_mapped : (f g : List ℕ → List (List ℕ)) (o p : Option (List ℕ)) → option_map f p ≡ option_map g o → TellsAlike o p
alike_mapped f g None None is = tt
alike_mapped f g None (Some c) is = absurd (none_some (f c) (sym is))
alike_mapped f g (Some b) None is = absurd (none_some (g b) is)
alike_mapped f g (Some b) (Some c) is = tt

map_twice : (g : List ℕ → List (List ℕ)) (more : List (List ℕ) → List (List ℕ)) (o : Option (List ℕ)) → option_map more (option_map g o) ≡ option_map (λ b. more (g b)) o
map_twice g more None = refl
map_twice g more (Some b) = refl

-- the journal's disk tells as much as before
pub tells_alike : {D : Type 0} (told : D → Option (List ℕ)) (made : Option Entry) (old new : Journal D) → GrewBy told made old new → TellsAlike (told old.disk) (told new.disk)
tells_alike told None old new grew =
    alike_mapped (λ bytes. payloads_in (settled new.doubt new.gate bytes)) (λ bytes. payloads_in (settled old.doubt old.gate bytes)) (told old.disk) (told new.disk) grew.frames
tells_alike told (Some e) old new grew =
    alike_mapped (λ bytes. payloads_in (settled new.doubt new.gate bytes)) (λ bytes. payloads_in (settled old.doubt old.gate bytes) ++ written_entry e ∷ []) (told old.disk) (told new.disk)
    (grew.1.frames ∙ map_twice (λ bytes. payloads_in (settled old.doubt old.gate bytes)) (λ ps. ps ++ written_entry e ∷ []) (told old.disk))

-- ---- one entry more

pub limit_stays : {D : Type 0} (told : D → Option (List ℕ)) (made : Option Entry) (old new : Journal D) → GrewBy told made old new → new.limit ≡ old.limit
limit_stays told None old new grew = grew.limit
limit_stays told (Some e) old new grew = grew.1.limit

state_one : (h : List Entry) (made : Option Entry) → folded (state h) made ≡ state (h ++ one_of made)
state_one h None = ap state (sym (append-nil h))
state_one h (Some e) = sym (state_from-more nothing h e)

number_one : {D : Type 0} (told : D → Option (List ℕ)) (made : Option Entry) (old new : Journal D) (h : List Entry) → GrewBy told made old new → old.number ≡ length h → new.number ≡ length (h ++ one_of made)
number_one told None old new h grew is = grew.number ∙ is ∙ ap length (sym (append-nil h))
number_one told (Some e) old new h grew is = (let g = grew.1.number in omega (arith, g, is, length-append h (e ∷ [])))

offset_one : {D : Type 0} (told : D → Option (List ℕ)) (made : Option Entry) (old new : Journal D) (h : List Entry) → GrewBy told made old new → old.end ≡ end_offset old.limit h → new.end ≡ end_offset old.limit (h ++ one_of made)
offset_one told None old new h grew is = grew.end ∙ is ∙ ap (λ (l : List Entry). end_offset old.limit l) (sym (append-nil h))
offset_one told (Some e) old new h grew is =
    grew.1.end ∙ ap (λ (n : ℕ). n + (FRAME_HEAD + length (written_entry e))) is ∙ sym (store_longer format.Two old.limit (map written_entry h) (written_entry e))
    ∙ ap (λ (ps : List (List ℕ)). length (store old.limit ps)) (sym (map-more written_entry h e))

-- where the new frames are told, so are the old ones
before : {D : Type 0} (told : D → Option (List ℕ)) (made : Option Entry) (old new : Journal D) (ps : List (List ℕ)) → GrewBy told made old new → frames_of told new ≡ Some ps
    → (front : List (List ℕ)) × (frames_of told old ≡ Some front) × (ps ≡ front ++ map written_entry (one_of made))
before told None old new ps grew there = (ps, sym grew.frames ∙ there, sym (append-nil ps))
before told (Some e) old new ps grew there = by_old (frames_of told old) (sym grew.1.frames ∙ there)
  where
    by_old : (o : Option (List (List ℕ))) → option_map (λ fs. fs ++ written_entry e ∷ []) o ≡ Some ps → (front : List (List ℕ)) × (o ≡ Some front) × (ps ≡ front ++ written_entry e ∷ [])
    by_old None is = absurd (none_some ps is)
    by_old (Some front) is = (front, refl, some_same ps (front ++ written_entry e ∷ []) (sym is))

pub entry_of_says : (a : Answer) (d₀ d₁ : Bool) (e : Entry) (said : Result Answered Trouble) → CarriesOut a d₀ d₁ (Some e) said → a.entry ≡ Some e
entry_of_says a d₀ d₁ e (Ok s) says = sym says.1
entry_of_says a d₀ d₁ e (Err trouble.Memory) says = absurd (none_some e (sym says.0))
entry_of_says a d₀ d₁ e (Err trouble.Disk) (inl none) = absurd (none_some e (sym none.0))
entry_of_says a d₀ d₁ e (Err trouble.Disk) (inr doubtful) = sym doubtful.1

-- the answer's entry was accepted, and has room
pub accepted_by : (limit offset : ℕ) (v : Outcome) (e : Entry) → (answer_of limit offset v).entry ≡ Some e → (t : Answered) × (v ≡ Accepted e t) × (need offset e ≤ limit)
accepted_by limit offset (Said s) e is = absurd (none_some e is)
accepted_by limit offset (Accepted x t) e is = by_room (nat_lt limit (need offset x)) refl is
  where
    by_room : (b : Bool) → nat_lt limit (need offset x) ≡ b → (let w : Answer = (if b then no_room limit offset x else kept_answer t x) in w.entry ≡ Some e) → (u : Answered) × (Accepted x t ≡ Accepted e u) × (need offset e ≤ limit)
    by_room true full has = absurd (none_some e has)
    by_room false room has =
        let same : x ≡ e = some_same x e has in
        let fits : need offset x ≤ limit = grind (arith, common_steps) in
        (t, ap (λ (y : Entry). Accepted y t) same, subst (λ (y : Entry). need offset y ≤ limit) same fits)

comes_next : (limit end : ℕ) (h : List Entry) (st : State) (caller : Caller) (c : Command) (clock : ℕ) (draw : Draw) (d₀ d₁ : Bool) (e : Entry) (said : Result Answered Trouble) → IsLegal limit h → st ≡ state h
    → end ≡ end_offset limit h → IsLawful e → CarriesOut (answer_of limit end (outcome st caller c clock draw)) d₀ d₁ (Some e) said → ComesNext limit h e
comes_next limit end h st caller c clock draw d₀ d₁ e said legal folds offset lawful says =
    let a = accepted_by limit end (outcome st caller c clock draw) e (entry_of_says (answer_of limit end (outcome st caller c clock draw)) d₀ d₁ e said says) in
    kept_again limit h caller c clock draw e a.0 legal (subst (λ (z : State). outcome z caller c clock draw ≡ Accepted e a.0) folds a.1) (subst (λ (p : ℕ). need p e ≤ limit) offset a.2) lawful.values.moment

-- ---- images

-- an image now holds the history, in doubt without its last entry
pub image_holds : {D : Type 0} (told : D → Option (List ℕ)) (image : D → List ℕ → Type 0) (journal : Journal D) (line : List Record) (ps : List (List ℕ)) (c : List ℕ) → IsJournal told image journal
    → frames_of told journal ≡ Some ps → ps ≡ map written_entry (entries line) → journal.doubt ≡ in_doubt line → 1 ≤ sure line → IsLegal journal.limit (entries line) → image journal.disk c
    → HoldsPrefix journal.limit (sure line) (entries line) c
image_holds told image journal line ps c sound there spells doubt some legal left =
    let sures : sure line ≡ sure_of journal.doubt (length ps) =
    ap (λ (d : Bool). sure_of d (length (entries line))) (sym doubt) ∙ ap (λ (n : ℕ). sure_of journal.doubt n) (sym (ap length spells ∙ length-map (entries line) written_entry)) in
    prefix_of journal.limit (sure line) (entries line) ps c spells some legal
    (subst (λ (n : ℕ). HoldsFrames journal.limit n ps c) (sym sures) (frames_stand journal.limit journal.doubt ps c ((sound.holds ps there).each c left)))

-- What a call changes: the journal has the frame of what was made, the line goes on by at most one record, and its history is legal.
pub record Moves {D : Type 0} (told : D → Option (List ℕ)) (time : D → ℕ) (since : D → ℕ → List ℕ → Type 0) (old new : Journal D) (st su : State) (made : Option Entry) (line next : List Record) : Type 0 where
  pub grew : GrewBy told made old new
  pub folds : su ≡ folded st made
  pub later : time old.disk ≤ time new.disk
  pub leaves : LeavesFrames told time since old new made
  pub goes : Goes line made (time new.disk) next
  pub legal : IsLegal old.limit (entries next)

module _ {D : Type 0} (told : D → Option (List ℕ)) (image : D → List ℕ → Type 0) (time : D → ℕ) (since : D → ℕ → List ℕ → Type 0) (only_now : (d : D) (c : List ℕ) → since d (time d) c → image d c) where
  module _ (old new : Journal D) (st su : State) (made : Option Entry) (line next : List Record) where
    -- what a crash leaves at any moment of the call
    act_holds : IsTied told image time since old st line → Moves told time since old new st su made line next → (ps : List (List ℕ)) → frames_of told old ≡ Some ps
        → (c : List ℕ) → HoldsFrames old.limit (sure_of old.doubt (length ps)) (ps ++ map written_entry (one_of made)) c → HoldsPrefix old.limit (sure line) (entries next) c
    act_holds tied moves ps there c held =
        let spells = tied.frames ps there in
        let sures : sure line ≡ sure_of old.doubt (length ps) =
        ap (λ (d : Bool). sure_of d (length (entries line))) (sym tied.doubts) ∙ ap (λ (n : ℕ). sure_of old.doubt n) (sym (ap length spells ∙ length-map (entries line) written_entry)) in
        let whole : ps ++ map written_entry (one_of made) ≡ map written_entry (entries next) =
        ap (λ (qs : List (List ℕ)). qs ++ map written_entry (one_of made)) spells ∙ sym (map-append written_entry (entries line) (one_of made))
        ∙ ap (λ (h : List Entry). map written_entry h) (sym (entries_goes line next made (time new.disk) moves.goes)) in
        prefix_of old.limit (sure line) (entries next) (ps ++ map written_entry (one_of made)) c whole tied.founded moves.legal
        (subst (λ (n : ℕ). HoldsFrames old.limit n (ps ++ map written_entry (one_of made)) c) (sym sures) held)

    pub frames_next : IsTied told image time since old st line → Moves told time since old new st su made line next → ForSome (frames_of told new) (λ ps. ps ≡ map written_entry (entries next))
    frames_next tied moves = λ ps there.
        let b = before told made old new ps moves.grew there in
        b.2 ∙ ap (λ (qs : List (List ℕ)). qs ++ map written_entry (one_of made)) (tied.frames b.0 b.1) ∙ sym (map-append written_entry (entries line) (one_of made))
        ∙ ap (λ (h : List Entry). map written_entry h) (sym (entries_goes line next made (time new.disk) moves.goes))

    -- since an earlier record
    kept_since : IsTied told image time since old st line → Moves told time since old new st su made line next → (b : List ℕ) → told old.disk ≡ Some b
        → (k : ℕ) (r : Record) → slice_get line k ≡ Some r → (c : List ℕ) → since new.disk r.moment c → HoldsPrefix old.limit (sure (take (k + 1) line)) (entries next) c
    kept_since tied moves b there k r at c left =
        let kept = tied.kept b there k r at in
        let f = frames_told told old b there in
        elim ((moves.leaves f.0 f.1).before r.moment c kept.0 left) [
          | inl earlier ↦ subst (λ (h : List Entry). HoldsPrefix old.limit (sure (take (k + 1) line)) h c) (sym (entries_goes line next made (time new.disk) moves.goes))
              (prefix_more old.limit (sure (take (k + 1) line)) (entries line) (one_of made) c (kept.1 c earlier))
          | inr held ↦ prefix_less old.limit (sure line) (sure (take (k + 1) line)) (entries next) c (sure_front (k + 1) line) (act_holds tied moves f.0 f.1 c held)
        ]

    -- each image since a record's moment, where no record came
    pub kept_still : next ≡ line → IsTied told image time since old st line → Moves told time since old new st su made line next → (b : List ℕ) → told old.disk ≡ Some b → KeepsLine old.limit (time new.disk) (since new.disk) next
    kept_still same tied moves b there k r at =
        let at' = ap (λ (l : List Record). slice_get l k) (sym same) ∙ at in
        let old_moment = tied.moments k r at' in (
          omega (arith, old_moment, moves.later),
          λ c left. subst (λ (l : List Record). HoldsPrefix old.limit (sure (take (k + 1) l)) (entries next) c) (sym same) (kept_since tied moves b there k r at' c left),
        )

    kept_by : Goes line made (time new.disk) next → IsTied told image time since old st line → IsJournal told image new → Moves told time since old new st su made line next → in_doubt next ≡ new.doubt
        → (b₀ b : List ℕ) → told old.disk ≡ Some b₀ → told new.disk ≡ Some b → KeepsLine old.limit (time new.disk) (since new.disk) next
    kept_by (inl same) tied sound moves doubt b₀ b there₀ there k r at = kept_still same.1 tied moves b₀ there₀ k r at
    kept_by (inr more) tied sound moves doubt b₀ b there₀ there k r at =
        elim (which_of line more.0 r k (ap (λ (l : List Record). slice_get l k) (sym more.3) ∙ at)) [
          | inl early ↦ (
              let old_moment = tied.moments k r early.1 in (
                omega (arith, old_moment, moves.later),
                λ c left.
                    let front : take (k + 1) next ≡ take (k + 1) line = ap (take (k + 1)) more.3 ∙ take-append-le (k + 1) line (more.0 ∷ []) (omega (arith, early.0)) in
                    subst (λ (l : List Record). HoldsPrefix old.limit (sure l) (entries next) c) (sym front) (kept_since tied moves b₀ there₀ k r early.1 c left),
              ))
          | inr last ↦ (
              let moment : r.moment ≡ time new.disk = ap (λ (w : Record). w.moment) last.1 ∙ more.2 in (
                omega (arith, moment),
                λ c left.
                    let f = frames_told told new b there in
                    let len : length next ≡ length line + 1 = ap length more.3 ∙ length-append line (more.0 ∷ []) in
                    let whole : take (k + 1) next ≡ next = take_whole next (k + 1) (let l = last.0 in omega (arith, len, l)) in
                    let limit = limit_stays told made old new moves.grew in
                    let sures = sure_goes line next made (time new.disk) (inr more) in
                    let held : HoldsPrefix new.limit (sure next) (entries next) c = image_holds told image new next f.0 c sound f.1 (frames_next tied moves f.0 f.1) (sym doubt) (omega (arith, tied.founded, sures))
                    (subst (λ (l : ℕ). IsLegal l (entries next)) (sym limit) moves.legal) (only_now new.disk c (subst (λ (t : ℕ). since new.disk t c) moment left)) in
                    subst (λ (l : List Record). HoldsPrefix old.limit (sure l) (entries next) c) (sym whole) (subst (λ (l : ℕ). HoldsPrefix l (sure next) (entries next) c) limit held),
              ))
        ]

    -- each image since a record's moment
    pub kept_next : IsTied told image time since old st line → IsJournal told image new → Moves told time since old new st su made line next → in_doubt next ≡ new.doubt
        → ForSome (told new.disk) (λ _. KeepsLine old.limit (time new.disk) (since new.disk) next)
    kept_next tied sound moves doubt = λ b there.
        let f = frames_told told new b there in
        let g = before told made old new f.0 moves.grew f.1 in
        let b₀ = told_of told old g.0 g.1 in
        kept_by moves.goes tied sound moves doubt b₀.0 b b₀.1 there

    pub stays_tied : IsTied told image time since old st line → IsJournal told image new → Moves told time since old new st su made line next → in_doubt next ≡ new.doubt → IsTied told image time since new su next
    stays_tied tied sound moves doubt =
        let same = entries_goes line next made (time new.disk) moves.goes in
        let limit = limit_stays told made old new moves.grew in
        let sures = sure_goes line next made (time new.disk) moves.goes in
        record {
          sound = sound;
          folded = moves.folds ∙ ap (λ (z : State). folded z made) tied.folded ∙ state_one (entries line) made ∙ ap state (sym same);
          legal = subst (λ (l : ℕ). IsLegal l (entries next)) (sym limit) moves.legal;
          counts = number_one told made old new (entries line) moves.grew tied.counts ∙ ap length (sym same);
          offset = offset_one told made old new (entries line) moves.grew tied.offset ∙ ap (λ (h : List Entry). end_offset old.limit h) (sym same) ∙ ap (λ (l : ℕ). end_offset l (entries next)) (sym limit);
          doubts = sym doubt;
          founded = omega (arith, tied.founded, sures);
          frames = frames_next tied moves;
          moments = before_goes line next made (time old.disk) (time new.disk) moves.later moves.goes tied.moments;
          kept = subst (λ (l : ℕ). ForSome (told new.disk) (λ _. KeepsLine l (time new.disk) (since new.disk) next)) (sym limit) (kept_next tied sound moves doubt);
        }

    -- what a stop at any moment of the call leaves
    pub stops_act : IsTied told image time since old st line → Moves told time since old new st su made line next
        → ForSome (told old.disk) (λ _. LeavesOnly time since old.disk new.disk (HoldsPrefix old.limit (sure line) (entries next)))
    stops_act tied moves = λ b there.
        let f = frames_told told old b there in
        weaker time since old.disk new.disk (HoldsFrames old.limit (sure_of old.doubt (length f.0)) (f.0 ++ map written_entry (one_of made))) (HoldsPrefix old.limit (sure line) (entries next)) (moves.leaves f.0 f.1)
        (λ c held. act_holds tied moves f.0 f.1 c held)

  -- ---- acts

  module _ (old new : Journal D) (caller : Caller) (command : Command) (clock : ℕ) (draw : Draw) (st su : State) (said : Result Answered Trouble) (made : Option Entry) (line next : List Record) where
    abbrev v : Outcome
    v = outcome st caller command clock draw

    pub act_moves : IsTied told image time since old st line → Does told time since old new st su v said made → Goes line made (time new.disk) next → Moves told time since old new st su made line next
    act_moves tied does goes = record {
      grew = does.grew;
      folds = does.folds;
      later = does.later;
      leaves = does.leaves;
      goes = goes;
      legal = subst (λ (h : List Entry). IsLegal old.limit h) (sym (entries_goes line next made (time new.disk) goes)) (by_made made does.grew does.says);
    }
      where
        by_made : (m : Option Entry) → GrewBy told m old new → CarriesOut (answer_of old.limit old.end v) old.doubt new.doubt m said → IsLegal old.limit (entries line ++ one_of m)
        by_made None grew says = subst (λ (h : List Entry). IsLegal old.limit h) (sym (append-nil (entries line))) tied.legal
        by_made (Some e) grew says =
            legal_with old.limit (entries line) e tied.legal grew.0
            (comes_next old.limit old.end (entries line) st caller command clock draw old.doubt new.doubt e said tied.legal tied.folded tied.offset grew.0 says)

    answer_is : IsTied told image time since old st line → answer_of old.limit old.end v ≡ answer old.limit (entries line) caller command clock draw
    answer_is tied =
        ap (λ (z : State). answer_of old.limit old.end (outcome z caller command clock draw)) tied.folded ∙ ap (λ (p : ℕ). answer_of old.limit p (outcome (state (entries line)) caller command clock draw)) tied.offset

    -- an act on the line, where its record was noted
    pub happens : (landed : Option ℕ) → IsTied told image time since old st line → Does told time since old new st su v said made → landed ≡ landed_of old new made → next ≡ line_after line made (is_ok said) landed (time new.disk)
        → (in_doubt next ≡ new.doubt) × Happens (answer old.limit (entries line) caller command clock draw) said landed (time new.disk) line next
    happens landed tied does lands is = (
      doubt,
      record {
        made = made;
        says = subst (λ (a : Answer). CarriesOut a (in_doubt line) (in_doubt next) made said) (answer_is tied)
            (subst (λ (d : Bool). CarriesOut (answer_of old.limit old.end v) (in_doubt line) d made said) (sym doubt) (subst (λ (d : Bool). CarriesOut (answer_of old.limit old.end v) d new.doubt made said) tied.doubts does.says));
        lands = lands ∙ ap (λ (n : ℕ). landed_among n old.doubt new.doubt (is_some made)) tied.counts ∙ ap (λ (d : Bool). landed_among (length (entries line)) d new.doubt (is_some made)) tied.doubts
            ∙ ap (λ (d : Bool). landed_among (length (entries line)) (in_doubt line) d (is_some made)) (sym doubt);
        line = is;
        moments = before_goes line next made (time old.disk) (time new.disk) does.later (subst (λ (l : List Record). Goes line made (time new.disk) l) (sym is) (goes line made (is_ok said) landed (time new.disk))) tied.moments;
      },
    )
      where
        doubt : in_doubt next ≡ new.doubt
        doubt =
            ap in_doubt is ∙ ap (λ (l : Option ℕ). in_doubt (line_after line made (is_ok said) l (time new.disk))) lands
            ∙ doubt_with line said made old.doubt new.doubt (answer_of old.limit old.end v) old.number (time new.disk) (sym tied.doubts) does.says

    pub acted : (landed : Option ℕ) → IsTied told image time since old st line → IsJournal told image new → Does told time since old new st su v said made → landed ≡ landed_of old new made
        → next ≡ line_after line made (is_ok said) landed (time new.disk)
        → IsTied told image time since new su next × Happens (answer old.limit (entries line) caller command clock draw) said landed (time new.disk) line next
        × ForSome (told old.disk) (λ _. LeavesOnly time since old.disk new.disk (HoldsPrefix old.limit (sure line) (entries next)))
    acted landed tied sound does lands is =
        let h = happens landed tied does lands is in
        let g : Goes line made (time new.disk) next = subst (λ (l : List Record). Goes line made (time new.disk) l) (sym is) (goes line made (is_ok said) landed (time new.disk)) in
        let m = act_moves tied does g in
        (stays_tied old new st su made line next tied sound m h.0, h.1, stops_act old new st su made line next tied m)

  -- ---- what is true of every desk

  pub on_disk : ((d : D) (c : List ℕ) → image d c → IsSome (told d)) → (journal : Journal D) (st : State) (parts : Parts) (t n : ℕ) (origin : D) (opening : List Entry) (acts : List Record) → IsTied told image time since journal st (line_of t opening acts)
      → n ≡ length opening → 0 < n
      → IsOnDisk told image time since (record { disk = journal.disk; limit = journal.limit; opened_at = t; opened = n; origin = origin; line = line_of t opening acts; parts = parts })
  on_disk tells journal st parts t n origin opening acts tied is some = record {
    legal = tied.legal;
    opening = (some, opened_within t n opening acts is, begins_opened t n opening acts is);
    moments = tied.moments;
    reads = λ bytes there.
        let f = frames_told told journal bytes there in
        stands f.0 bytes (tied.frames f.0 f.1) ((tied.sound.holds f.0 f.1).reads bytes there);
    each = λ bytes left.
        let b = told_by (told journal.disk) (tells journal.disk bytes left) in
        let f = frames_told told journal b.0 b.1 in
        stands f.0 bytes (tied.frames f.0 f.1) ((tied.sound.holds f.0 f.1).each bytes left);
    kept = tied.kept;
  }
    where
      line : List Record
      line = line_of t opening acts

      told_by : (o : Option (List ℕ)) → IsSome o → (b : List ℕ) × (o ≡ Some b)
      told_by None some = absurd (cc some)
      told_by (Some b) some = (b, refl)

      stands : (ps : List (List ℕ)) (bytes : List ℕ) → ps ≡ map written_entry (entries line) → StandsForFrames journal.limit journal.doubt ps bytes
          → StandsForFrames journal.limit (in_doubt line) (map written_entry (entries line)) bytes
      stands ps bytes spells is = subst (λ (d : Bool). StandsForFrames journal.limit d (map written_entry (entries line)) bytes) tied.doubts (subst (λ (qs : List (List ℕ)). StandsForFrames journal.limit journal.doubt qs bytes) spells is)

  -- ---- the opening

  pub opened_tied : (journal : Journal D) (st : State) (t : ℕ) (h : List Entry) (acts : List Record) → HoldsEntries told image journal st h → t ≡ time journal.disk → acts ≡ [] → IsTied told image time since journal st (line_of t h acts)
  opened_tied journal st t h acts opened at none =
      let whole : line_of t h acts ≡ opened_line t h = ap (λ (a : List Record). opened_line t h ++ a) none ∙ append-nil (opened_line t h) in
      subst (λ (l : List Record). IsTied told image time since journal st l) (sym whole) (record {
        sound = opened.sound;
        folded = opened.folded ∙ ap state (sym history);
        legal = subst (λ (g : List Entry). IsLegal journal.limit g) (sym history) opened.legal;
        counts = opened.counts ∙ ap length (sym history);
        offset = opened.offset ∙ ap (λ (g : List Entry). end_offset journal.limit g) (sym history);
        doubts = opened.settled ∙ sym calm;
        founded = founded;
        frames = spells;
        moments = λ k r here. (let m : r.moment ≡ time journal.disk = moment_opened t h k r here ∙ at in omega (arith, m));
        kept = λ b there k r here.
            let m : r.moment ≡ time journal.disk = moment_opened t h k r here ∙ at in
            let f = frames_told told journal b there in (
              omega (arith, m),
              λ c left.
                  prefix_less journal.limit (sure (opened_line t h)) (sure (take (k + 1) (opened_line t h))) (entries (opened_line t h)) c (sure_front (k + 1) (opened_line t h))
                  (image_holds told image journal (opened_line t h) f.0 c opened.sound f.1 (spells f.0 f.1) (opened.settled ∙ sym calm) founded (subst (λ (g : List Entry). IsLegal journal.limit g) (sym history) opened.legal)
                  (only_now journal.disk c (subst (λ (u : ℕ). since journal.disk u c) m left))),
            );
      })
    where
      history : entries (opened_line t h) ≡ h
      history = entries_opened t h

      calm : in_doubt (opened_line t h) ≡ false
      calm = doubt_opened t h

      founded : 1 ≤ sure (opened_line t h)
      founded = let s : sure (opened_line t h) ≡ length h = ap (λ (d : Bool). sure_of d (length (entries (opened_line t h)))) calm ∙ ap length history in omega (arith, s, opened.legal.0)

      spells : ForSome (frames_of told journal) (λ ps. ps ≡ map written_entry (entries (opened_line t h)))
      spells = λ ps there. opened.frames ps there ∙ ap (λ (g : List Entry). map written_entry g) (sym history)
