-- What founding, opening and closing a desk leave.
use Rattle.std.proofs.Common.{◌≡◌, ◌<◌, ◌≤◌, ◌+◌, ℕ, List, [], ◌∷◌, length, map, take, refl, sym, ◌∙◌, ap, subst, inl, inr, arith, Option, Some, None, Bool, true, false, Result, Ok, Err, IfOk, IfErr}
use Rattle.std.specs.Prelude.{◌⊎◌, ◌&&◌, option_map, IsSome}
use Rattle.std.specs.Option.{ForSome}
use Rattle.std.specs.Str.{bytes_eq}
use Rattle.std.proofs.lemmas.Slice.Eq.{bytes_eq-Decides}
use Rattle.lrs_disk.specs.Disk.{LeavesOnly}
use Rattle.lrs_journal.specs.Store.{HasHeaderIn, HasNoHeader, Stands, magic, payloads_in}
use Rattle.lrs_journal.specs.declared.sizes.Format.{Format}
use Rattle.lrs_journal.specs.declared.sizes.Format.TheVariants as format
use Rattle.lrs_journal.specs.Journal.{Journal, frames_of, IsJournal, IsSynced, IsUnchanged, TellsAlike, StandsForFrames, settled}
use Rattle.lrs_journal.specs.Replay.{Replay, HasRead}
use Rattle.lrs_journal.specs.declared.sizes.TheConstants.{FRAME_HEAD, HEADER}
pub use Rattle.lrs_journal.proofs.Told.{alike_self}
use Rattle.lrs_journal.proofs.Told.{told_back, told_on}
use Rattle.lrs_journal.proofs.Unique.{store_length}
use Rattle.lrs_record.specs.declared.entry.Entry.{Entry}
use Rattle.lrs_record.specs.Entries.{IsLawful, written_entry}
use Rattle.lrs_journal.specs.Create.{need_of_first, IsCreateRefused, IsMade, IsOpenTo, IsStore, IsUntouched}
use Rattle.lrs_journal.specs.declared.create.CreateRefused.{CreateRefused}
use Rattle.lrs_journal.specs.declared.create.CreateRefused.TheVariants as create
use Rattle.lrs_journal.specs.declared.replay.RecoverRefused.{RecoverRefused}
use Rattle.lrs_journal.specs.declared.replay.RecoverRefused.TheVariants as recover
use Rattle.lrs_fold.specs.LrsHistoryHistory.{state, end_offset, IsLegal, IsFounding}
use Rattle.lrs_parts.specs.Founding.{IsBase, IsToken, is_base, is_token}
use Rattle.lrs_parts.specs.State.{State}
use Rattle.lrs_fold.specs.LrsRefusalsJudged.{IsJudged}
use Rattle.lrs_fold.specs.Own.{founding_entry}
use Rattle.lrs_fold.proofs.Founded.{founding_judged}
use Rattle.lrs_machine.specs.declared.opening.FoundRefused.TheVariants as found
use Rattle.lrs_machine.specs.Desk.{IsStoreOf, LeavesStore, IsDeskRefused, IsNotFounded, MakesOnly, OpensOnly}
use Rattle.lrs_machine.specs.Line.{Record, entries}
use Rattle.lrs_machine.specs.Steps.{HoldsEntries, IsTied}
use Rattle.lrs_machine.specs.Replays.{HasReadAll, IsReplayed, opening_refusal, founding_refusal}
use Rattle.lrs_machine.proofs.ActLemmas.{settled_leaves}
use Rattle.lrs_machine.proofs.Lines.{some_same, none_some}
use Rattle.lrs_machine.proofs.Prefixes.{rests, run_then, weaker}
use Rattle.lrs_machine.proofs.Tied.{Moves, alike_mapped, frames_told, tells_alike, told_of}

-- ---- what is opened

-- the journal that a replay makes
pub finish_opened : {D : Type 0} (told : D → Option (List ℕ)) (image : D → List ℕ → Type 0) (replay : Replay D) (journal : Journal D) (st : State) (h : List Entry) → IsReplayed replay st h → 0 < length h
    → ForSome (told replay.disk) (λ bytes. HasReadAll bytes replay h) → TellsAlike (told replay.disk) (told journal.disk)
    → ForSome (told replay.disk) (λ bytes. (payloads : List (List ℕ)) → HasRead bytes replay payloads → frames_of told journal ≡ Some payloads)
    → (journal.doubt ≡ false) × (journal.limit ≡ replay.limit) × (journal.end ≡ replay.offset) × (journal.number ≡ replay.number) → IsJournal told image journal → HoldsEntries told image journal st h
finish_opened told image replay journal st h replayed some read alike finished fields sound = record {
  sound = sound;
  folded = replayed.folded;
  legal = subst (λ (l : ℕ). IsLegal l h) (sym fields.1) (some, replayed.legal);
  counts = fields.3 ∙ replayed.counts;
  offset = fields.2 ∙ replayed.offset ∙ ap (λ (l : ℕ). end_offset l h) (sym fields.1);
  settled = fields.0;
  frames = λ ps there.
      let c = told_of told journal ps there in
      let b = told_back (told replay.disk) (told journal.disk) c.0 alike c.1 in
      some_same ps (map written_entry h) (sym there ∙ finished b.0 b.1 (map written_entry h) (read b.0 b.1).0);
}

-- the journal of a new store
pub create_opened : {D : Type 0} (told : D → Option (List ℕ)) (image : D → List ℕ → Type 0) (o : Option (List ℕ)) (journal : Journal D) (st : State) (limit : ℕ) (frame : List ℕ) (e : Entry) (h : List Entry) → h ≡ e ∷ [] → frame ≡ written_entry e
    → frames_of told journal ≡ option_map (λ _. frame ∷ []) o → IsJournal told image journal → IsLawful e → IsFounding e → st ≡ state (e ∷ [])
    → (journal.doubt ≡ false) × (journal.limit ≡ limit) × (journal.end ≡ HEADER + FRAME_HEAD + length frame) × (journal.number ≡ 1) → HoldsEntries told image journal st h
create_opened told image o journal st limit frame e h is text frames sound lawful founding folds fields = subst (λ (g : List Entry). HoldsEntries told image journal st g) (sym is) (record {
  sound = sound;
  folded = folds;
  legal = (omega arith, (lawful, founding, tt));
  counts = fields.3;
  offset = (let a = fields.2 in let b = store_length format.Two journal.limit (written_entry e ∷ []) in let c = ap length text in omega (arith, a, b, c));
  settled = fields.0;
  frames = λ ps there. by_told o ps (sym frames ∙ there);
})
  where
    by_told : (o : Option (List ℕ)) (ps : List (List ℕ)) → option_map (λ _. frame ∷ []) o ≡ Some ps → ps ≡ map written_entry (e ∷ [])
    by_told None ps is = absurd (none_some ps is)
    by_told (Some b) ps is = some_same ps (frame ∷ []) (sym is) ∙ ap (λ (f : List ℕ). f ∷ []) text

pub create_tells : {D : Type 0} (told : D → Option (List ℕ)) (o : Option (List ℕ)) (journal : Journal D) (frame : List ℕ) → frames_of told journal ≡ option_map (λ _. frame ∷ []) o → TellsAlike o (told journal.disk)
create_tells told o journal frame is = alike_mapped (λ bytes. payloads_in (settled journal.doubt journal.gate bytes)) (λ _. frame ∷ []) o (told journal.disk) is

-- ---- what is closed

leaves : {D : Type 0} (told : D → Option (List ℕ)) (image : D → List ℕ → Type 0) (journal : Journal D) (h : List Entry) (doubt : Bool) (b : List ℕ) → IsJournal told image journal → told journal.disk ≡ Some b
    → ForSome (frames_of told journal) (λ ps. ps ≡ map written_entry h) → journal.doubt ≡ doubt → LeavesStore told journal.disk journal.limit doubt h
leaves told image journal h doubt b sound there spells is =
    let f = frames_told told journal b there in
    (b, there, subst (λ d. StandsForFrames journal.limit d (map written_entry h) b) is (subst (λ ps. StandsForFrames journal.limit journal.doubt ps b) (spells f.0 f.1) ((sound.holds f.0 f.1).reads b there)))

-- what a read gives of the disk of a closed desk
pub closed : {D : Type 0} (told : D → Option (List ℕ)) (image : D → List ℕ → Type 0) (time : D → ℕ) (since : D → ℕ → List ℕ → Type 0) (old new : Journal D) (st : State) (line : List Record) (doubt : Bool)
    → IsTied told image time since old st line → IsUnchanged told old new → IsJournal told image new → new.doubt ≡ doubt → ForSome (told old.disk) (λ _. LeavesStore told new.disk old.limit doubt (entries line))
closed told image time since old new st line doubt tied same sound is = λ b there.
    let c = told_on (told old.disk) (told new.disk) b (tells_alike told None old new same) there in
    subst (λ (l : ℕ). LeavesStore told new.disk l doubt (entries line)) same.limit (leaves told image new (entries line) doubt c.0 sound c.1 (λ ps t. tied.frames ps (sym same.frames ∙ t)) is)

-- and what a crash then leaves
pub closed_stands : {D : Type 0} (told : D → Option (List ℕ)) (image : D → List ℕ → Type 0) (time : D → ℕ) (since : D → ℕ → List ℕ → Type 0) → ((d : D) (c : List ℕ) → image d c → IsSome (told d))
    → (old new : Journal D) (st : State) (line : List Record) → IsTied told image time since old st line → IsUnchanged told old new → IsJournal told image new → new.doubt ≡ false
    → (bytes : List ℕ) → image new.disk bytes → Stands bytes old.limit (map written_entry (entries line))
closed_stands told image time since tells old new st line tied same sound is bytes left =
    let b = told_by (told new.disk) (tells new.disk bytes left) in
    let f = frames_told told new b.0 b.1 in
    let held : StandsForFrames new.limit false f.0 bytes = subst (λ d. StandsForFrames new.limit d f.0 bytes) is ((sound.holds f.0 f.1).each bytes left) in
    subst (λ (l : ℕ). Stands bytes l (map written_entry (entries line))) same.limit (subst (λ (ps : List (List ℕ)). Stands bytes new.limit ps) (tied.frames f.0 (sym same.frames ∙ f.1)) held)
  where
    told_by : (o : Option (List ℕ)) → IsSome o → (b : List ℕ) × (o ≡ Some b)
    told_by None some = absurd (cc some)
    told_by (Some b) some = (b, refl)

-- the settling moves no line
pub settle_moves : {D : Type 0} (told : D → Option (List ℕ)) (image : D → List ℕ → Type 0) (time : D → ℕ) (since : D → ℕ → List ℕ → Type 0) (old new : Journal D) (st : State) (line : List Record)
    → IsTied told image time since old st line → IsUnchanged told old new → time old.disk ≤ time new.disk → ForSome (frames_of told old) (λ ps. LeavesOnly time since old.disk new.disk (StandsForFrames old.limit old.doubt ps))
    → Moves told time since old new st st None line line
settle_moves told image time since old new st line tied same later leaves = record {
  grew = same;
  folds = refl;
  later = later;
  leaves = settled_leaves told time since old new leaves;
  goes = inl (refl, refl);
  legal = tied.legal;
}

-- ---- founding

pub founding_of : (admin base : List ℕ) (clock : ℕ) → IsToken admin → IsBase base → IsFounding (founding_entry admin base clock)
founding_of admin base clock token url = both (is_token admin) (is_base base) token url
  where
    both : (a b : Bool) → a ≡ true → b ≡ true → a && b ≡ true
    both true true p q = refl
    both true false p q = q
    both false b p q = cc p

pub judged_founding : (e : Entry) → IsFounding e → IsJudged e.write
judged_founding e is = founding_judged e is

-- why no store was founded
pub found_refused : (bytes : List ℕ) (limit : ℕ) (e : Entry) (frame : List ℕ) (r : CreateRefused) → frame ≡ written_entry e → IsCreateRefused bytes r
    → ((need most : ℕ) → r ≡ create.Full need most → (need ≡ need_of_first frame) × (most ≡ limit) × (limit < need)) → IsNotFounded bytes limit e (founding_refusal r)
found_refused bytes limit e frame create.AlreadyStore is refused full = refused
found_refused bytes limit e frame create.Foreign is refused full = refused
found_refused bytes limit e frame (create.Full need most) is refused full =
    let f = full need most refl in (refused, f.0 ∙ ap need_of_first is, f.1, f.2)
found_refused bytes limit e frame create.Failed is refused full = tt

-- the numbers of a store for which there is no room
pub found_full : (limit : ℕ) (e : Entry) (frame : List ℕ) (r : CreateRefused) → frame ≡ written_entry e
    → ((need most : ℕ) → r ≡ create.Full need most → (need ≡ need_of_first frame) × (most ≡ limit) × (limit < need)) → (need most : ℕ) → founding_refusal r ≡ found.Full need most
    → (need ≡ need_of_first (written_entry e)) × (most ≡ limit) × (limit < need)
found_full limit e frame create.AlreadyStore text full need most is = absurd (cc is)
found_full limit e frame create.Foreign text full need most is = absurd (cc is)
found_full limit e frame create.Failed text full need most is = absurd (cc is)
found_full limit e frame (create.Full n m) text full need most is =
    let a : n ≡ need = cc is in
    let b : m ≡ most = cc is in
    let f = full n m refl in
    (sym a ∙ f.0 ∙ ap need_of_first text, sym b ∙ f.1, subst (λ (k : ℕ). limit < k) a f.2)

-- why a disk wasn't opened
pub open_refused : (bytes : List ℕ) (r : RecoverRefused) → (r ≡ recover.NotAStore → HasNoHeader bytes) → (r ≡ recover.OldFormat → (limit : ℕ) × HasHeaderIn format.One bytes limit)
    → IsDeskRefused bytes (opening_refusal r)
open_refused bytes recover.NotAStore none old = none refl
open_refused bytes recover.OldFormat none old = old refl
open_refused bytes recover.Failed none old = tt

-- ---- what a stop leaves of a founding

header_store : (bytes : List ℕ) (f : Format) (limit : ℕ) → HasHeaderIn f bytes limit → IsStore bytes
header_store bytes f limit h = ap (λ (l : List ℕ). take 8 l) h.split

-- nothing was written
pub makes_nothing : {D : Type 0} (told : D → Option (List ℕ)) (image : D → List ℕ → Type 0) (time : D → ℕ) (since : D → ℕ → List ℕ → Type 0) → ((d : D) (c : List ℕ) → since d (time d) c → image d c)
    → (limit : ℕ) (e : Entry) (disk : D) → MakesOnly told image time since limit e disk disk
makes_nothing told image time since only_now limit e disk = λ synced bytes there none.
    rests time since image only_now disk (IsMade limit (written_entry e)) (λ c left. inl (λ f other h. none (header_store bytes f other (subst (λ (b : List ℕ). HasHeaderIn f b other) (some_same c bytes (sym (synced c left) ∙ there)) h))))

pub untouched : {D : Type 0} (told : D → Option (List ℕ)) (image : D → List ℕ → Type 0) (time : D → ℕ) (since : D → ℕ → List ℕ → Type 0) → ((d : D) (c : List ℕ) → since d (time d) c → image d c)
    → (disk : D) → IsUntouched told image time since disk disk
untouched told image time since only_now disk = (refl, rests time since image only_now disk (image disk) (λ c left. left))

-- What is read of a disk on which no store was made: what was there, or what each moment of the making may have left.
pub found_left : {D : Type 0} (told : D → Option (List ℕ)) (image : D → List ℕ → Type 0) (time : D → ℕ) (since : D → ℕ → List ℕ → Type 0)
    → ((d : D) (b : List ℕ) → told d ≡ Some b → image d b) → ((d : D) (t : ℕ) (c : List ℕ) → t ≤ time d → image d c → since d t c)
    → (limit : ℕ) (e : Entry) (old new : D) → ForSome (told old) (λ bytes. (IsOpenTo bytes → ⊥) → told new ≡ told old) → MakesOnly told image time since limit e old new
    → IsSynced told image old → ForSome (told old) (λ bytes. ForSome (told new) (λ now. (now ≡ bytes) ⊎ IsMade limit (written_entry e) now))
found_left told image time since reads counts limit e old new store makes synced = λ bytes there now left. by_test bytes there now left (bytes_eq (take 8 bytes) (1 ∷ magic)) refl
  where
    no : false ≡ true → ⊥
    no e = cc

    by_test : (bytes : List ℕ) → told old ≡ Some bytes → (now : List ℕ) → told new ≡ Some now → (b : Bool) → bytes_eq (take 8 bytes) (1 ∷ magic) ≡ b → (now ≡ bytes) ⊎ IsMade limit (written_entry e) now
    by_test bytes there now left true test =
        let stood : IsStore bytes = (bytes_eq-Decides (take 8 bytes) (1 ∷ magic)).0 test in
        inl (some_same now bytes (sym left ∙ (store bytes there (λ free. free.0 stood) ∙ there)))
    by_test bytes there now left false test =
        let moments = makes synced bytes there (λ stood. no (sym test ∙ (bytes_eq-Decides (take 8 bytes) (1 ∷ magic)).1 stood)) in
        inr (moments.each now (counts new (time old) now moments.later (reads new now left)))

-- ---- what a stop leaves of an opening

-- where the images were what is told, and later ones were as well
pub opens_same : {D : Type 0} (told : D → Option (List ℕ)) (image : D → List ℕ → Type 0) (time : D → ℕ) (since : D → ℕ → List ℕ → Type 0) (old new : D) → LeavesOnly time since old new (image old)
    → OpensOnly told image time since old new (λ bytes after. after ≡ bytes)
opens_same told image time since old new run = λ synced bytes there.
    weaker time since old new (image old) (λ after. after ≡ bytes) run (λ c left. some_same c bytes (sym (synced c left) ∙ there))

pub opens_then : {D : Type 0} (told : D → Option (List ℕ)) (image : D → List ℕ → Type 0) (time : D → ℕ) (since : D → ℕ → List ℕ → Type 0) (old mid new : D) → LeavesOnly time since old mid (image old)
    → told mid ≡ told old → LeavesOnly time since mid new (λ bytes. told mid ≡ Some bytes) → OpensOnly told image time since old new (λ bytes after. after ≡ bytes)
opens_then told image time since old mid new first still second = λ synced bytes there.
    run_then time since old mid new (λ after. after ≡ bytes) (λ after. told mid ≡ Some after) (opens_same told image time since old mid first synced bytes there) second
    (λ c is. some_same c bytes (sym is ∙ still ∙ there))

-- what a weaker clause says
pub opens_weaker : {D : Type 0} (told : D → Option (List ℕ)) (image : D → List ℕ → Type 0) (time : D → ℕ) (since : D → ℕ → List ℕ → Type 0) (old new : D) (P Q : List ℕ → List ℕ → Type 0) → OpensOnly told image time since old new P
    → ForSome (told old) (λ bytes. (after : List ℕ) → P bytes after → Q bytes after) → OpensOnly told image time since old new Q
opens_weaker told image time since old new P Q opens so = λ synced bytes there. weaker time since old new (P bytes) (Q bytes) (opens synced bytes there) (λ c held. so bytes there c held)

-- and after the reading the end is closed
pub opens_finish : {D : Type 0} (told : D → Option (List ℕ)) (image : D → List ℕ → Type 0) (time : D → ℕ) (since : D → ℕ → List ℕ → Type 0) (old mid new : D) (limit : ℕ) (h : List Entry)
    → OpensOnly told image time since old mid (λ bytes after. after ≡ bytes) → told mid ≡ told old → ForSome (told mid) (λ bytes. Stands bytes limit (map written_entry h)) → IsLegal limit h
    → ForSome (told mid) (λ _. LeavesOnly time since mid new (λ image. Stands image limit (map written_entry h))) → OpensOnly told image time since old new (λ bytes after. IsStoreOf after limit h)
opens_finish told image time since old mid new limit h first still stands legal second = λ synced bytes there.
    run_then time since old mid new (λ after. IsStoreOf after limit h) (λ after. Stands after limit (map written_entry h))
    (weaker time since old mid (λ after. after ≡ bytes) (λ after. IsStoreOf after limit h) (first synced bytes there)
    (λ c is. (subst (λ (b : List ℕ). Stands b limit (map written_entry h)) (sym is) (stands bytes (still ∙ there)), legal)))
    (second bytes (still ∙ there)) (λ c held. (held, legal))

-- ---- results

pub if_ok : {T E : Type 0} (r : Result T E) (P Q : T → Type 0) → IfOk r P → ((x : T) → P x → Q x) → IfOk r Q
if_ok (Ok x) P Q p so = so x p
if_ok (Err e) P Q p so = tt

pub if_both : {T E : Type 0} (r : Result T E) (P Q : T → Type 0) → IfOk r P → IfOk r Q → IfOk r (λ x. P x × Q x)
if_both (Ok x) P Q p q = (p, q)
if_both (Err e) P Q p q = tt

pub if_err : {T E : Type 0} (r : Result T E) (P Q : E → Type 0) → IfErr r P → ((e : E) → P e → Q e) → IfErr r Q
if_err (Ok x) P Q p so = tt
if_err (Err e) P Q p so = so e p
