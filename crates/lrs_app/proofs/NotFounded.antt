-- How init ends, where a store is made and where none is.
use Rattle.std.proofs.Common.{◌≡◌, ◌≢◌, ◌<◌, ◌≤◌, ℕ, false, List, [], ◌∷◌, length, map, Option, Some, None, IfSome, refl, sym, ap, ◌∙◌, subst, inr, arith}
use Rattle.std.specs.Option.{ForSome}
use Rattle.lrs_disk.specs.Disk.{LeavesOnly}
use Rattle.lrs_disk.specs.declared.disk.Disk as disks
use Rattle.lrs_disk.proofs.Moments.{then_run}
use Rattle.lrs_journal.specs.Create.{IsMade, IsOpenTo, IsUntouched, need_of_first}
use Rattle.lrs_journal.specs.Journal.{IsSynced, TellsAlike}
use Rattle.lrs_journal.specs.Store.{Stands}
use Rattle.lrs_record.specs.Entries.{written_entry}
use Rattle.lrs_record.specs.declared.entry.Entry.{Entry}
use Rattle.lrs_hall.specs.LrsHistoryHistory.{IsLegal}
use Rattle.lrs_hall.specs.LrsMachineDesk.{Desk, HoldsPrefix, IsNotFounded, LeavesStore, MakesOnly, history}
use Rattle.lrs_hall.specs.LrsMachineLine.{entries, opened_line, sure}
use Rattle.lrs_hall.specs.LrsMachineOpeningFoundRefused.{FoundRefused}
use Rattle.lrs_hall.specs.LrsMachineOpeningFoundRefusedTheVariants as found
use Rattle.lrs_hall.specs.LrsMachineLinesProofs.{some_same}
use Rattle.lrs_app.specs.Disks.{AnyStopLeaves, Holds, taken_now}
use Rattle.lrs_app.specs.Run.{InitEnds, InitOnDisk, InitStops, InitTells}
use Rattle.lrs_app.specs.Steps.{ending_of_found}
use Rattle.lrs_app.proofs.Openings.{prefix_whole, told_on}
use Rattle.lrs_console.specs.declared.ending.Ending.TheVariants as ending

-- ---- no store was made

-- the numbers of Full are those of the entry
abbrev IsFullOf : ℕ → Entry → FoundRefused → Type 0
IsFullOf limit first refused = (need most : ℕ) → refused ≡ found.Full need most → (need ≡ need_of_first (written_entry first)) × (most ≡ limit) × (limit < need)

refused_tells : (limit : ℕ) (first : Entry) (refused : FoundRefused) → IsFullOf limit first refused → InitTells limit first 0 (ending_of_found refused)
refused_tells limit first found.AlreadyStore full = refl
refused_tells limit first found.Foreign full = refl
refused_tells limit first (found.Full need most) full = let f = full need most refl in (f.0, f.1, f.2, refl)
refused_tells limit first found.Failed full = refl
refused_tells limit first found.Memory full = refl

module _ {D : Type 0} (d : disks.Ghosts D) (reads_image : (x : D) (b : List ℕ) → d.told x ≡ Some b → d.image x b)
    (counts_now : (x : D) (t : ℕ) (c : List ℕ) → t ≤ d.time x → d.image x c → d.image_since x t c) (limit : ℕ) (first : Entry) (old new : D) (bytes : List ℕ)
    (told : d.told old ≡ Some bytes) (synced : IsSynced d.told d.image old) where
  untouched_stops : IsUntouched d.told d.image d.time d.image_since old new → AnyStopLeaves d (taken_now d old) new (λ image. image ≡ bytes)
  untouched_stops untouched image left = some_same image bytes (sym (synced image (untouched.1.each image left)) ∙ told)

  refused_ends : (refused : FoundRefused) → IsNotFounded bytes limit first refused
      → (refused ≢ found.Failed → IsUntouched d.told d.image d.time d.image_since old new)
      → ((IsOpenTo bytes → ⊥) → IsUntouched d.told d.image d.time d.image_since old new)
      → TellsAlike (d.told old) (d.told new)
      → MakesOnly d.told d.image d.time d.image_since limit first old new
      → InitEnds bytes limit first (d.told new) (ending_of_found refused)
      × InitStops d (taken_now d old) new bytes limit first (ending_of_found refused)
  refused_ends found.AlreadyStore why spared store alike makes =
      let u = spared (λ e. cc) in ((why, u.0 ∙ told), untouched_stops u)
  refused_ends found.Foreign why spared store alike makes =
      let u = spared (λ e. cc) in ((why, u.0 ∙ told), untouched_stops u)
  refused_ends (found.Full need most) why spared store alike makes =
      let u = spared (λ e. cc) in ((why.0, u.0 ∙ told), untouched_stops u)
  refused_ends found.Memory why spared store alike makes =
      let u = spared (λ e. cc) in (u.0 ∙ told, untouched_stops u)
  refused_ends found.Failed why spared store alike makes = (
    (
      λ shut. (store shut).0 ∙ told,
      λ open_to.
          let now = told_on (d.told old) (d.told new) bytes alike told in
          let made = makes synced bytes told open_to.0 in
          (now.0, now.1, made.each now.0 (counts_now new (d.time old) now.0 made.later (reads_image new now.0 now.1))),
    ),
    λ image left. (
      λ shut. untouched_stops (store shut) image left,
      λ open_to. (makes synced bytes told open_to.0).each image left,
    ),
  )

if_some : {A : Type 0} (o : Option A) (P : A → Type 0) → ((x : A) → o ≡ Some x → P x) → IfSome o P
if_some None P holds = tt
if_some (Some x) P holds = holds x refl

pub not_founded : {D : Type 0} (d : disks.Ghosts D) (reads_image : (x : D) (b : List ℕ) → d.told x ≡ Some b → d.image x b)
    (counts_now : (x : D) (t : ℕ) (c : List ℕ) → t ≤ d.time x → d.image x c → d.image_since x t c) (limit : ℕ) (first : Entry) (old new : D) (refused : FoundRefused)
    → IsSynced d.told d.image old → ForSome (d.told old) (λ bytes. IsNotFounded bytes limit first refused)
    → IsFullOf limit first refused
    → (refused ≢ found.Failed → IsUntouched d.told d.image d.time d.image_since old new)
    → ForSome (d.told old) (λ bytes. (IsOpenTo bytes → ⊥) → IsUntouched d.told d.image d.time d.image_since old new)
    → TellsAlike (d.told old) (d.told new) → MakesOnly d.told d.image d.time d.image_since limit first old new
    → d.time old ≤ d.time new → InitOnDisk d (taken_now d old) new limit first 0 (ending_of_found refused)
not_founded d reads_image counts_now limit first old new refused synced why full spared store alike makes later = (
  refused_tells limit first refused full,
  later,
  if_some (d.told old) (λ bytes. InitEnds bytes limit first (d.told new) (ending_of_found refused)
      × InitStops d (taken_now d old) new bytes limit first (ending_of_found refused))
      (λ bytes told. refused_ends d reads_image counts_now limit first old new bytes told synced refused (why bytes told) spared (store bytes told) alike makes),
)

-- ---- a store was made

-- a new store holds its one entry
pub founded_ends : {D : Type 0} (d : disks.Ghosts D) (counts_now : (x : D) (t : ℕ) (c : List ℕ) → t ≤ d.time x → d.image x c → d.image_since x t c)
    (only_now : (x : D) (c : List ℕ) → d.image_since x (d.time x) c → d.image x c) (limit : ℕ) (first : Entry) (old : D) (desk : Desk D) (disk : D)
    → IsSynced d.told d.image old → desk.limit ≡ limit → desk.line ≡ opened_line desk.opened_at (first ∷ [])
    → IsLegal desk.limit (history desk) → need_of_first (written_entry first) ≤ limit
    → ForSome (d.told old) IsOpenTo → TellsAlike (d.told old) (d.told desk.disk)
    → MakesOnly d.told d.image d.time d.image_since limit first old desk.disk
    → ForSome (d.told desk.disk) (λ _. LeavesStore d.told disk desk.limit false (history desk))
    → ((c : List ℕ) → d.image disk c → Stands c desk.limit (map written_entry (history desk)))
    → ForSome (d.told desk.disk) (λ _. LeavesOnly d.time d.image_since desk.disk disk (HoldsPrefix desk.limit (sure desk.line) (history desk)))
    → d.time old ≤ d.time desk.disk → d.time desk.disk ≤ d.time disk → InitOnDisk d (taken_now d old) disk limit first 1 ending.Founded
founded_ends d counts_now only_now limit first old desk disk synced same line legal room opens alike makes closed durable stops later passed =
    let one : history desk ≡ first ∷ [] = ap entries line in
    let sure_one : sure desk.line ≡ 1 = ap sure line in
    let number : length (history desk) ≡ 1 = ap length one in
    let lawful : IsLegal limit (first ∷ []) = subst (λ (l : ℕ). IsLegal l (first ∷ [])) same (subst (λ (h : List Entry). IsLegal desk.limit h) one legal) in
    let stands : (c : List ℕ) → Stands c desk.limit (map written_entry (history desk)) → Stands c limit (written_entry first ∷ []) =
    λ c s. subst (λ (l : ℕ). Stands c l (written_entry first ∷ [])) same (subst (λ (h : List Entry). Stands c desk.limit (map written_entry h)) one s) in (
      (room, lawful, refl),
      omega (arith, later, passed),
      if_some (d.told old) (λ bytes. InitEnds bytes limit first (d.told disk) ending.Founded × InitStops d (taken_now d old) disk bytes limit first ending.Founded)
          (λ bytes told.
          let t = told_on (d.told old) (d.told desk.disk) bytes alike told in
          let free = opens bytes told in (
            (
              free,
              subst (λ (l : ℕ). Holds (d.told disk) l (first ∷ [])) same (subst (λ (h : List Entry). Holds (d.told disk) desk.limit h) one (closed t.0 t.1)),
            ),
            (
              (then_run d.time d.image_since d.image counts_now only_now old desk.disk disk (IsMade limit (written_entry first))
                  (HoldsPrefix desk.limit (sure desk.line) (history desk)) (makes synced bytes told free.0) (stops t.0 t.1)
                  (λ c held. inr (stands c (prefix_whole desk.limit (sure desk.line) (history desk) c (omega (arith, sure_one, number)) held).0))).each,
              λ image left. (stands image (durable image left), lawful),
            ),
          )),
    )
