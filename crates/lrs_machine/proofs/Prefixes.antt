-- Fronts of a legal history, and disks that hold them.
use Rattle.std.proofs.Common.{◌≡◌, ℕ, zero, suc, ◌+◌, ◌-◌, ◌≤◌, List, [], ◌∷◌, ◌++◌, length, map, take, Bool, true, false, refl, sym, ap, ◌∙◌, subst, inl, inr, ⊎_elim, arith, length-append, length-take}
use Rattle.std.specs.Prelude.{Option}
use Rattle.std.proofs.lemmas.List.{take-append-le, length-map}
use Rattle.lrs_disk.specs.Disk.{LeavesOnly}
use Rattle.lrs_fold.specs.LrsHistoryHistory.{IsLegal, IsLegalFrom}
use Rattle.lrs_journal.proofs.Told.{told_on}
use Rattle.lrs_journal.specs.Journal.{StandsForFrames, TellsAlike}
use Rattle.lrs_journal.specs.Store.{IsBeforeOrAfter, Stands}
use Rattle.lrs_record.specs.Entries.{written_entry}
use Rattle.lrs_record.specs.declared.entry.Entry.{Entry}
use Rattle.lrs_machine.specs.Line.{sure, BeginsWith}
use Rattle.lrs_machine.specs.Desk.{Desk, history, HoldsPrefix, IsStoreOf, StopsWithin}
use Rattle.lrs_machine.specs.Steps.{HoldsFrames, sure_of}
use Rattle.lrs_machine.proofs.Lines.{take_front, take_whole}

-- ---- runs of calls of a disk

pub weaker : {D : Type 0} (time : D → ℕ) (since : D → ℕ → List ℕ → Type 0) (old new : D) (P Q : List ℕ → Type 0) → LeavesOnly time since old new P → ((c : List ℕ) → P c → Q c) → LeavesOnly time since old new Q
weaker time since old new P Q run so = record { later = run.later; each = λ c left. so c (run.each c left); before = λ t c le left. ⊎_elim (λ p. inl p) (λ p. inr (so c p)) (run.before t c le left) }

-- one run after another
pub run_then : {D : Type 0} (time : D → ℕ) (since : D → ℕ → List ℕ → Type 0) (old mid new : D) (P Q : List ℕ → Type 0) → LeavesOnly time since old mid P → LeavesOnly time since mid new Q → ((c : List ℕ) → Q c → P c)
    → LeavesOnly time since old new P
run_then time since old mid new P Q first second so = record {
  later = omega (arith, first.later, second.later);
  each = λ c left. ⊎_elim (first.each c) (so c) (second.before (time old) c first.later left);
  before = λ t c le left. ⊎_elim (first.before t c le) (λ q. inr (so c q)) (second.before t c (omega (arith, le, first.later)) left);
}

-- no call
pub rests : {D : Type 0} (time : D → ℕ) (since : D → ℕ → List ℕ → Type 0) (image : D → List ℕ → Type 0) → ((d : D) (c : List ℕ) → since d (time d) c → image d c)
    → (disk : D) (P : List ℕ → Type 0) → ((c : List ℕ) → image disk c → P c) → LeavesOnly time since disk disk P
rests time since image only_now disk P here = record { later = omega arith; each = λ c left. here c (only_now disk c left); before = λ t c le left. inl left }

-- ---- fronts of a legal history

legal_from_front : (limit : ℕ) (before h : List Entry) (n : ℕ) → IsLegalFrom limit before h → IsLegalFrom limit before (take n h)
legal_from_front limit before h zero legal = tt
legal_from_front limit before [] (suc n) legal = tt
legal_from_front limit before (e ∷ h) (suc n) legal = (legal.0, legal.1, legal_from_front limit (before ++ e ∷ []) h n legal.2)

-- a front of a legal history that isn't empty is legal
pub legal_front : (limit n : ℕ) (h : List Entry) → 1 ≤ n → IsLegal limit h → IsLegal limit (take n h)
legal_front limit n h some legal = (omega (arith, some, legal.0, length-take n h), legal_from_front limit [] h n legal.1)

-- ---- what a disk holds of a history

-- with fewer entries asked for
pub prefix_less : (limit least fewer : ℕ) (h : List Entry) (c : List ℕ) → fewer ≤ least → HoldsPrefix limit least h c → HoldsPrefix limit fewer h c
prefix_less limit least fewer h c le held = (held.0, omega (arith, le, held.1), held.2, held.3)

-- of a history that goes on
pub prefix_more : (limit least : ℕ) (h more : List Entry) (c : List ℕ) → HoldsPrefix limit least h c → HoldsPrefix limit least (h ++ more) c
prefix_more limit least h more c held =
    (held.0, held.1, omega (arith, held.2, length-append h more), subst (λ (l : List Entry). IsStoreOf c limit l) (sym (take-append-le held.0 h more held.2)) held.3)

pub prefix_on : (limit least : ℕ) (h g : List Entry) (c : List ℕ) → BeginsWith h g → HoldsPrefix limit least h c → HoldsPrefix limit least g c
prefix_on limit least h g c goes held = subst (λ (l : List Entry). HoldsPrefix limit least l c) goes.1 (prefix_more limit least h goes.0 c held)

-- the store of a whole history
pub prefix_whole : (limit least : ℕ) (h : List Entry) (c : List ℕ) → least ≤ length h → IsStoreOf c limit h → HoldsPrefix limit least h c
prefix_whole limit least h c le is = (length h, le, omega arith, subst (λ (l : List Entry). IsStoreOf c limit l) (sym (take_whole h (length h) (omega arith))) is)

-- what calls leave, one after the other
pub stops_then : {D : Type 0} (told : D → Option (List ℕ)) (time : D → ℕ) (since : D → ℕ → List ℕ → Type 0) (old mid new : Desk D) → TellsAlike (told old.disk) (told mid.disk) → mid.limit ≡ old.limit
    → BeginsWith (history mid) (history new) → sure old.line ≤ sure mid.line → StopsWithin told time since old mid → StopsWithin told time since mid new → StopsWithin told time since old new
stops_then told time since old mid new alike limit goes sures first second = λ b there.
    let m = told_on (told old.disk) (told mid.disk) b alike there in
    run_then time since old.disk mid.disk new.disk (HoldsPrefix old.limit (sure old.line) (history new)) (HoldsPrefix mid.limit (sure mid.line) (history new))
    (weaker time since old.disk mid.disk (HoldsPrefix old.limit (sure old.line) (history mid)) (HoldsPrefix old.limit (sure old.line) (history new)) (first b there) (λ c held. prefix_on old.limit (sure old.line) (history mid) (history new) c goes held))
    (second m.0 m.1)
    (λ c held. prefix_less old.limit (sure mid.line) (sure old.line) (history new) c sures (subst (λ (l : ℕ). HoldsPrefix l (sure mid.line) (history new) c) limit held))

-- ---- frames

map_take : {A B : Type 0} (f : A → B) (n : ℕ) (xs : List A) → take n (map f xs) ≡ map f (take n xs)
map_take f zero xs = refl
map_take f (suc n) [] = refl
map_take f (suc n) (x ∷ xs) = ap (λ l. f x ∷ l) (map_take f n xs)

pub frames_less : (limit least fewer : ℕ) (ps : List (List ℕ)) (c : List ℕ) → fewer ≤ least → HoldsFrames limit least ps c → HoldsFrames limit fewer ps c
frames_less limit least fewer ps c le held = (held.0, omega (arith, le, held.1), held.2, held.3)

pub frames_more : (limit least : ℕ) (ps more : List (List ℕ)) (c : List ℕ) → HoldsFrames limit least ps c → HoldsFrames limit least (ps ++ more) c
frames_more limit least ps more c held =
    (held.0, held.1, omega (arith, held.2, length-append ps more), subst (λ (l : List (List ℕ)). Stands c limit l) (sym (take-append-le held.0 ps more held.2)) held.3)

frames_whole : (limit : ℕ) (ps : List (List ℕ)) (c : List ℕ) → Stands c limit ps → HoldsFrames limit (length ps) ps c
frames_whole limit ps c stands = (length ps, omega arith, omega arith, subst (λ (l : List (List ℕ)). Stands c limit l) (sym (take_whole ps (length ps) (omega arith))) stands)

-- the frames, in doubt without the last one
pub frames_stand : (limit : ℕ) (doubt : Bool) (ps : List (List ℕ)) (c : List ℕ) → StandsForFrames limit doubt ps c → HoldsFrames limit (sure_of doubt (length ps)) ps c
frames_stand limit false ps c stands = frames_whole limit ps c stands
frames_stand limit true ps c (before, last, is, inl stands) =
    let n : length ps ≡ length before + 1 = ap length is ∙ length-append before (last ∷ []) in
    (length before, omega (arith, n), omega (arith, n), subst (λ (l : List (List ℕ)). Stands c limit l) (sym (ap (λ (l : List (List ℕ)). take (length before) l) is ∙ take_front before (last ∷ []) (length before) refl)) stands)
frames_stand limit true ps c (before, last, is, inr stands) = frames_less limit (length ps) (length ps - 1) ps c (omega arith) (frames_whole limit ps c stands)

-- with one frame more, or without
pub frames_around : (limit : ℕ) (ps : List (List ℕ)) (p c : List ℕ) → IsBeforeOrAfter limit ps p c → HoldsFrames limit (length ps) (ps ++ p ∷ []) c
frames_around limit ps p c (inl stands) = frames_more limit (length ps) ps (p ∷ []) c (frames_whole limit ps c stands)
frames_around limit ps p c (inr stands) =
    frames_less limit (length (ps ++ p ∷ [])) (length ps) (ps ++ p ∷ []) c (omega (arith, length-append ps (p ∷ []))) (frames_whole limit (ps ++ p ∷ []) c stands)

-- frames of a legal history
pub prefix_of : (limit least : ℕ) (h : List Entry) (ps : List (List ℕ)) (c : List ℕ) → ps ≡ map written_entry h → 1 ≤ least → IsLegal limit h → HoldsFrames limit least ps c → HoldsPrefix limit least h c
prefix_of limit least h ps c is some legal held =
    let n : length ps ≡ length h = ap length is ∙ length-map h written_entry in (
      held.0,
      held.1,
      omega (arith, held.2, n),
      (
        subst (λ (l : List (List ℕ)). Stands c limit l) (ap (λ (l : List (List ℕ)). take held.0 l) is ∙ map_take written_entry held.0 h) held.3,
        legal_front limit held.0 h (omega (arith, some, held.1)) legal,
      ),
    )
