-- The store of a legal history is refused only for a fault or if memory runs out.
use Rattle.std.proofs.Common.{◌≡◌, ◌+◌, ℕ, List, [], ◌∷◌, ◌++◌, length, map, drop, refl, sym, ◌∙◌, ap, subst, inl, inr, arith, append_assoc}
use Rattle.std.specs.Prelude.{◌⊎◌}
use Rattle.std.specs.List.{AllByRecursion}
use Rattle.std.proofs.lemmas.List.{length-map, append-nil}
use Rattle.lrs_journal.specs.Store.{frames_in, body, IsEnd, IsPayload, Stands}
use Rattle.lrs_journal.specs.declared.sizes.Format.TheVariants as format
use Rattle.lrs_journal.proofs.Unique.{first_once, format_once, header_once, no_end, stands_header, stands_once, stands_whole}
use Rattle.lrs_journal.specs.declared.sizes.TheConstants.{HEADER}
use Rattle.lrs_record.specs.declared.entry.Entry.{Entry}
use Rattle.lrs_record.specs.Entries.{IsLawful, written_entry}
use Rattle.lrs_record.proofs.Told.{written_entry_injective}
use Rattle.lrs_fold.specs.LrsHistoryHistory.{IsLegal, IsLegalFrom, ComesNext}
use Rattle.lrs_machine.specs.declared.opening.DeskRefused.{DeskRefused}
use Rattle.lrs_machine.specs.declared.opening.DeskRefused.TheVariants as desk
use Rattle.lrs_machine.specs.Desk.{IsIllegalBehind, IsDeskRefused, SparesLegal}

-- frames in front of a list of frames are its first ones
first_frames : (k : ℕ) (ps qs : List (List ℕ)) (x r : List ℕ) → AllByRecursion IsPayload ps → AllByRecursion IsPayload qs → IsEnd r → frames_in format.Two k ps ++ x ≡ frames_in format.Two k qs ++ r
    → (rest : List (List ℕ)) × (qs ≡ ps ++ rest)
first_frames k [] qs x r fp fq ends e = (qs, refl)
first_frames k (p ∷ ps) [] x r fp fq ends e = absurd (no_end format.Two k p ps r x ends (sym e))
first_frames k (p ∷ ps) (q ∷ qs) x r fp fq ends e =
    let both = first_once format.Two k k p q (frames_in format.Two (k + 1) ps ++ x) (frames_in format.Two (k + 1) qs ++ r) fp.0 fq.0
    (sym (append_assoc (1 ∷ body k p) (frames_in format.Two (k + 1) ps) x) ∙ e ∙ append_assoc (1 ∷ body k q) (frames_in format.Two (k + 1) qs) r) in
    let more = first_frames (k + 1) ps qs x r fp.1 fq.1 ends both.1 in
    (more.0, ap (λ (y : List ℕ). y ∷ qs) (sym both.0) ∙ ap (λ (ys : List (List ℕ)). p ∷ ys) more.1)

-- the entry after the first ones of a legal history came next
next_in : (l m : ℕ) (b c h k : List Entry) (f : List ℕ) (rest : List (List ℕ)) → IsLegalFrom l b h → IsLegalFrom m c k → map written_entry h ≡ (map written_entry k ++ f ∷ []) ++ rest
    → (e : Entry) × IsLawful e × (written_entry e ≡ f) × ComesNext l (b ++ k) e
next_in l m b c [] [] f rest legal so_far is = cc is
next_in l m b c [] (y ∷ k) f rest legal so_far is = cc is
next_in l m b c (x ∷ h) [] f rest legal so_far is =
    let same : written_entry x ≡ f = cc is in
    (x, legal.0, same, subst (λ z. ComesNext l z x) (sym (append-nil b)) legal.1)
next_in l m b c (x ∷ h) (y ∷ k) f rest legal so_far is =
    let first : written_entry x ≡ written_entry y = cc is in
    let others : map written_entry h ≡ (map written_entry k ++ f ∷ []) ++ rest = cc is in
    let same : x ≡ y = written_entry_injective x y legal.0 so_far.0 first in
    let more = next_in l m (b ++ x ∷ []) (c ++ y ∷ []) h k f rest legal.2 so_far.2 others in
    (more.0, more.1, more.2, subst (λ z. ComesNext l z more.0) (append_assoc b (x ∷ []) k ∙ ap (λ z. b ++ (z ∷ k)) same) more.3)

not_illegal : (bytes : List ℕ) (m : ℕ) (h : List Entry) (l : ℕ) (k : List Entry) → Stands bytes m (map written_entry h) → IsLegal m h → IsLegalFrom l [] k → IsIllegalBehind bytes l k → ⊥
not_illegal bytes m h l k stands legal so_far bad =
    let limit : m ≡ l = header_once format.Two format.Two bytes m l (stands_header format.Two bytes m (map written_entry h) stands) bad.begins.0 in
    let more = first_frames 0 (map written_entry k ++ bad.frame ∷ []) (map written_entry h) bad.begins.2.0 stands.rest bad.begins.1 stands.sizes stands.ends
    (ap (λ (x : List ℕ). drop HEADER x) (sym bad.begins.2.1 ∙ stands.split)) in
    let next = next_in m l [] [] h k bad.frame more.0 legal.1 so_far more.1 in
    bad.broken next.0 next.1 next.2 (subst (λ z. ComesNext z k next.0) limit next.3)

not_old : format.One ≡ format.Two → ⊥
not_old is = cc is

pub spares : (bytes : List ℕ) (r : DeskRefused) → IsDeskRefused bytes r → SparesLegal bytes r
spares bytes desk.NotAStore refused = λ m h is. refused format.Two m (stands_header format.Two bytes m (map written_entry h) is.0)
spares bytes desk.OldFormat refused = λ m h is.
    not_old (format_once format.One format.Two bytes refused.0 m refused.1 (stands_header format.Two bytes m (map written_entry h) is.0))
spares bytes (desk.Damaged k) refused = λ m h is. stands_whole format.Two bytes m refused.0 (map written_entry h) (map written_entry refused.1) is.0 refused.3
spares bytes (desk.IllegalEntry k) refused = λ m h is. by_cases m h is.0 is.1 refused.3
  where
    by_cases : (m : ℕ) (h : List Entry) → Stands bytes m (map written_entry h) → IsLegal m h
        → (IsIllegalBehind bytes refused.0 refused.1 ⊎ ((refused.1 ≡ []) × Stands bytes refused.0 [])) → ⊥
    by_cases m h stands legal (inl bad) = not_illegal bytes m h refused.0 refused.1 stands legal refused.2.1 bad
    by_cases m h stands legal (inr empty) =
        let none : map written_entry h ≡ [] = stands_once format.Two bytes m refused.0 (map written_entry h) [] stands empty.1 in
        omega (arith, legal.0, sym (length-map h written_entry) ∙ ap (λ (z : List (List ℕ)). length z) none)
spares bytes desk.Failed refused = λ m h is. tt
spares bytes desk.Memory refused = λ m h is. tt
