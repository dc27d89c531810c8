-- What is left while a store is made.
use Rattle.std.proofs.Common.{◌≡◌, inl, inr, ℕ, ◌+◌, ◌≤◌, ◌<◌, ◌^◌, List, [], ◌∷◌, ◌++◌, length, take, drop, get_or, refl, sym, ◌∙◌, ap, arith, length-take, length-drop, length-append}
use Rattle.std.proofs.lemmas.Bool.{cases_eq}
use Rattle.std.proofs.lemmas.List.{take-take, drop_all}
use Rattle.lrs_disk.specs.Disk.{written, Cut}
use Rattle.lrs_journal.specs.Steps.{KeepsUpTo, IsUnlocking, IsLaid, AtRest, IsBlank, IsShort, IsShut}
use Rattle.lrs_journal.specs.Builder.{shut_store, IsBuilt}
use Rattle.lrs_journal.specs.Store.{magic, header_in, store, body, HasHeaderIn, HasNoHeader}
use Rattle.lrs_journal.specs.Create.{IsStore, IsOpenTo, IsMade}
use Rattle.lrs_journal.specs.declared.sizes.Format.{Format}
use Rattle.lrs_journal.specs.declared.sizes.Format.TheVariants as format
use Rattle.lrs_journal.specs.declared.sizes.TheConstants.{LEAST_BYTES, MOST_BYTES, HEADER}
use Rattle.lrs_journal.proofs.Doubt.{placed_push, store-push}
use Rattle.lrs_journal.proofs.Lists.{at_end}

shorter : (d c : List ℕ) → take (length c) d ≡ c → length c ≤ length d
shorter d c front = omega (arith, ap length front, length-take (length c) d)

pub cut_blank : (d c : List ℕ) → IsBlank d → Cut 1 d c → IsBlank c
cut_blank [] c blank cut = inl (let le = shorter [] c cut.front in omega (arith, le))
cut_blank (a ∷ d) [] blank cut = inl (omega arith)
cut_blank (a ∷ d) (b ∷ c) (inl short) cut = inl (omega (arith, ap length cut.front, length-take (length (b ∷ c)) (a ∷ d)))
cut_blank (a ∷ d) (b ∷ c) (inr shut) cut = inr (λ one. shut (ap (λ (l : List ℕ). get_or l 0 0) cut.front ∙ one))

-- one byte that may be another
pub gate_short : (d c : List ℕ) → IsShort d → drop 1 c ≡ drop 1 d → IsShort c
gate_short d c short same = omega (arith, short, ap length same, length-drop 1 c, length-drop 1 d)

pub short_blanked : (d c : List ℕ) → IsShort d → c ≡ written d 0 (0 ∷ []) → c ≡ 0 ∷ []
short_blanked d c short is = is ∙ ap (λ (l : List ℕ). 0 ∷ l) (drop_all 1 d short)

pub behind_shut : (at : ℕ) (old : List ℕ → Type 0) (c : List ℕ) → 1 ≤ at → ((d : List ℕ) → old d → IsShut d) → KeepsUpTo at old c → IsShut c
behind_shut at old c le shut behind = sym (take-take 1 at c le) ∙ ap (λ (l : List ℕ). take 1 l) behind.2 ∙ take-take 1 at behind.0 le ∙ shut behind.0 behind.1

-- a header is open and has more than one byte
pub blank_none : (c : List ℕ) → IsBlank c → HasNoHeader c
blank_none c (inl short) = λ f limit h. absurd (omega (arith, short, ap length h.split, length-append (header_in f limit) h.rest))
blank_none c (inr shut) = λ f limit h. shut (ap (λ (l : List ℕ). get_or l 0 0) h.split)

pub shut_none : (c : List ℕ) → IsShut c → HasNoHeader c
shut_none [] shut = absurd (cc shut)
shut_none (a ∷ c) shut = λ f limit h. let zero_first : a ≡ 0 = ap (λ (l : List ℕ). get_or l 0 7) shut in let one_first : a ≡ 1 = ap (λ (l : List ℕ). get_or l 0 7) h.split in absurd (omega arith)

-- a header is that of a store
pub header_store : (bytes : List ℕ) (f : Format) (limit : ℕ) → HasHeaderIn f bytes limit → IsStore bytes
header_store bytes f limit h = ap (λ (l : List ℕ). take 8 l) h.split

pub no_store_none : (c : List ℕ) → (IsStore c → ⊥) → HasNoHeader c
no_store_none c none = λ f limit h. none (header_store c f limit h)

pub none_made : (limit : ℕ) (first c : List ℕ) → HasNoHeader c → IsMade limit first c
none_made limit first c none = inl none

-- a disk on which a store may be made
pub open_blank : (b : List ℕ) → IsOpenTo b → IsBlank b
open_blank [] free = inl (omega arith)
open_blank (a ∷ []) free = inl (omega arith)
open_blank (a ∷ n ∷ b) free = elim (cases_eq a 1) [
  | inr shut ↦ inr shut
  | inl is_open ↦ absurd (free.1 (omega arith, λ zero_first. absurd (omega (arith, is_open, zero_first)), λ named. free.0 (ap (λ (l : List ℕ). a ∷ l) named ∙ ap (λ (x : ℕ). x ∷ magic) is_open)))
]

-- a store whose first bytes were looked at
pub looked_store : (x head : List ℕ) → head ≡ take 8 x → IsStore x → IsStore head
looked_store x head is store = ap (λ (l : List ℕ). take 8 l) is ∙ take-take 8 8 x (omega arith) ∙ store

-- ---- a store whose header is shut

pub laid_none : (limit : ℕ) (b : List ℕ) → LEAST_BYTES ≤ limit → limit ≤ MOST_BYTES → b ≡ shut_store limit [] → IsLaid b limit HEADER 0 []
laid_none limit b least most is = record { placed = record { least = least; most = most; sizes = tt; behind = refl }; counts = refl; is = is }

shut_length : (limit : ℕ) (ps : List (List ℕ)) → length (shut_store limit ps) ≡ length (store limit ps)
shut_length limit ps = refl

pub laid_length : (limit end number : ℕ) (ps : List (List ℕ)) (b : List ℕ) → IsLaid b limit end number ps → end ≡ length b
laid_length limit end number ps b laid = laid.placed.behind ∙ sym (shut_length limit ps) ∙ sym (ap length laid.is)

-- one frame more
pub laid_push : (limit end number : ℕ) (ps : List (List ℕ)) (p b c : List ℕ) → IsLaid b limit end number ps → length p < 2 ^ 32 → c ≡ b ++ 1 ∷ body number p → IsLaid c limit (end + (13 + length p)) (number + 1) (ps ++ p ∷ [])
laid_push limit end number ps p b c laid small is = record {
  placed = placed_push limit end (length p) ps p laid.placed refl small;
  counts = omega (arith, laid.counts, length-append ps (p ∷ []));
  is = is ∙ ap (λ (n : ℕ). b ++ 1 ∷ body n p) laid.counts ∙ ap (λ (l : List ℕ). l ++ 1 ∷ body (length ps) p) laid.is ∙ ap (λ (l : List ℕ). 0 ∷ drop 1 l) (sym (store-push format.Two limit ps p));
}

-- the end gate, after which the header's is opened
closed_laid : (limit end number : ℕ) (ps : List (List ℕ)) (b : List ℕ) → IsLaid b limit end number ps → written b end (0 ∷ []) ≡ shut_store limit ps ++ 0 ∷ []
closed_laid limit end number ps b laid = at_end b end (0 ∷ []) (laid_length limit end number ps b laid) ∙ ap (λ (l : List ℕ). l ++ 0 ∷ []) laid.is

pub unlocked_rests : (limit end number : ℕ) (ps : List (List ℕ)) (b c : List ℕ) → IsLaid b limit end number ps → c ≡ written (written b end (0 ∷ [])) 0 (1 ∷ []) → AtRest limit ps c
unlocked_rests limit end number ps b c laid is = ([], is ∙ ap (λ (l : List ℕ). written l 0 (1 ∷ [])) (closed_laid limit end number ps b laid))

pub gate_built : (limit end number : ℕ) (ps : List (List ℕ)) (b c : List ℕ) → IsLaid b limit end number ps → drop 1 c ≡ drop 1 (written b end (0 ∷ [])) → IsBuilt limit ps c
gate_built limit end number ps b [] laid same = absurd (cc (same ∙ ap (λ (l : List ℕ). drop 1 l) (closed_laid limit end number ps b laid)))
gate_built limit end number ps b (g ∷ c) laid same = elim (cases_eq g 1) [
  | inl is_open ↦ inr (record {
    least = laid.placed.least;
    most = laid.placed.most;
    sizes = laid.placed.sizes;
    rest = 0 ∷ [];
    split = ap (λ (x : ℕ). x ∷ c) is_open ∙ ap (λ (l : List ℕ). 1 ∷ l) (same ∙ ap (λ (l : List ℕ). drop 1 l) (closed_laid limit end number ps b laid));
    ends = tt;
  })
  | inr shut ↦ inl (blank_none (g ∷ c) (inr shut))
]

-- each image while the header's gate is opened
pub unlocking_built : (limit end number : ℕ) (ps : List (List ℕ)) (given old : List ℕ → Type 0) (c : List ℕ) → 1 ≤ end → ((b : List ℕ) → given b → IsLaid b limit end number ps)
    → ((d : List ℕ) → old d → IsShut d) → IsUnlocking end given old c → IsBuilt limit ps c
unlocking_built limit end number ps given old c some laid shut (inl at) = inl (shut_none c (behind_shut end old c some shut (at.0, at.1, at.2)))
unlocking_built limit end number ps given old c some laid shut (inr opened) = gate_built limit end number ps opened.0 c (laid opened.0 opened.1) opened.2
