-- Histories: one entry more, and at most one history for a list of frames.
use Rattle.std.proofs.Common.{◌≡◌, ℕ, List, [], ◌∷◌, ◌++◌, map, refl, sym, ap, subst, append_assoc, arith, length-append}
use Rattle.std.proofs.lemmas.List.{append-nil}
use Rattle.lrs_record.specs.declared.entry.Entry.{Entry}
use Rattle.lrs_record.specs.Entries.{IsLawful, written_entry}
use Rattle.lrs_record.proofs.Told.{written_entry_injective}
use Rattle.lrs_parts.specs.State.{State}
use Rattle.lrs_fold.specs.LrsHistoryHistory.{state_from, step, IsLegal, IsLegalFrom, ComesNext}

pub state_from-more : (st : State) (h : List Entry) (e : Entry) → state_from st (h ++ e ∷ []) ≡ step (state_from st h) e
state_from-more st [] e = refl
state_from-more st (x ∷ h) e = state_from-more (step st x) h e

pub map-more : {A B : Type 0} (f : A → B) (xs : List A) (x : A) → map f (xs ++ x ∷ []) ≡ map f xs ++ f x ∷ []
map-more f [] x = refl
map-more f (y ∷ xs) x = ap (λ t. f y ∷ t) (map-more f xs x)

pub legal-more : (limit : ℕ) (before h : List Entry) (e : Entry) → IsLegalFrom limit before h → IsLawful e → ComesNext limit (before ++ h) e → IsLegalFrom limit before (h ++ e ∷ [])
legal-more limit before [] e legal lawful next = (lawful, subst (λ k. ComesNext limit k e) (append-nil before) next, tt)
legal-more limit before (x ∷ h) e legal lawful next =
    (legal.0, legal.1, legal-more limit (before ++ x ∷ []) h e legal.2 lawful (subst (λ k. ComesNext limit k e) (sym (append_assoc before (x ∷ []) h)) next))

pub legal_with : (limit : ℕ) (h : List Entry) (e : Entry) → IsLegal limit h → IsLawful e → ComesNext limit h e → IsLegal limit (h ++ e ∷ [])
legal_with limit h e legal lawful next = (omega (arith, length-append h (e ∷ [])), legal-more limit [] h e legal.1 lawful next)

-- the written forms tell the history
pub one_history : (l m : ℕ) (b c h k : List Entry) → IsLegalFrom l b h → IsLegalFrom m c k → map written_entry h ≡ map written_entry k → h ≡ k
one_history l m b c [] [] p q is = refl
one_history l m b c [] (y ∷ k) p q is = cc is
one_history l m b c (x ∷ h) [] p q is = cc is
one_history l m b c (x ∷ h) (y ∷ k) p q is =
    let first : written_entry x ≡ written_entry y = cc is in
    let rest : map written_entry h ≡ map written_entry k = cc is in
    let here : x ≡ y = written_entry_injective x y p.0 q.0 first in
    let there : h ≡ k = one_history l m (b ++ x ∷ []) (c ++ y ∷ []) h k p.2 q.2 rest in
    cc (here, there)
