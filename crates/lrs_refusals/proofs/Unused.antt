-- A made id is that of no held statement, where there are more words than ids that are used or asked for.
use Rattle.std.proofs.Common.{◌≡◌, ℕ, ◌+◌, ◌%◌, ◌<◌, List, [], ◌∷◌, length, Bool, true, false, ◌||◌, Option, Some, None, refl, sym, ap, subst, ◌∙◌, arith}
use Rattle.lrs_made.specs.LrsHistoryOccasions.{supply_in}
use Rattle.lrs_ids.proofs.FreeWords.{Suffices, made_free, next_word, one_made}
use Rattle.lrs_ids.specs.Ids.{IsCounted, free_word, made_id, supply_of}
use Rattle.lrs_json.specs.View.{view}
use Rattle.lrs_json.specs.declared.tree.Tree.{Tree}
use Rattle.lrs_names.specs.Ids.{id_of_word}
use Rattle.lrs_names.specs.Members.{is_one_of}
use Rattle.lrs_names.specs.declared.draw.Draw.{Draw}
use Rattle.lrs_names.specs.declared.id.TheConstants.{WORDS}
use Rattle.lrs_made.specs.LrsStateLaunches.{session_ids}
use Rattle.lrs_made.specs.LrsStateRegistrations.{registration_ids}
use Rattle.lrs_made.specs.LrsStateSessions.{made_session_ids}
use Rattle.lrs_made.specs.LrsStateState.{State, used_in}
use Rattle.lrs_record.specs.declared.entry.Write.TheVariants.{Post}
use Rattle.lrs_refusals.proofs.Naming.{with_ids_again}
use Rattle.lrs_refusals.specs.Known.{AreTold, is_given_held}
use Rattle.lrs_refusals.specs.Naming.{with_these_ids}
use Rattle.xapi_index.proofs.Supplies.{used_held}
use Rattle.xapi_index.proofs.Unnamed.{count, given_missing, missing}
use Rattle.xapi_index.specs.Batches.{WithId, given_ids, id_for, ids_under, supply_behind, with_ids}
use Rattle.xapi_statement.specs.Statements.{ids_of, is_held}
use Rattle.xapi_statement.specs.Statement.{own_id}

left_false : (a b : Bool) → a || b ≡ false → a ≡ false
left_false true b is = is
left_false false b is = refl

-- an id that isn't used is that of no held statement
unheld : (st : State) (id : List ℕ) → (used_in st).is_used id ≡ false → is_held id st.statements ≡ false
unheld st id none =
    used_held st.statements id
    ∙ left_false (is_one_of (ids_of st.statements) id)
    (is_one_of (registration_ids st.registrations) id || (is_one_of (session_ids st.launches) id || is_one_of (made_session_ids st.made_sessions) id)) none

told_from : (st : State) → IsCounted (used_in st) → (ids : List (List ℕ)) (most word : ℕ) (ts : List Tree) → Suffices (used_in st) ids most (missing ts) → AreTold st (with_ids (made_id (used_in st) ids most word) ts)
told_from st counted ids most word [] fits = tt
told_from st counted ids most word (t ∷ ts) fits = (
  first (own_id (view t)) fits,
  by_own (own_id (view t)) fits (λ others more next fit. told_from st counted others more next ts fit),
)
  where
    first : (o : Option (List ℕ)) → Suffices (used_in st) ids most (count o (missing ts)) → is_given_held st o ≡ is_held (id_for (id_of_word (free_word (used_in st) ids most word)) o) st.statements
    first None fit = sym (unheld st (id_of_word (free_word (used_in st) ids most word)) (made_free (used_in st) counted ids most word (missing ts) fit).0)
    first (Some own) fit = refl

    by_own : (o : Option (List ℕ)) → Suffices (used_in st) ids most (count o (missing ts))
        → ((others : List (List ℕ)) (more after : ℕ) → Suffices (used_in st) others more (missing ts) → AreTold st (with_ids (made_id (used_in st) others more after) ts))
        → AreTold st (with_ids (supply_behind (made_id (used_in st) ids most word) o) ts)
    by_own None fit more =
        more (id_of_word (free_word (used_in st) ids most word) ∷ ids) (most + 1) (next_word (free_word (used_in st) ids most word))
        (one_made (used_in st) (id_of_word (free_word (used_in st) ids most word)) ids most (missing ts) fit)
    by_own (Some own) fit more = more ids most word fit

suffices_at_first : (st : State) (ts : List Tree) → (used_in st).count + length ts < WORDS → Suffices (used_in st) (given_ids ts) ((used_in st).count + length (given_ids ts)) (missing ts)
suffices_at_first st ts small = (omega arith, omega (arith, small, given_missing ts))

told_batch : (st : State) (name : ℕ) (ts : List Tree) → IsCounted (used_in st) → (used_in st).count + length ts < WORDS → AreTold st (with_ids (supply_of (used_in st) (given_ids ts) name) ts)
told_batch st name ts counted small =
    told_from st counted (given_ids ts) ((used_in st).count + length (given_ids ts)) (name % WORDS) ts (suffices_at_first st ts small)

-- the statements of a batch under their ids, of which there are so many beside those that are used
pub told_named : (st : State) (draw : Draw) (ts : List Tree) (ids : List (List ℕ)) → ids ≡ ids_under (with_ids (supply_in st (Post ts) draw) ts) → (n : ℕ) → n ≡ (used_in st).count + length ts → n < WORDS → IsCounted (used_in st)
    → AreTold st (with_these_ids ids ts)
told_named st draw ts ids named n is fewer counted =
    subst (λ (ns : List WithId). AreTold st ns) (sym (ap (λ (names : List (List ℕ)). with_these_ids names ts) named ∙ with_ids_again (supply_in st (Post ts) draw) ts))
    (told_batch st draw.name ts counted (subst (λ (m : ℕ). m < WORDS) is fewer))
