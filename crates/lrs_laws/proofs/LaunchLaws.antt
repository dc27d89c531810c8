-- A launch leaves its statement.
use Rattle.std.proofs.Common.{◌≡◌, ◌≢◌, ℕ, suc, ◌+◌, ◌<◌, List, [], ◌∷◌, ◌++◌, length, Bool, true, false, Option, Some, None, refl, sym, ap, subst, ◌∙◌, arith}
use Rattle.std.specs.List.{AllByRecursion}
use Rattle.std.specs.Str.{bytes_eq}
use Rattle.std.specs.Cmp.Lexicographic.{same_text}
use Rattle.cmi5_course.specs.declared.launch.Mode.{Mode}
use Rattle.cmi5_launch.specs.Made.{launched_json}
use Rattle.lrs_history.specs.Effects.{effect, effect_of}
use Rattle.lrs_history.specs.Occasions.{Occasion, given_in, occasion, supply_in}
use Rattle.lrs_history.specs.DeskEffects.{launching}
use Rattle.lrs_history.specs.History.{state}
use Rattle.lrs_history.specs.Launches.{Target, activity_at, target}
use Rattle.lrs_history.specs.Made.{left_behind, made_under}
use Rattle.lrs_history.specs.Refusals.{bad_form, barred_document, barred, conflict, missing, unless_there, unmergeable}
use Rattle.lrs_ids.specs.Ids.{Supply, rest_of}
use Rattle.lrs_json.specs.Json.{Json}
use Rattle.lrs_json.specs.Trees.{tree_of}
use Rattle.lrs_laws.proofs.Accepting.{accepted}
use Rattle.lrs_laws.proofs.Again.{no_reason}
use Rattle.lrs_laws.proofs.Keepers.{held_one}
use Rattle.lrs_laws.proofs.Launched.{after_one}
use Rattle.lrs_laws.proofs.NewIds.{desk_ids_are_new}
use Rattle.lrs_laws.proofs.WholeBatches.{found_add, unheld_add}
use Rattle.lrs_laws.specs.Laws.{IsUnusedId}
use Rattle.lrs_laws.specs.Sessions.{LaunchesLeaveStatements, LeavesStatement, said_first}
use Rattle.lrs_names.specs.declared.id.TheConstants.{WORDS}
use Rattle.lrs_state.specs.State.{State, used_in}
use Rattle.lrs_record.specs.Writes.{write_area}
use Rattle.lrs_record.specs.declared.entry.Entry.{Entry}
use Rattle.lrs_record.specs.declared.entry.Write.TheVariants as write
use Rattle.xapi_format.specs.declared.authority.Authority.TheVariants.{Desk}
use Rattle.xapi_index.proofs.Adding.{add-old, add_each-append}
use Rattle.xapi_index.specs.Batches.{held_of}
use Rattle.xapi_statement.specs.Statements.{add, add_each, held_under, is_held}
use Rattle.xapi_statement.specs.Stored.{StoredStatement}

there : {A : Type 0} (o : Option A) → unless_there o ≡ None → (a : A) × (o ≡ Some a)
there None is = cc is
there (Some a) is = (a, refl)

-- ---- under another id

pub different : (a b : List ℕ) → a ≢ b → bytes_eq a b ≡ false
different a b other = by_test (bytes_eq a b) refl
  where
    by_test : (c : Bool) → bytes_eq a b ≡ c → c ≡ false
    by_test true is = absurd (other (same_text a b (sym is)))
    by_test false is = refl

-- where nothing is held under an id, nothing is when others come
pub unheld_each : (id : List ℕ) (held xs : List StoredStatement) → AllByRecursion (λ (x : StoredStatement). bytes_eq x.id id ≡ false) xs → is_held id held ≡ false → is_held id (add_each held xs) ≡ false
unheld_each id held [] others none = none
unheld_each id held (x ∷ xs) others none = unheld_each id (add held x) xs others.1 (by_held (is_held x.id held) refl)
  where
    by_held : (b : Bool) → is_held x.id held ≡ b → is_held id (add held x) ≡ false
    by_held true there = ap (λ l. is_held id l) (add-old held x there) ∙ none
    by_held false new = unheld_add held x id new others.0 none

others_made : (id : List ℕ) (supply : Supply) (moment : ℕ) (js : List Json) → ((j : ℕ) → j < length js → supply j ≢ id)
    → AllByRecursion (λ (x : StoredStatement). bytes_eq x.id id ≡ false) (made_under supply moment js)
others_made id supply moment [] apart = tt
others_made id supply moment (j ∷ js) apart =
    (different (supply 0) id (apart 0 (omega arith)), others_made id (rest_of supply) moment js (λ k less. apart (suc k) (omega (arith, less))))

-- what is left behind so many
behind_those : {A : Type 0} (supply : Supply) (xs : List A) (k : ℕ) → left_behind supply xs k ≡ supply (length xs + k)
behind_those supply [] k = let none : k ≡ 0 + k = omega arith in ap supply none
behind_those supply (x ∷ xs) k = behind_those (rest_of supply) xs k ∙ (let one : suc (length xs + k) ≡ suc (length xs) + k = omega arith in ap supply one)

-- ---- the law

room_behind : (count said : ℕ) → count + said + 2 < WORDS → count + (said + 1) + 1 < WORDS
room_behind count said small = omega (arith, small)

-- where the unit is that
leaves : (h : List Entry) (e : Entry) (registration unit : List ℕ) (mode : Mode) (return_url : Option (List ℕ)) (t : Target) → e.write ≡ write.Launch registration unit mode return_url
    → target (state h) registration unit ≡ Some t → (used_in (state h)).count + length (said_first (state h) t) + 2 < WORDS
    → LeavesStatement h e mode t (supply_in (state h) e.write e.draw (length (said_first (state h) t) + 1))
leaves h e registration unit mode return_url t launches found small = subst (LeavesStatement h e mode t) same (record { statement = s; made = refl; held = held })
  where
    st : State
    st = state h

    at : Occasion
    at = occasion st e

    supply : Supply
    supply = supply_in st e.write e.draw

    said : List Json
    said = said_first st t

    id : List ℕ
    id = left_behind (rest_of supply) said 0

    same : id ≡ supply (length said + 1)
    same = behind_those (rest_of supply) said 0 ∙ (let index : suc (length said + 0) ≡ length said + 1 = omega arith in ap supply index)

    s : StoredStatement
    s = held_of e.moment Desk (record { id = id; tree = tree_of (launched_json mode t.unit t.registration.actor (activity_at t) t.publisher t.registration.id (supply 0)) })

    made : List StoredStatement
    made = made_under (rest_of supply) e.moment said

    comes : (effect st e).statements ≡ made ++ s ∷ []
    comes = ap (λ w. (effect_of st at w).statements) launches ∙ ap (λ o. (launching st at mode return_url o).statements) found

    desk : IsUnusedId st (supply (length said + 1)) × ((j : ℕ) → j < length said + 1 → supply j ≢ supply (length said + 1))
    desk = desk_ids_are_new h e.write e.draw (length said + 1) (ap given_in launches) (room_behind (used_in st).count (length said) small)

    apart : (j : ℕ) → j < length said → rest_of supply j ≢ id
    apart j less alike = desk.1 (suc j) (omega (arith, less)) (alike ∙ same)

    first : is_held id st.statements ≡ false
    first = ap (λ i. is_held i st.statements) same ∙ (held_one (supply (length said + 1)) st.statements ∙ desk.0.statements)

    new : is_held id (add_each st.statements made) ≡ false
    new = unheld_each id st.statements made (others_made id (rest_of supply) e.moment said apart) first

    held : held_under id (state (h ++ e ∷ [])).statements ≡ Some s
    held =
        ap (λ (su : State). held_under id su.statements) (after_one h e)
        ∙ (ap (λ xs. held_under id (add_each st.statements xs)) comes
        ∙ (ap (λ l. held_under id l) (add_each-append st.statements made (s ∷ [])) ∙ found_add (add_each st.statements made) s new))

pub launches_leave_statements : LaunchesLeaveStatements
launches_leave_statements limit h e registration unit mode return_url is launches =
    let st : State = state h in
    let at : Occasion = occasion st e in
    let reasons = no_reason (barred (write_area e.write) at.by ∷ bad_form e.write ∷ barred_document st at.by e.write ∷ missing st e.write ∷ unmergeable st e.write ∷ conflict st at e.write ∷ []) (accepted limit h e is).free in
    let found = there (target st registration unit) (sym (ap (missing st) launches) ∙ reasons.1.1.1.0) in
    (found.0, found.1, λ small. leaves h e registration unit mode return_url found.0 launches found.1 small)
