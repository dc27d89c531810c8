-- What was legal before there were editions is legal now: no course had a second edition, so the newest was the only one.
use Rattle.std.proofs.Common.{◌≡◌, inl, inr, ◌≤◌, ◌==◌, ◌&&◌, ◌+◌, ℕ, List, [], ◌∷◌, ◌++◌, length, Bool, true, false, Option, Some, None, cond, refl, sym, ap, subst, ◌∙◌, arith}
use Rattle.std.specs.Prelude.{is_none, max, nat_le, option_and_then, option_map}
use Rattle.std.specs.List.{AllByRecursion, position_from}
use Rattle.std.specs.Option.{option_or}
use Rattle.std.specs.Str.{bytes_eq}
use Rattle.std.specs.Cmp.{second_so}
use Rattle.std.proofs.lemmas.Bool.{false≢true, le-leb, true≢false}
use Rattle.std.proofs.lemmas.Bool.Decides.{nat_tests}
use Rattle.std.proofs.lemmas.Iterator.Adapters.{position_from-zero}
use Rattle.std.proofs.lemmas.List.Folds.{find-append}
use Rattle.cmi5_course.specs.Courses.{Course, course_key, course_of}
use Rattle.lrs_history.proofs.Room.{room_is}
use Rattle.lrs_history.specs.Answers.{write_said}
use Rattle.lrs_history.specs.DeskEffects.{enrolling, next_number, same_newest, taking, taking_as, with_one_more}
use Rattle.lrs_history.specs.Effects.{effect, effect_of}
use Rattle.lrs_history.specs.History.{Answer, answer_of, end_offset, founds, is_operator, is_zero, need, next_entry, outcome_by, refused, said_at_once, state, ComesNext, HasRoomFrom, IsLegalFrom, MayComeAfter, MayComeFrom, may_come}
use Rattle.lrs_history.specs.LrsTimeMoments.{clamped}
use Rattle.lrs_history.specs.Occasions.{Occasion, occasion}
use Rattle.lrs_history.specs.Refusals.{bad_form, barred, barred_document, conflict, missing, refusal, refusal_at, refused_actor, unless_there, unmergeable}
use Rattle.lrs_ids.specs.Choices.{when}
use Rattle.lrs_json.specs.declared.tree.Tree.{Tree}
use Rattle.lrs_laws.proofs.Again.{last_reason, no_reason}
use Rattle.lrs_laws.proofs.CourseLaws.{MovesCourses, edition_up, moves_courses}
use Rattle.lrs_laws.proofs.EditionLists.{no_index, same_key}
use Rattle.lrs_laws.proofs.Launched.{after_one}
use Rattle.lrs_laws.proofs.Lists.{each_push}
use Rattle.lrs_laws.specs.Former.{CameNext, FormerHistoriesAreLegal, FormerHistoriesAreMovable, WasAccepted, WasLegalFrom, former_conflict, former_course, former_effect, former_effect_of, former_index, former_refusal, former_refusal_at, former_state, former_state_from, former_taking_beside, names_no_edition}
use Rattle.lrs_record.specs.Writes.{write_area}
use Rattle.lrs_record.specs.declared.entry.Entry.{Entry}
use Rattle.lrs_record.specs.declared.entry.Write.{Write}
use Rattle.lrs_record.specs.declared.entry.Write.TheVariants.{Enrol, Found}
use Rattle.lrs_record.specs.declared.entry.Write.TheVariants as write
use Rattle.lrs_replies.specs.declared.answered.Answered.{Answered}
use Rattle.lrs_state.specs.Courses.{course_under, courses_after, index_meant, newest_edition}
use Rattle.lrs_state.specs.Editions.{SeenEdition, edition_under, editions_after, index_of_edition, is_edition_of}
use Rattle.lrs_state.specs.State.{State, apply, changes_nothing, nothing}
use Rattle.lrs_state.specs.declared.courses.HeldCourse.{HeldCourse}
use Rattle.lrs_state.specs.declared.effect.Effect.{Effect}

-- ---- courses with one edition each

abbrev IsFirst : SeenEdition → Type 0
IsFirst e = e.number ≡ 1

abbrev alone : List ℕ → HeldCourse
alone id = record { id = id; editions = 1 }

abbrev one_of : List ℕ → Option SeenEdition → Option HeldCourse
one_of id o = option_map (λ (e : SeenEdition). alone id) o

-- Each edition is the first of its id, and each id of one has its course.
record AreSingle (es : List SeenEdition) (cs : List HeldCourse) : Type 0 where
  firsts : AllByRecursion IsFirst es
  counted : (id : List ℕ) → course_under id cs ≡ one_of id (former_course id es)

-- the first edition of an id is its only one
find_first : (id : List ℕ) (es : List SeenEdition) → AllByRecursion IsFirst es → edition_under id 1 es ≡ former_course id es
find_first id [] firsts = refl
find_first id (e ∷ es) firsts =
    ap (λ n. cond ((n == 1) && bytes_eq (course_key e.course) id) (Some e) (edition_under id 1 es)) firsts.0
    ∙ ap (λ o. cond (bytes_eq (course_key e.course) id) (Some e) o) (find_first id es firsts.1)

index_from : (id : List ℕ) (i : ℕ) (es : List SeenEdition) → AllByRecursion IsFirst es
    → position_from (is_edition_of id 1) i es ≡ position_from (λ (e : SeenEdition). bytes_eq (course_key e.course) id) i es
index_from id i [] firsts = refl
index_from id i (e ∷ es) firsts =
    ap (λ n. cond ((n == 1) && bytes_eq (course_key e.course) id) (Some i) (position_from (is_edition_of id 1) (i + 1) es)) firsts.0
    ∙ ap (λ o. cond (bytes_eq (course_key e.course) id) (Some i) o) (index_from id (i + 1) es firsts.1)

index_first : (id : List ℕ) (es : List SeenEdition) → AllByRecursion IsFirst es → index_of_edition id 1 es ≡ former_index id es
index_first id es firsts =
    position_from-zero (is_edition_of id 1) es ∙ (index_from id 0 es firsts ∙ sym (position_from-zero (λ (e : SeenEdition). bytes_eq (course_key e.course) id) es))

-- the newest is the one that there is
newest_single : (id : List ℕ) (es : List SeenEdition) (cs : List HeldCourse) → AreSingle es cs → newest_edition id cs es ≡ former_course id es
newest_single id es cs single =
    ap (λ o. option_and_then (λ (held : HeldCourse). edition_under id held.editions es) o) (single.counted id) ∙ by_former (former_course id es) refl
  where
    by_former : (o : Option SeenEdition) → former_course id es ≡ o → option_and_then (λ (held : HeldCourse). edition_under id held.editions es) (one_of id o) ≡ o
    by_former None is = refl
    by_former (Some e) is = find_first id es single.firsts ∙ is

meant_single : (id : List ℕ) (es : List SeenEdition) (cs : List HeldCourse) → AreSingle es cs → index_meant id None cs es ≡ former_index id es
meant_single id es cs single =
    ap (λ o. option_and_then (λ (held : HeldCourse). index_of_edition id held.editions es) o) (single.counted id) ∙ by_former (former_course id es) refl
  where
    by_former : (o : Option SeenEdition) → former_course id es ≡ o → option_and_then (λ (held : HeldCourse). index_of_edition id held.editions es) (one_of id o) ≡ former_index id es
    by_former None is = sym (no_index (λ (e : SeenEdition). bytes_eq (course_key e.course) id) es is)
    by_former (Some e) is = index_first id es single.firsts

-- one more whose id is new
single_still : (es : List SeenEdition) (cs : List HeldCourse) (course : Course) → former_course (course_key course) es ≡ None → AreSingle es cs
    → AreSingle (es ++ record { course = course; number = 1 } ∷ []) (cs ++ alone (course_key course) ∷ [])
single_still es cs course new single = record {
  firsts = each_push IsFirst es (record { course = course; number = 1 }) single.firsts refl;
  counted = λ id.
      find-append (λ (c : HeldCourse). bytes_eq c.id id) cs (more ∷ [])
      ∙ (ap (λ o. option_or o (cond (bytes_eq (course_key course) id) (Some more) None)) (single.counted id)
      ∙ (by_former id (bytes_eq (course_key course) id) refl (former_course id es)
      ∙ sym (ap (one_of id) (find-append (λ (e : SeenEdition). bytes_eq (course_key e.course) id) es (first ∷ [])))));
}
  where
    more : HeldCourse
    more = alone (course_key course)

    first : SeenEdition
    first = record { course = course; number = 1 }

    by_former : (id : List ℕ) (b : Bool) → bytes_eq (course_key course) id ≡ b → (o : Option SeenEdition)
        → option_or (one_of id o) (cond b (Some more) None) ≡ one_of id (option_or o (cond b (Some first) None))
    by_former id true is None = ap (λ (k : List ℕ). Some (alone k)) (same_key (course_key course) id is)
    by_former id true is (Some e) = refl
    by_former id false is None = refl
    by_former id false is (Some e) = refl

-- ---- one entry

-- It changed what it changes now, if it changed anything.
same_effect : (st : State) (at : Occasion) (w : Write) → AreSingle st.editions st.courses → names_no_edition w ≡ true → changes_nothing (former_effect_of st at w) ≡ false
    → former_effect_of st at w ≡ effect_of st at w
same_effect st at (write.Course tree) single plain some = by_former (former_course id st.editions) refl some
  where
    course : Course
    course = course_of tree

    id : List ℕ
    id = course_key course

    by_former : (o : Option SeenEdition) → former_course id st.editions ≡ o → changes_nothing (former_taking_beside at.moment course o) ≡ false
        → former_taking_beside at.moment course o ≡ taking st at.moment course
    by_former None is some =
        let unheld : course_under id st.courses ≡ None = single.counted id ∙ ap (one_of id) is in
        let none : newest_edition id st.courses st.editions ≡ None = newest_single id st.editions st.courses single ∙ is in
        sym (ap (λ h. taking_as at.moment course h (same_newest course (newest_edition id st.courses st.editions))) unheld ∙ ap (λ n. taking_as at.moment course None (same_newest course n)) none)
    by_former (Some held) is some = absurd (true≢false some)
same_effect st at (Enrol course actor None) single plain some = ap (λ o. enrolling st at actor o) (sym (meant_single course st.editions st.courses single))
same_effect st at (Enrol course actor (Some n)) single plain some = absurd (false≢true plain)
same_effect st at other single plain some = refl

-- What wasn't refused isn't.
unrefused : (st : State) (at : Occasion) (w : Write) → AreSingle st.editions st.courses → names_no_edition w ≡ true → former_refusal_at st at w ≡ None → refusal_at st at w ≡ None
unrefused st at (write.Course tree) single plain none =
    let w : Write = write.Course tree in
    let free = no_reason (barred (write_area w) at.by ∷ bad_form w ∷ barred_document st at.by w ∷ missing st w ∷ unmergeable st w ∷ former_conflict st at w ∷ []) none in
    last_reason (barred (write_area w) at.by ∷ bad_form w ∷ barred_document st at.by w ∷ missing st w ∷ unmergeable st w ∷ []) None
    (free.0, (free.1.0, (free.1.1.0, (free.1.1.1.0, (free.1.1.1.1.0, tt)))))
unrefused st at (Enrol course actor None) single plain none =
    let w : Write = Enrol course actor None in
    let free = no_reason (barred (write_area w) at.by ∷ refused_actor actor ∷ barred_document st at.by w ∷ unless_there (former_index course st.editions) ∷ unmergeable st w ∷ conflict st at w ∷ []) none in
    last_reason (barred (write_area w) at.by ∷ bad_form w ∷ barred_document st at.by w ∷ missing st w ∷ unmergeable st w ∷ []) None (
      free.0,
      (
        ap (λ o. option_or o None) free.1.0,
        (free.1.1.0, (ap unless_there (meant_single course st.editions st.courses single) ∙ free.1.1.1.0, (free.1.1.1.1.0, tt))),
      ),
    )
unrefused st at (Enrol course actor (Some n)) single plain none = absurd (false≢true plain)
unrefused st at other single plain none = none

-- Each id has one edition still.
single_after : (st : State) (at : Occasion) (w : Write) → AreSingle st.editions st.courses → changes_nothing (former_effect_of st at w) ≡ false
    → AreSingle (editions_after st.editions (effect_of st at w).editions) (courses_after st.courses (effect_of st at w).courses)
single_after st at w single some = by_kind (moves_courses st at w)
  where
    x : Effect
    x = effect_of st at w

    by_former : (tree : Tree) (o : Option SeenEdition) → former_course (course_key (course_of tree)) st.editions ≡ o → changes_nothing (former_taking_beside at.moment (course_of tree) o) ≡ false
        → former_course (course_key (course_of tree)) st.editions ≡ None
    by_former tree None is some = is
    by_former tree (Some held) is some = absurd (true≢false some)

    by_kind : MovesCourses st w x → AreSingle (editions_after st.editions x.editions) (courses_after st.courses x.courses)
    by_kind (inl leaves) =
        subst (λ c. AreSingle (editions_after st.editions c) (courses_after st.courses x.courses)) (sym leaves.editions)
        (subst (λ c. AreSingle st.editions (courses_after st.courses c)) (sym leaves.courses) single)
    by_kind (inr takes) =
        let course : Course = course_of takes.tree in
        let id : List ℕ = course_key course in
        let new : former_course id st.editions ≡ None =
        by_former takes.tree (former_course id st.editions) refl (sym (ap (λ v. changes_nothing (former_effect_of st at v)) takes.write) ∙ some) in
        let unheld : course_under id st.courses ≡ None = single.counted id ∙ ap (one_of id) new in
        subst (λ c. AreSingle (editions_after st.editions c) (courses_after st.courses x.courses)) (sym takes.editions)
        (subst (λ c. AreSingle (st.editions ++ edition_up st takes.tree ∷ []) (courses_after st.courses c)) (sym takes.courses)
        (subst (λ (o : Option HeldCourse). AreSingle (st.editions ++ record { course = course; number = next_number o } ∷ []) (courses_after st.courses (with_one_more id o))) (sym unheld)
        (single_still st.editions st.courses course new single)))

-- ---- histories

former_from-append : (st : State) (h more : List Entry) → former_state_from st (h ++ more) ≡ former_state_from (former_state_from st h) more
former_from-append st [] more = refl
former_from-append st (e ∷ h) more = former_from-append (apply st (former_effect st e)) h more

founding_changes : (st : State) (at : Occasion) (w : Write) → founds w ≡ true → changes_nothing (former_effect_of st at w) ≡ false
founding_changes st at (Found admin base) is = refl
founding_changes st at other is = absurd (cc is)

-- an entry that came next changed something
changed : (h : List Entry) (e : Entry) → former_state h ≡ state h → CameNext h e → changes_nothing (former_effect (state h) e) ≡ false
changed [] e same next = founding_changes nothing (occasion nothing e) e.write (second_so (is_operator e.caller && is_zero e.draw) (founds e.write) next)
changed (first ∷ more) e same next = subst (λ st. changes_nothing (former_effect st e) ≡ false) same next.changes

-- What came next is said nothing at once now, and is its own entry.
record IsAccepted (h : List Entry) (e : Entry) : Type 0 where
  own : next_entry (state h) e.caller e.write e.moment e.draw ≡ e
  at_once : said_at_once (state h) e ≡ None

accepted_now : (h : List Entry) (e : Entry) → former_state h ≡ state h → AreSingle (state h).editions (state h).courses → names_no_edition e.write ≡ true → WasAccepted h e → IsAccepted h e
accepted_now h e same single plain was =
    let st : State = state h in
    let some : changes_nothing (former_effect st e) ≡ false = subst (λ s. changes_nothing (former_effect s e) ≡ false) same was.changes in
    let free : refusal st e ≡ None = unrefused st (occasion st e) e.write single plain (subst (λ s. former_refusal s e ≡ None) same was.free) in
    let changes : changes_nothing (effect st e) ≡ false = sym (ap changes_nothing (same_effect st (occasion st e) e.write single plain some)) ∙ some in
    record {
      own = sym (subst (λ (s : State). e ≡ next_entry s e.caller e.write e.moment e.draw) same was.own);
      at_once =
          ap (λ o. option_or (option_map refused o) (when (changes_nothing (effect st e)) (write_said (effect st e)))) free
          ∙ ap (λ b. when b (write_said (effect st e))) changes;
    }

-- It comes next now.
comes : (limit : ℕ) (h : List Entry) (e : Entry) → former_state h ≡ state h → AreSingle (state h).editions (state h).courses → names_no_edition e.write ≡ true → CameNext h e
    → need (end_offset limit h) e ≤ limit → ComesNext limit h e
comes limit [] e same single plain next fits = next
comes limit (first ∷ more) e same single plain next fits =
    let h : List Entry = first ∷ more in
    let st : State = state h in
    let now = accepted_now h e same single plain next in
    let said : Answered = write_said (effect st e) in
    ap (λ (x : Entry). (answer_of limit (end_offset limit h) (outcome_by (said_at_once st x) x (write_said (effect st x)))).entry) now.own
    ∙ (ap (λ o. (answer_of limit (end_offset limit h) (outcome_by o e said)).entry) now.at_once
    ∙ ap (λ (a : Answer). a.entry) (room_is limit (end_offset limit h) said e fits))

not_before : (last : ℕ) (e : Entry) (now : Entry) → now ≡ e → last ≤ now.moment → nat_le last e.moment ≡ true
not_before last e now same later = subst (λ (x : Entry). nat_le last x.moment ≡ true) same (le-leb last now.moment later)

at_least : (a b : ℕ) → b ≤ max a b
at_least a b = omega arith

-- It may come, whatever room there is.
may : (h : List Entry) (e : Entry) → former_state h ≡ state h → AreSingle (state h).editions (state h).courses → names_no_edition e.write ≡ true → CameNext h e → MayComeAfter h e
may [] e same single plain next = next
may (first ∷ more) e same single plain next =
    let h : List Entry = first ∷ more in
    let st : State = state h in
    let now = accepted_now h e same single plain next in
    let later : st.last ≤ max (clamped e.moment) st.last = at_least (clamped e.moment) st.last in
    ap (λ b. may_come b st e) (longer more)
    ∙ (ap (λ o. is_none o && nat_le st.last e.moment) now.at_once ∙ not_before st.last e (next_entry st e.caller e.write e.moment e.draw) now.own later)
  where
    longer : (more : List Entry) → (length (first ∷ more) == 0) ≡ false
    longer more = grind (arith, nat_tests)

-- What is known behind an entry.
record IsSame (h : List Entry) : Type 0 where
  same : former_state h ≡ state h
  single : AreSingle (state h).editions (state h).courses

same_behind : (h : List Entry) (e : Entry) → IsSame h → names_no_edition e.write ≡ true → CameNext h e → IsSame (h ++ e ∷ [])
same_behind h e known plain next = record {
  same =
      former_from-append nothing h (e ∷ [])
      ∙ (ap (λ s. apply s (former_effect s e)) known.same
      ∙ (ap (λ x. apply st x) (same_effect st (occasion st e) e.write known.single plain some) ∙ sym (after_one h e)));
  single = subst (λ (su : State). AreSingle su.editions su.courses) (sym (after_one h e)) (single_after st (occasion st e) e.write known.single some);
}
  where
    st : State
    st = state h

    some : changes_nothing (former_effect st e) ≡ false
    some = changed h e known.same next

walk : (limit : ℕ) (before entries : List Entry) → IsSame before → WasLegalFrom before entries → HasRoomFrom limit before entries → IsLegalFrom limit before entries
walk limit before [] known legal room = tt
walk limit before (e ∷ entries) known legal room = (
  legal.0,
  comes limit before e known.same known.single legal.1 legal.2 room.0,
  walk limit (before ++ e ∷ []) entries (same_behind before e known legal.1 legal.2) legal.3 room.1,
)

may_walk : (before entries : List Entry) → IsSame before → WasLegalFrom before entries → MayComeFrom before entries
may_walk before [] known legal = tt
may_walk before (e ∷ entries) known legal = (
  legal.0,
  may before e known.same known.single legal.1 legal.2,
  may_walk (before ++ e ∷ []) entries (same_behind before e known legal.1 legal.2) legal.3,
)

none_yet : IsSame []
none_yet = record { same = refl; single = record { firsts = tt; counted = λ id. refl } }

pub former_histories_are_legal : FormerHistoriesAreLegal
former_histories_are_legal limit h legal room = (legal.0, walk limit [] h none_yet legal.1 room)

pub former_histories_are_movable : FormerHistoriesAreMovable
former_histories_are_movable limit h legal room = (may_walk [] h none_yet legal.1, room)
