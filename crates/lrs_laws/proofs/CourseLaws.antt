-- What an entry does to courses and to their editions: it leaves them as they are, or a new edition comes.
use Rattle.std.proofs.Common.{◌≡◌, ◌⊎◌, inl, inr, ℕ, List, ◌∷◌, [], true, Option, Some, None, refl, ap, ◌∙◌}
use Rattle.std.specs.Prelude.{option_and_then, position, slice_get}
use Rattle.cmi5_course.specs.Courses.{course_key, course_of}
use Rattle.lrs_history.specs.DeskEffects.{coming, next_number, same_newest, taking_as, with_one_more}
use Rattle.lrs_history.specs.Effects.{effect_of}
use Rattle.lrs_history.specs.Launches.{target}
use Rattle.lrs_history.specs.Occasions.{Occasion}
use Rattle.lrs_json.specs.declared.tree.Tree.{Tree}
use Rattle.lrs_laws.proofs.DeskKinds.{of_ending, of_enrolment, of_fetch, of_launch, of_waiver}
use Rattle.lrs_laws.proofs.Lists.{item_still}
use Rattle.lrs_laws.proofs.WholeBatches.{there}
use Rattle.lrs_laws.specs.Editions.{course_in}
use Rattle.lrs_state.specs.Courses.{course_under, index_meant, newest_edition, unchanged_courses}
use Rattle.lrs_state.specs.Editions.{SeenEdition, editions_after, is_edition_of, unchanged_editions}
use Rattle.lrs_state.specs.Launches.{key_under, index_of_session}
use Rattle.lrs_state.specs.State.{State, changes_nothing}
use Rattle.lrs_state.specs.declared.courses.HeldCourse.{HeldCourse}
use Rattle.lrs_state.specs.declared.effect.Effect.{Effect}
use Rattle.lrs_record.specs.declared.entry.Write.{Write}
use Rattle.lrs_record.specs.declared.entry.Write.TheVariants.{Enrol, Fetch, Waive, Abandon}
use Rattle.lrs_record.specs.declared.entry.Write.TheVariants as write

-- the edition that a course becomes
abbrev pub edition_up : State → Tree → SeenEdition
edition_up st tree = record { course = course_of tree; number = next_number (course_under (course_key (course_of tree)) st.courses) }

-- a course becomes an edition
pub record TakesUp (st : State) (w : Write) (x : Effect) : Type 0 where
  pub tree : Tree
  pub write : w ≡ write.Course tree
  pub editions : x.editions ≡ coming (edition_up st tree)
  pub courses : x.courses ≡ with_one_more (course_key (course_of tree)) (course_under (course_key (course_of tree)) st.courses)

-- None does: the write brings no course, or nothing changes.
pub record Leaves (w : Write) (x : Effect) : Type 0 where
  pub editions : x.editions ≡ unchanged_editions
  pub courses : x.courses ≡ unchanged_courses
  pub why : (course_in w ≡ None) ⊎ (changes_nothing x ≡ true)

abbrev pub MovesCourses : State → Write → Effect → Type 0
MovesCourses st w x = Leaves w x ⊎ TakesUp st w x

moves_course : (st : State) (moment : ℕ) (tree : Tree) (o : Option SeenEdition)
    → MovesCourses st (write.Course tree) (taking_as moment (course_of tree) (course_under (course_key (course_of tree)) st.courses) o)
moves_course st moment tree None = inr (record { tree = tree; write = refl; editions = refl; courses = refl })
moves_course st moment tree (Some same) = inl (record { editions = refl; courses = refl; why = inr refl })

pub moves_courses : (st : State) (at : Occasion) (w : Write) → MovesCourses st w (effect_of st at w)
moves_courses st at (write.Course tree) =
    moves_course st at.moment tree (same_newest (course_of tree) (newest_edition (course_key (course_of tree)) st.courses st.editions))
moves_courses st at (Enrol course actor edition) =
    inl (of_enrolment (Leaves (Enrol course actor edition)) st at (record { editions = refl; courses = refl; why = inl refl }) actor (index_meant course edition st.courses st.editions)
    (λ k. record { editions = refl; courses = refl; why = inl refl }))
moves_courses st at (write.Launch registration unit mode return_url) =
    inl (of_launch (Leaves (write.Launch registration unit mode return_url)) st at (record { editions = refl; courses = refl; why = inl refl }) mode return_url (target st registration unit)
    (λ t. record { editions = refl; courses = refl; why = inl refl }))
moves_courses st at (Fetch name) =
    inl (of_fetch (Leaves (Fetch name)) st at (record { editions = refl; courses = refl; why = inl refl }) (key_under name st.keys) (λ told. record { editions = refl; courses = refl; why = inl refl })
    (λ key is unused still. record { editions = refl; courses = refl; why = inl refl }))
moves_courses st at (Waive registration unit reason) =
    inl (of_waiver (Leaves (Waive registration unit reason)) st at (record { editions = refl; courses = refl; why = inl refl }) reason (target st registration unit)
    (λ t is. record { editions = refl; courses = refl; why = inl refl }))
moves_courses st at (Abandon session) =
    inl (of_ending (Leaves (Abandon session)) st at (record { editions = refl; courses = refl; why = inl refl }) (index_of_session session st.launches)
    (λ numbers. record { editions = refl; courses = refl; why = inl refl }))
moves_courses st at other = inl (record { editions = refl; courses = refl; why = inl refl })

-- ---- editions that are there

-- the edition that is meant stands at its index
pub meant_there : (st : State) (course : List ℕ) (named : Option ℕ) (k : ℕ) → index_meant course named st.courses st.editions ≡ Some k → (e : SeenEdition) × (slice_get st.editions k ≡ Some e)
meant_there st course (Some number) k is = there (is_edition_of course number) st.editions k is
meant_there st course None k is = by_course (course_under course st.courses) is
  where
    by_course : (o : Option HeldCourse) → option_and_then (λ (held : HeldCourse). position (is_edition_of course held.editions) st.editions) o ≡ Some k
        → (e : SeenEdition) × (slice_get st.editions k ≡ Some e)
    by_course None at = cc at
    by_course (Some held) at = there (is_edition_of course held.editions) st.editions k at

-- An edition stays as it is.
pub edition_still : (st : State) (w : Write) (x : Effect) → MovesCourses st w x → (k : ℕ) (e : SeenEdition) → slice_get st.editions k ≡ Some e → slice_get (editions_after st.editions x.editions) k ≡ Some e
edition_still st w x (inl leaves) k e is = ap (λ change. slice_get (editions_after st.editions change) k) leaves.editions ∙ is
edition_still st w x (inr takes) k e is =
    ap (λ change. slice_get (editions_after st.editions change) k) takes.editions ∙ item_still st.editions (edition_up st takes.tree ∷ []) k e is
