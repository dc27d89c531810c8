-- Made ids are new.
use Rattle.std.proofs.Common.{◌≡◌, ◌≢◌, ℕ, zero, suc, ◌+◌, ◌%◌, ◌<◌, List, [], ◌∷◌, ◌++◌, length, Bool, true, false, not, ◌||◌, Option, Some, None, refl, sym, ap, subst, ◌∙◌, arith, length-append, true≢false}
use Rattle.std.specs.List.{AllByRecursion}
use Rattle.std.specs.Str.{bytes_eq}
use Rattle.std.specs.Cmp.Lexicographic.{same_text}
use Rattle.std.specs.Cmp.{first_so, second_so}
use Rattle.std.proofs.lemmas.Bool.{and_from, false≢true, not-true, or_right}
use Rattle.std.proofs.lemmas.Cmp.{nat_list_eq_equiv}
use Rattle.std.proofs.lemmas.List.Folds.{list_any-append}
use Rattle.lrs_rules.specs.declared.rule.Rule.TheVariants as rule
use Rattle.lrs_history.specs.History.{state}
use Rattle.lrs_history.specs.Refusals.{broken, broken_in, is_too_large, refused_batch}
use Rattle.lrs_json.specs.View.{view}
use Rattle.lrs_json.specs.declared.tree.Tree.{Tree}
use Rattle.lrs_laws.specs.Laws.{DeskIdsAreNew, IsUnusedId, MadeIdsAreNew}
use Rattle.lrs_laws.proofs.Keepers.{held_one, left_false, right_false}
use Rattle.lrs_laws.proofs.Lists.{each_weaker}
use Rattle.lrs_names.specs.Ids.{id_of_word}
use Rattle.lrs_names.specs.Members.{is_one_of}
use Rattle.lrs_ids.proofs.FreeWords.{Suffices, made_free, next_word, one_made}
use Rattle.lrs_names.specs.declared.id.TheConstants.{WORDS}
use Rattle.lrs_state.specs.Launches.{session_ids}
use Rattle.lrs_state.specs.Registrations.{registration_ids}
use Rattle.lrs_state.specs.Sessions.{made_session_ids}
use Rattle.lrs_state.specs.State.{State, used_in}
use Rattle.lrs_replies.specs.declared.answered.Refusal.TheVariants.{Broken, TooLong}
use Rattle.xapi_index.proofs.Unnamed.{count, given_missing, missing}
use Rattle.xapi_index.specs.Batches.{WithId, given_ids, id_for, with_ids, ids_under, supply_behind, with_given}
use Rattle.lrs_ids.specs.Choices.{first_some, when}
use Rattle.lrs_ids.specs.Ids.{Supply, Used, IsCounted, are_distinct, free_word, made_id, supply_of}
use Rattle.xapi_statement.specs.Statements.{ids_of, is_held}
use Rattle.xapi_statement.specs.Statement.{own_id}

-- the ids under which statements go that come together
abbrev ids_from : Supply → List Tree → List (List ℕ)
ids_from supply ts = ids_under (with_ids supply ts)

pub differs : (ids : List (List ℕ)) (x q : List ℕ) → is_one_of ids x ≡ false → is_one_of ids q ≡ true → bytes_eq x q ≡ false
differs ids x q new used = by_test (bytes_eq x q) refl
  where
    by_test : (b : Bool) → bytes_eq x q ≡ b → b ≡ false
    by_test true is = absurd (false≢true (sym new ∙ (ap (λ i. is_one_of ids i) (same_text x q (sym is)) ∙ used)))
    by_test false is = refl

pub here : (x : List ℕ) (ids : List (List ℕ)) → is_one_of (x ∷ ids) x ≡ true
here x ids = ap (λ b. b || is_one_of ids x) (nat_list_eq_equiv.refl x)

-- what is among the ids and isn't given by one of them is none of theirs
elsewhere : (used : Used) → IsCounted used → (ids : List (List ℕ)) (most word : ℕ) (ts : List Tree) (q : List ℕ) → Suffices used ids most (missing ts)
    → is_one_of ids q ≡ true → is_one_of (given_ids ts) q ≡ false → is_one_of (ids_from (made_id used ids most word) ts) q ≡ false
elsewhere used counted ids most word [] q fits there new = refl
elsewhere used counted ids most word (t ∷ ts) q fits there new =
    by_own (own_id (view t)) fits new (λ others more next fit still none. elsewhere used counted others more next ts q fit still none)
  where
    id : List ℕ
    id = id_of_word (free_word used ids most word)

    next : ℕ
    next = next_word (free_word used ids most word)

    by_own : (o : Option (List ℕ)) → Suffices used ids most (count o (missing ts)) → is_one_of (with_given o (given_ids ts)) q ≡ false
        → ((others : List (List ℕ)) (more after : ℕ) → Suffices used others more (missing ts) → is_one_of others q ≡ true → is_one_of (given_ids ts) q ≡ false → is_one_of (ids_from (made_id used others more after) ts) q ≡ false)
        → is_one_of (id_for id o ∷ ids_from (supply_behind (made_id used ids most word) o) ts) q ≡ false
    by_own None fit none more =
        ap (λ b. b || is_one_of (ids_from (made_id used (id ∷ ids) (most + 1) next) ts) q) (differs ids id q (made_free used counted ids most word (missing ts) fit).1 there)
        ∙ more (id ∷ ids) (most + 1) next (one_made used id ids most (missing ts) fit) (or_right (bytes_eq id q) (is_one_of ids q) there) none
    by_own (Some own) fit none more =
        ap (λ b. b || is_one_of (ids_from (made_id used ids most word) ts) q) (left_false (bytes_eq own q) (is_one_of (given_ids ts) q) none)
        ∙ more ids most word fit there (right_false (bytes_eq own q) (is_one_of (given_ids ts) q) none)

-- the ids that they give themselves are among these
abbrev pub Given : List (List ℕ) → List (List ℕ) → Type 0
Given ids given = (g : List ℕ) → is_one_of given g ≡ true → is_one_of ids g ≡ true

distinct_ids : (used : Used) → IsCounted used → (ids : List (List ℕ)) (most word : ℕ) (ts : List Tree) → Suffices used ids most (missing ts)
    → are_distinct (given_ids ts) ≡ true → Given ids (given_ids ts) → are_distinct (ids_from (made_id used ids most word) ts) ≡ true
distinct_ids used counted ids most word [] fits apart given = refl
distinct_ids used counted ids most word (t ∷ ts) fits apart given =
    by_own (own_id (view t)) fits apart given (λ others more next fit still all. distinct_ids used counted others more next ts fit still all)
  where
    id : List ℕ
    id = id_of_word (free_word used ids most word)

    next : ℕ
    next = next_word (free_word used ids most word)

    by_own : (o : Option (List ℕ)) → Suffices used ids most (count o (missing ts)) → are_distinct (with_given o (given_ids ts)) ≡ true → Given ids (with_given o (given_ids ts))
        → ((others : List (List ℕ)) (more after : ℕ) → Suffices used others more (missing ts) → are_distinct (given_ids ts) ≡ true → Given others (given_ids ts) → are_distinct (ids_from (made_id used others more after) ts) ≡ true)
        → are_distinct (id_for id o ∷ ids_from (supply_behind (made_id used ids most word) o) ts) ≡ true
    by_own None fit still all more =
        let unused : is_one_of ids id ≡ false = (made_free used counted ids most word (missing ts) fit).1 in
        let room : Suffices used (id ∷ ids) (most + 1) (missing ts) = one_made used id ids most (missing ts) fit in
        and_from (not (is_one_of (ids_from (made_id used (id ∷ ids) (most + 1) next) ts) id)) (are_distinct (ids_from (made_id used (id ∷ ids) (most + 1) next) ts))
        (ap (λ b. not b) (elsewhere used counted (id ∷ ids) (most + 1) next ts id room (here id ids) (not_given unused all)))
        (more (id ∷ ids) (most + 1) next room still (λ g there. or_right (bytes_eq id g) (is_one_of ids g) (all g there)))
      where
        not_given : is_one_of ids id ≡ false → Given ids (given_ids ts) → is_one_of (given_ids ts) id ≡ false
        not_given unused all = by_test (is_one_of (given_ids ts) id) refl
          where
            by_test : (b : Bool) → is_one_of (given_ids ts) id ≡ b → b ≡ false
            by_test true is = absurd (false≢true (sym unused ∙ all id is))
            by_test false is = refl
    by_own (Some own) fit still all more =
        and_from (not (is_one_of (ids_from (made_id used ids most word) ts) own)) (are_distinct (ids_from (made_id used ids most word) ts))
        (ap (λ b. not b) (elsewhere used counted ids most word ts own fit (all own (here own (given_ids ts))) (not-true (is_one_of (given_ids ts) own) (first_so (not (is_one_of (given_ids ts) own)) (are_distinct (given_ids ts)) still))))
        (more ids most word fit (second_so (not (is_one_of (given_ids ts) own)) (are_distinct (given_ids ts)) still) (λ g there. all g (or_right (bytes_eq own g) (is_one_of (given_ids ts) g) there)))

-- where none is its own, the id isn't used
abbrev IsNew : Used → WithId → Type 0
IsNew used n = own_id (view n.tree) ≡ None → used.is_used n.id ≡ false

made_new : (used : Used) → IsCounted used → (ids : List (List ℕ)) (most word : ℕ) (ts : List Tree) → Suffices used ids most (missing ts) → AllByRecursion (IsNew used) (with_ids (made_id used ids most word) ts)
made_new used counted ids most word [] fits = tt
made_new used counted ids most word (t ∷ ts) fits = (
  λ none. ap (λ o. used.is_used (id_for (id_of_word (free_word used ids most word)) o)) none
      ∙ (made_free used counted ids most word (missing ts) (subst (λ o. Suffices used ids most (count o (missing ts))) none fits)).0,
  by_own (own_id (view t)) fits (λ others more next fit. made_new used counted others more next ts fit),
)
  where
    by_own : (o : Option (List ℕ)) → Suffices used ids most (count o (missing ts))
        → ((others : List (List ℕ)) (more after : ℕ) → Suffices used others more (missing ts) → AllByRecursion (IsNew used) (with_ids (made_id used others more after) ts))
        → AllByRecursion (IsNew used) (with_ids (supply_behind (made_id used ids most word) o) ts)
    by_own None fit more =
        more (id_of_word (free_word used ids most word) ∷ ids) (most + 1) (next_word (free_word used ids most word)) (one_made used (id_of_word (free_word used ids most word)) ids most (missing ts) fit)
    by_own (Some own) fit more = more ids most word fit

distinct_given : (ts : List Tree) → refused_batch ts ≡ None → are_distinct (given_ids ts) ≡ true
distinct_given ts formed = by_size (is_too_large ts) formed
  where
    by_ids : (b : Bool) → first_some (when (not b) (Broken (rule.B 9)) ∷ []) ≡ None → b ≡ true
    by_ids true is = refl
    by_ids false is = cc is

    by_rule : (o : Option ℕ) → first_some (broken o ∷ when (not (are_distinct (given_ids ts))) (Broken (rule.B 9)) ∷ []) ≡ None → are_distinct (given_ids ts) ≡ true
    by_rule None is = by_ids (are_distinct (given_ids ts)) is
    by_rule (Some n) is = cc is

    by_size : (b : Bool) → first_some (when b TooLong ∷ broken (broken_in ts) ∷ when (not (are_distinct (given_ids ts))) (Broken (rule.B 9)) ∷ []) ≡ None → are_distinct (given_ids ts) ≡ true
    by_size true is = cc is
    by_size false is = by_rule (broken_in ts) is

-- ---- the law

-- the used ids are counted
pub counted : (st : State) → IsCounted (used_in st)
counted st =
    let statements : List (List ℕ) = ids_of st.statements in
    let registrations : List (List ℕ) = registration_ids st.registrations in
    let sessions : List (List ℕ) = session_ids st.launches in
    let made : List (List ℕ) = made_session_ids st.made_sessions in
    record {
      ids = statements ++ (registrations ++ (sessions ++ made));
      same = λ id. sym (list_any-append (λ name. bytes_eq name id) statements (registrations ++ (sessions ++ made))
          ∙ (ap (λ b. is_one_of statements id || b) (list_any-append (λ name. bytes_eq name id) registrations (sessions ++ made))
          ∙ ap (λ b. is_one_of statements id || (is_one_of registrations id || b)) (list_any-append (λ name. bytes_eq name id) sessions made)));
      count = length-append statements (registrations ++ (sessions ++ made))
          ∙ (ap (λ n. length statements + n) (length-append registrations (sessions ++ made))
          ∙ ap (λ n. length statements + (length registrations + n)) (length-append sessions made));
    }

suffices_at_first : (st : State) (ts : List Tree) → (used_in st).count + length ts < WORDS → Suffices (used_in st) (given_ids ts) ((used_in st).count + length (given_ids ts)) (missing ts)
suffices_at_first st ts small = (omega arith, omega (arith, small, given_missing ts))

-- the statements of a batch, as a store in this state would name them
abbrev pub batch : State → ℕ → List Tree → List WithId
batch st name ts = with_ids (supply_of (used_in st) (given_ids ts) name) ts

pub batch_distinct : (st : State) (name : ℕ) (ts : List Tree) → (used_in st).count + length ts < WORDS → refused_batch ts ≡ None → are_distinct (ids_under (batch st name ts)) ≡ true
batch_distinct st name ts small formed =
    distinct_ids (used_in st) (counted st) (given_ids ts) ((used_in st).count + length (given_ids ts)) (name % WORDS) ts (suffices_at_first st ts small) (distinct_given ts formed) (λ g there. there)

batch_unused : (st : State) (name : ℕ) (ts : List Tree) → (used_in st).count + length ts < WORDS → AllByRecursion (IsNew (used_in st)) (batch st name ts)
batch_unused st name ts small = made_new (used_in st) (counted st) (given_ids ts) ((used_in st).count + length (given_ids ts)) (name % WORDS) ts (suffices_at_first st ts small)

pub batch_new : (st : State) (name : ℕ) (ts : List Tree) → (used_in st).count + length ts < WORDS → AllByRecursion (λ (n : WithId). own_id (view n.tree) ≡ None → is_held n.id st.statements ≡ false) (batch st name ts)
batch_new st name ts small =
    each_weaker (IsNew (used_in st)) (λ (n : WithId). own_id (view n.tree) ≡ None → is_held n.id st.statements ≡ false)
    (λ n new none. held_one n.id st.statements
    ∙ left_false (is_one_of (ids_of st.statements) n.id)
    (is_one_of (registration_ids st.registrations) n.id || (is_one_of (session_ids st.launches) n.id || is_one_of (made_session_ids st.made_sessions) n.id)) (new none))
    (batch st name ts) (batch_unused st name ts small)

pub made_ids_are_new : MadeIdsAreNew
made_ids_are_new h trees draw small formed = (batch_distinct (state h) draw.name trees small formed, batch_unused (state h) draw.name trees small)

-- ---- ids of the desk

-- the id of that number isn't used, and is none of these
pub nth_free : (used : Used) → IsCounted used → (ids : List (List ℕ)) (most word k : ℕ) → Suffices used ids most (suc k)
    → (used.is_used (made_id used ids most word k) ≡ false) × (is_one_of ids (made_id used ids most word k) ≡ false)
nth_free used counted ids most word zero fits = made_free used counted ids most word 0 fits
nth_free used counted ids most word (suc k) fits =
    let id : List ℕ = id_of_word (free_word used ids most word) in
    let next : ℕ = next_word (free_word used ids most word) in
    let later = nth_free used counted (id ∷ ids) (most + 1) next k (one_made used id ids most (suc k) fits) in
    (later.0, right_false (bytes_eq id (made_id used (id ∷ ids) (most + 1) next k)) (is_one_of ids (made_id used (id ∷ ids) (most + 1) next k)) later.1)

-- nor is it that of an earlier one
pub nth_other : (used : Used) → IsCounted used → (ids : List (List ℕ)) (most word j k : ℕ) → j < k → Suffices used ids most (suc k) → made_id used ids most word j ≢ made_id used ids most word k
nth_other used counted ids most word j zero less fits = absurd (omega (arith, less))
nth_other used counted ids most word zero (suc k) less fits =
    let id : List ℕ = id_of_word (free_word used ids most word) in
    let later = nth_free used counted (id ∷ ids) (most + 1) (next_word (free_word used ids most word)) k (one_made used id ids most (suc k) fits) in
    λ same. true≢false (sym (here id ids) ∙ (ap (λ q. is_one_of (id ∷ ids) q) same ∙ later.1))
nth_other used counted ids most word (suc j) (suc k) less fits =
    let id : List ℕ = id_of_word (free_word used ids most word) in
    nth_other used counted (id ∷ ids) (most + 1) (next_word (free_word used ids most word)) j k (omega (arith, less)) (one_made used id ids most (suc k) fits)

unused : (st : State) (id : List ℕ) → (used_in st).is_used id ≡ false → IsUnusedId st id
unused st id none =
    let statements = is_one_of (ids_of st.statements) id in
    let registrations = is_one_of (registration_ids st.registrations) id in
    let sessions = is_one_of (session_ids st.launches) id in
    let made = is_one_of (made_session_ids st.made_sessions) id in
    let others = right_false statements (registrations || (sessions || made)) none in
    let last = right_false registrations (sessions || made) others in
    record {
      statements = left_false statements (registrations || (sessions || made)) none;
      registrations = left_false registrations (sessions || made) others;
      sessions = left_false sessions made last;
      made_sessions = right_false sessions made last;
    }

-- the id of that number is new where there are enough to be made
new_from : (used : Used) (name k : ℕ) → IsCounted used → used.count + k + 1 < WORDS
    → (used.is_used (supply_of used [] name k) ≡ false) × ((j : ℕ) → j < k → supply_of used [] name j ≢ supply_of used [] name k)
new_from used name k counted small =
    ((nth_free used counted [] most (name % WORDS) k fits).0, λ j less. nth_other used counted [] most (name % WORDS) j k less fits)
  where
    most : ℕ
    most = used.count + length {A = List ℕ} []

    fits : Suffices used [] most (suc k)
    fits = (omega arith, omega (arith, small))

pub desk_ids_are_new : DeskIdsAreNew
desk_ids_are_new h write draw k none small =
    let st = state h in
    let new = new_from (used_in st) draw.name k (counted st) small in
    subst (λ given. let supply = supply_of (used_in st) given draw.name in IsUnusedId st (supply k) × ((j : ℕ) → j < k → supply j ≢ supply k)) (sym none)
    (unused st (supply_of (used_in st) [] draw.name k) new.0, new.1)
