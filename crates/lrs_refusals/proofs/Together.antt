-- Statements that come together: those of a caller who is no session are looked at whatever stands before them, those of
-- a session by what is known of it behind those before them.
use Rattle.std.proofs.Common.{◌≡◌, ℕ, List, [], ◌∷◌, ◌++◌, Bool, true, false, Option, Some, None, refl, sym, ap, ◌∙◌, append-nil}
use Rattle.std.specs.Prelude.{is_some, option_and_then, option_map, slice_get, if◌then◌else◌}
use Rattle.std.specs.Option.{option_or}
use Rattle.cmi5_course.specs.declared.launch.Launch.{Launch}
use Rattle.lrs_made.specs.Cmi5SessionBehindProofs.{one_more, same_target}
use Rattle.lrs_made.specs.Cmi5SessionRules.{broken_rule}
use Rattle.lrs_made.specs.Cmi5SessionViews.{SeenSession, view_behind, view_of}
use Rattle.lrs_command.specs.declared.who.Who.{Who}
use Rattle.lrs_command.specs.declared.who.Who.TheVariants as who
use Rattle.lrs_refusals.specs.Meeting.{refused_behind, refused_each, session_behind, was_abandoned}
use Rattle.lrs_made.specs.LrsHistoryEffects.{new_by}
use Rattle.lrs_made.specs.LrsHistoryOccasions.{Occasion}
use Rattle.lrs_made.specs.LrsHistoryRefusals.{before_next, conflict, forbidden, refused_in, refused_over, refused_under, told_forbidden}
use Rattle.lrs_made.specs.LrsHistorySessions.{is_abandoned}
use Rattle.lrs_made.specs.LrsHistoryWhose.{launch_of}
use Rattle.lrs_json.specs.Json.{Json}
use Rattle.lrs_json.specs.View.{view}
use Rattle.lrs_json.specs.declared.tree.Tree.{Tree}
use Rattle.lrs_ids.specs.Choices.{first_some, when}
use Rattle.lrs_ids.specs.Ids.{Supply}
use Rattle.lrs_made.specs.LrsStateState.{State}
use Rattle.lrs_record.specs.declared.entry.Write.TheVariants.{Post}
use Rattle.lrs_replies.specs.declared.answered.Refusal.{Refusal}
use Rattle.xapi_format.specs.declared.authority.Authority.TheVariants as authority
use Rattle.xapi_index.specs.Batches.{WithId, held_of, id_for, kept_by, supply_behind, with_ids}
use Rattle.xapi_statement.specs.Statements.{held_under, is_held, is_target, new_ones}
use Rattle.xapi_rules.specs.Rules.{is_voiding}
use Rattle.xapi_statement.specs.Statement.{own_id}
use Rattle.xapi_statement.specs.Stored.{StoredStatement}

-- ---- a caller who is no session

alone : (st : State) (by : Who) (before : List StoredStatement) (j : Json) → launch_of st by ≡ None → forbidden st by before j ≡ forbidden st by st.statements j
alone st who.Unknown before j none = refl
alone st who.Admin before j none = refl
alone st (who.Provider k) before j none = refl
alone st (who.Session k) before j none = by_launch (slice_get st.launches k) none
  where
    by_launch : (o : Option Launch) → o ≡ None
        → told_forbidden (option_and_then (λ l. broken_rule (view_of l true (is_abandoned st k) before) j) o)
        ≡ told_forbidden (option_and_then (λ l. broken_rule (view_of l true (is_abandoned st k) st.statements) j) o)
    by_launch None is = refl
    by_launch (Some l) is = cc is

refused_alone : (st : State) (at : Occasion) (before : List StoredStatement) (supply : Supply) (ts : List Tree) → launch_of st at.by ≡ None → refused_in st at before (with_ids supply ts) ≡ refused_each st at.by ts
refused_alone st at before supply [] none = refl
refused_alone st at before supply (t ∷ ts) none =
    let n : WithId = record { id = id_for (supply 0) (own_id (view t)); tree = t } in
    ap (λ o. option_or (refused_under st (forbidden st at.by before (view t)) (own_id (view t)) (view t)) o)
    (refused_alone st at (before_next st at before n) (supply_behind supply (own_id (view t))) ts none)
    ∙ ap (λ new. option_or (refused_under st new (own_id (view t)) (view t)) (refused_each st at.by ts)) (alone st at.by before (view t) none)

pub each_refused : (st : State) (by : Who) (ts : List Tree) (at : Occasion) → launch_of st by ≡ None → at.by ≡ by → refused_each st by ts ≡ conflict st at (Post ts)
each_refused st by ts at none is =
    ap (λ w. refused_each st w ts) (sym is) ∙ sym (refused_alone st at st.statements at.supply ts (ap (launch_of st) is ∙ none))

-- ---- a session

-- what isn't forbidden breaks no rule, and voids nothing
no_rule : (o : Option ℕ) → told_forbidden o ≡ None → o ≡ None
no_rule None is = refl
no_rule (Some n) is = cc is

when_none : (b : Bool) (rest : Option ℕ) → option_or (when b 2) rest ≡ None → b ≡ false
when_none true rest is = cc is
when_none false rest is = refl

no_voiding : (session : SeenSession) (j : Json) → broken_rule session j ≡ None → is_voiding j ≡ false
no_voiding session j none = when_none (is_voiding j) _ none

none_held : (o : Option StoredStatement) (new : Option Refusal) (id : List ℕ) (j : Json) → is_some o ≡ false → refused_over new id j o ≡ None → new ≡ None
none_held None new id j unheld none = none
none_held (Some s) new id j unheld none = cc unheld

-- a statement that is new isn't refused only where what is told of a new one is nothing
new_passes : (st : State) (new : Option Refusal) (made : List ℕ) (o : Option (List ℕ)) (j : Json) → is_held (id_for made o) st.statements ≡ false → refused_under st new o j ≡ None → new ≡ None
new_passes st new made None j unheld none = none
new_passes st new made (Some id) j unheld none = none_held (held_under id st.statements) new id j unheld none

abbrev SameTargets : List StoredStatement → List StoredStatement → Type 0
SameTargets before held = (id : List ℕ) → is_target id before ≡ is_target id held

-- the session of the launch of that number
abbrev session_at : State → ℕ → Launch → List StoredStatement → SeenSession
session_at st k launch before = view_of launch true (is_abandoned st k) before

-- behind one that isn't refused
record IsNext (st : State) (at : Occasion) (k : ℕ) (launch : Launch) (before : List StoredStatement) (n : WithId) : Type 0 where
  pub targets : SameTargets (before_next st at before n) st.statements
  pub session : session_at st k launch (before_next st at before n) ≡ session_behind st (session_at st k launch before) n

next_is : (st : State) (at : Occasion) (k : ℕ) (launch : Launch) → at.by ≡ who.Session k → slice_get st.launches k ≡ Some launch → (before : List StoredStatement) → SameTargets before st.statements
    → (made : List ℕ) (t : Tree) → refused_under st (forbidden st at.by before (view t)) (own_id (view t)) (view t) ≡ None
    → IsNext st at k launch before (record { id = id_for made (own_id (view t)); tree = t })
next_is st at k launch by is before same made t none = by_held (is_held n.id st.statements) refl
  where
    n : WithId
    n = record { id = id_for made (own_id (view t)); tree = t }

    s : StoredStatement
    s = held_of at.moment (authority.Session launch.session) n

    forbidden_is : forbidden st at.by before (view t) ≡ told_forbidden (broken_rule (session_at st k launch before) (view t))
    forbidden_is = ap (λ w. forbidden st w before (view t)) by ∙ ap (λ o. told_forbidden (option_and_then (λ l. broken_rule (session_at st k l before) (view t)) o)) is

    comes : (b : Bool) → is_held n.id st.statements ≡ b → before_next st at before n ≡ before ++ (if b then [] else s ∷ [])
    comes b held =
        ap (λ w. before ++ new_by st w at.moment (n ∷ [])) by
        ∙ (ap (λ o. before ++ new_ones st.statements (kept_by at.moment (option_map (λ (l : Launch). authority.Session l.session) o) (n ∷ []))) is
        ∙ ap (λ c. before ++ (if c then [] else s ∷ [])) held)

    by_held : (b : Bool) → is_held n.id st.statements ≡ b → IsNext st at k launch before n
    by_held true held =
        let still : before_next st at before n ≡ before = comes true held ∙ append-nil before in
        record {
          targets = λ id. ap (is_target id) still ∙ same id;
          session = ap (session_at st k launch) still ∙ ap (λ b. if b then session_at st k launch before else view_behind (session_at st k launch before) (view t) (is_target n.id st.statements)) (sym held);
        }
    by_held false held =
        let quiet : is_voiding (view t) ≡ false = no_voiding (session_at st k launch before) (view t)
        (no_rule (broken_rule (session_at st k launch before) (view t)) (sym forbidden_is ∙ new_passes st (forbidden st at.by before (view t)) made (own_id (view t)) (view t) held none)) in
        record {
          targets = λ id. ap (is_target id) (comes false held) ∙ (same_target before s quiet id ∙ same id);
          session = ap (session_at st k launch) (comes false held)
              ∙ (one_more launch true (is_abandoned st k) before s refl quiet
              ∙ (ap (λ b. view_behind (session_at st k launch before) (view t) b) (same n.id)
              ∙ ap (λ b. if b then session_at st k launch before else view_behind (session_at st k launch before) (view t) (is_target n.id st.statements)) (sym held)));
        }

refused_after : (st : State) (at : Occasion) (k : ℕ) (launch : Launch) → at.by ≡ who.Session k → slice_get st.launches k ≡ Some launch → (before : List StoredStatement) → SameTargets before st.statements
    → (supply : Supply) (ts : List Tree) → refused_behind st (session_at st k launch before) (with_ids supply ts) ≡ refused_in st at before (with_ids supply ts)
refused_after st at k launch by is before same supply [] = refl
refused_after st at k launch by is before same supply (t ∷ ts) =
    ap (λ new. option_or (refused_under st new (own_id (view t)) (view t)) (refused_behind st (session_behind st (session_at st k launch before) n) rest)) (sym forbidden_is)
    ∙ by_refusal (λ still. refused_after st at k launch by is (before_next st at before (record { id = id_for (supply 0) (own_id (view t)); tree = t })) still (supply_behind supply (own_id (view t))) ts)
    (refused_under st (forbidden st at.by before (view t)) (own_id (view t)) (view t)) refl
  where
    n : WithId
    n = record { id = id_for (supply 0) (own_id (view t)); tree = t }

    rest : List WithId
    rest = with_ids (supply_behind supply (own_id (view t))) ts

    forbidden_is : forbidden st at.by before (view t) ≡ told_forbidden (broken_rule (session_at st k launch before) (view t))
    forbidden_is = ap (λ w. forbidden st w before (view t)) by ∙ ap (λ o. told_forbidden (option_and_then (λ l. broken_rule (session_at st k l before) (view t)) o)) is

    by_refusal : (SameTargets (before_next st at before n) st.statements → refused_behind st (session_at st k launch (before_next st at before n)) rest ≡ refused_in st at (before_next st at before n) rest)
        → (o : Option Refusal) → refused_under st (forbidden st at.by before (view t)) (own_id (view t)) (view t) ≡ o
        → option_or o (refused_behind st (session_behind st (session_at st k launch before) n) rest) ≡ option_or o (refused_in st at (before_next st at before n) rest)
    by_refusal more (Some r) at_once = refl
    by_refusal more None none =
        let next = next_is st at k launch by is before same (supply 0) t none in
        ap (λ v. refused_behind st v rest) (sym next.session) ∙ more next.targets

pub session_refused : (st : State) (by : Who) (launch : Launch) (supply : Supply) (ts : List Tree) (at : Occasion) → launch_of st by ≡ Some launch → at.by ≡ by → at.supply ≡ supply
    → refused_behind st (view_of launch true (was_abandoned st by) st.statements) (with_ids supply ts) ≡ conflict st at (Post ts)
session_refused st who.Unknown launch supply ts at has is given = cc has
session_refused st who.Admin launch supply ts at has is given = cc has
session_refused st (who.Provider k) launch supply ts at has is given = cc has
session_refused st (who.Session k) launch supply ts at has is given =
    ap (λ p. refused_behind st (session_at st k launch st.statements) (with_ids p ts)) (sym given) ∙ refused_after st at k launch is has st.statements (λ id. refl) at.supply ts

-- ---- the last of the reasons

or_none : (o : Option Refusal) → o ≡ option_or o None
or_none None = refl
or_none (Some r) = refl

pub last_reason : (a b c d e f : Option Refusal) → a ≡ None → b ≡ None → c ≡ None → d ≡ None → e ≡ None → f ≡ first_some (a ∷ b ∷ c ∷ d ∷ e ∷ f ∷ [])
last_reason a b c d e f no1 no2 no3 no4 no5 =
    or_none f
    ∙ sym (ap (λ o. option_or o (first_some (b ∷ c ∷ d ∷ e ∷ f ∷ []))) no1
    ∙ (ap (λ o. option_or o (first_some (c ∷ d ∷ e ∷ f ∷ []))) no2
    ∙ (ap (λ o. option_or o (first_some (d ∷ e ∷ f ∷ []))) no3
    ∙ (ap (λ o. option_or o (first_some (e ∷ f ∷ []))) no4 ∙ ap (λ o. option_or o (first_some (f ∷ []))) no5))))
