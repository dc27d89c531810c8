-- What is known of a session behind one statement more of its own.
use Rattle.std.proofs.Common.{◌≡◌, ℕ, List, [], ◌∷◌, ◌++◌, Bool, true, false, not, ◌&&◌, ◌||◌, None, refl, sym, ap, ◌∙◌}
use Rattle.std.specs.Prelude.{if◌then◌else◌}
use Rattle.std.specs.List.{list_any}
use Rattle.std.proofs.lemmas.Cmp.{nat_list_eq_equiv}
use Rattle.std.proofs.lemmas.List.Folds.{list_any-append}
use Rattle.cmi5_course.specs.declared.launch.Launch.{Launch}
use Rattle.cmi5_launch.specs.Names.{completed, initialized, passed, terminated}
use Rattle.cmi5_session.specs.Counting.{counts}
use Rattle.cmi5_session.specs.Own.{has_own, is_of_session, is_own, says}
use Rattle.cmi5_session.specs.Phases.{phase_behind, phase_of}
use Rattle.cmi5_session.specs.Views.{SeenSession, counts_still, has_counting, view_behind, view_of}
use Rattle.cmi5_session.specs.declared.phase.Phase.{Phase}
use Rattle.cmi5_session.specs.declared.phase.Phase.TheVariants as phase
use Rattle.lrs_json.specs.View.{view}
use Rattle.lrs_json.specs.declared.tree.Tree.{Tree}
use Rattle.xapi_format.specs.declared.authority.Authority.TheVariants.{Session}
use Rattle.cmi5_launch.specs.XapiStatementStatements.{is_that_id, is_target, is_voided, voids}
use Rattle.xapi_rules.specs.Rules.{is_voiding}
use Rattle.cmi5_launch.specs.XapiStatementStatement.{target_of}
use Rattle.cmi5_launch.specs.XapiStatementStored.{StoredStatement}

-- ---- tests over one item more

pub one_item : (a b : Bool) → a || (b || false) ≡ a || b
one_item true b = refl
one_item false true = refl
one_item false false = refl

any_more : {A : Type 0} (test : A → Bool) (xs : List A) (x : A) → list_any test (xs ++ x ∷ []) ≡ list_any test xs || test x
any_more test xs x = list_any-append test xs (x ∷ []) ∙ one_item (list_any test xs) (test x)

any_alike : {A : Type 0} (p q : A → Bool) → ((x : A) → p x ≡ q x) → (xs : List A) → list_any p xs ≡ list_any q xs
any_alike p q alike [] = refl
any_alike p q alike (x ∷ xs) = ap (λ b. b || list_any p xs) (alike x) ∙ ap (λ b. q x || b) (any_alike p q alike xs)

or_false : (a : Bool) → a || false ≡ a
or_false true = refl
or_false false = refl

-- ---- voiding

-- one that voids none voids no other
pub same_target : (before : List StoredStatement) (s : StoredStatement) → is_voiding (view s.received) ≡ false → (id : List ℕ) → is_target id (before ++ s ∷ []) ≡ is_target id before
same_target before s quiet id =
    any_more (voids id) before s
    ∙ (ap (λ b. is_target id before || is_that_id id (if b then target_of (view s.received) else None)) quiet ∙ or_false (is_target id before))

same_voided : (before : List StoredStatement) (s x : StoredStatement) → is_voiding (view s.received) ≡ false → is_voided (before ++ s ∷ []) x ≡ is_voided before x
same_voided before s x quiet = ap (λ b. not (is_voiding (view x.received)) && b) (same_target before s quiet x.id)

-- ---- the parts of a view

own_more : (session verb : List ℕ) (before : List StoredStatement) (s : StoredStatement) → s.authority ≡ Session session → has_own session verb (before ++ s ∷ []) ≡ has_own session verb before || says verb (view s.received)
own_more session verb before s own =
    any_more (is_own session verb) before s
    ∙ ap (λ b. has_own session verb before || (b && says verb (view s.received))) (ap (is_of_session session) own ∙ nat_list_eq_equiv.refl session)

counting_more : (launch : Launch) (verb : List ℕ) (before : List StoredStatement) (s : StoredStatement) → is_voiding (view s.received) ≡ false
    → has_counting launch verb (before ++ s ∷ []) ≡ has_counting launch verb before || (counts launch.registration launch.activity verb (view s.received) && not (is_target s.id before))
counting_more launch verb before s quiet =
    any_more (counts_still launch verb (before ++ s ∷ [])) before s
    ∙ (ap (λ b. b || counts_still launch verb (before ++ s ∷ []) s)
    (any_alike (counts_still launch verb (before ++ s ∷ [])) (counts_still launch verb before) (λ x. ap (λ b. counts launch.registration launch.activity verb (view x.received) && not b) (same_voided before s x quiet)) before)
    ∙ ap (λ b. has_counting launch verb before || (counts launch.registration launch.activity verb (view s.received) && not b))
    (same_voided before s s quiet ∙ ap (λ b. not b && is_target s.id before) quiet))

phase_more : (session : List ℕ) (fetched abandoned : Bool) (before : List StoredStatement) (s : StoredStatement) → s.authority ≡ Session session
    → phase_of session fetched abandoned (before ++ s ∷ []) ≡ phase_behind (phase_of session fetched abandoned before) (view s.received)
phase_more session fetched abandoned before s own =
    ap (λ b. if abandoned then phase.Abandoned else (if b then phase.Terminated else (if has_own session initialized (before ++ s ∷ []) then phase.Initialized else (if fetched then phase.Fetched else phase.Launched)))) (own_more session terminated before s own)
    ∙ (ap (λ b. if abandoned then phase.Abandoned else (if has_own session terminated before || says terminated (view s.received) then phase.Terminated else (if b then phase.Initialized else (if fetched then phase.Fetched else phase.Launched)))) (own_more session initialized before s own)
    ∙ by_tests abandoned (has_own session terminated before) (has_own session initialized before) fetched (says terminated (view s.received)) (says initialized (view s.received)) refl refl)
  where
    by_tests : (gone ended begun fetched c d : Bool) → says terminated (view s.received) ≡ c → says initialized (view s.received) ≡ d
        → (if gone then phase.Abandoned else (if ended || c then phase.Terminated else (if begun || d then phase.Initialized else (if fetched then phase.Fetched else phase.Launched))))
        ≡ phase_behind (if gone then phase.Abandoned else (if ended then phase.Terminated else (if begun then phase.Initialized else (if fetched then phase.Fetched else phase.Launched)))) (view s.received)
    by_tests true ended begun fetched c d is at = refl
    by_tests false true begun fetched c d is at = refl
    by_tests false false true fetched true d is at = ap (λ b. if b then phase.Terminated else (if says initialized (view s.received) then phase.Initialized else phase.Initialized)) (sym is)
    by_tests false false true fetched false true is at =
        ap (λ b. if b then phase.Terminated else (if true then phase.Initialized else phase.Initialized)) (sym is) ∙ ap (λ b. if says terminated (view s.received) then phase.Terminated else (if b then phase.Initialized else phase.Initialized)) (sym at)
    by_tests false false true fetched false false is at =
        ap (λ b. if b then phase.Terminated else (if false then phase.Initialized else phase.Initialized)) (sym is) ∙ ap (λ b. if says terminated (view s.received) then phase.Terminated else (if b then phase.Initialized else phase.Initialized)) (sym at)
    by_tests false false false true c d is at =
        ap (λ b. if b then phase.Terminated else (if d then phase.Initialized else phase.Fetched)) (sym is) ∙ ap (λ b. if says terminated (view s.received) then phase.Terminated else (if b then phase.Initialized else phase.Fetched)) (sym at)
    by_tests false false false false c d is at =
        ap (λ b. if b then phase.Terminated else (if d then phase.Initialized else phase.Launched)) (sym is) ∙ ap (λ b. if says terminated (view s.received) then phase.Terminated else (if b then phase.Initialized else phase.Launched)) (sym at)

-- ---- the whole

abbrev pub made : Launch → Phase → Bool → Bool → SeenSession
made launch phase completed passed = record { launch = launch; phase = phase; completed = completed; passed = passed }

pub same_parts : (launch : Launch) (p q : Phase) (a b c d : Bool) → p ≡ q → a ≡ b → c ≡ d → made launch p a c ≡ made launch q b d
same_parts launch p q a b c d phase is at = ap (λ x. made launch x a c) phase ∙ (ap (λ x. made launch q x c) is ∙ ap (λ x. made launch q b x) at)

pub one_more : (launch : Launch) (fetched abandoned : Bool) (before : List StoredStatement) (s : StoredStatement) → s.authority ≡ Session launch.session → is_voiding (view s.received) ≡ false
    → view_of launch fetched abandoned (before ++ s ∷ []) ≡ view_behind (view_of launch fetched abandoned before) (view s.received) (is_target s.id before)
one_more launch fetched abandoned before s own quiet =
    same_parts launch _ _ _ _ _ _ (phase_more launch.session fetched abandoned before s own) (counting_more launch completed before s quiet) (counting_more launch passed before s quiet)

pub folded : (launch : Launch) (fetched abandoned : Bool) (before : List StoredStatement) (s : StoredStatement) (v : SeenSession) (t : Tree) (voided : Bool)
    → v ≡ view_of launch fetched abandoned before → s.received ≡ t → s.authority ≡ Session launch.session → is_voiding (view t) ≡ false → voided ≡ is_target s.id before
    → view_behind v (view t) voided ≡ view_of launch fetched abandoned (before ++ s ∷ [])
folded launch fetched abandoned before s v t voided is received own quiet at =
    ap (λ w. view_behind w (view t) voided) is
    ∙ (ap (λ b. view_behind (view_of launch fetched abandoned before) (view t) b) at
    ∙ (ap (λ u. view_behind (view_of launch fetched abandoned before) (view u) (is_target s.id before)) (sym received)
    ∙ sym (one_more launch fetched abandoned before s own (ap (λ u. is_voiding (view u)) received ∙ quiet))))
