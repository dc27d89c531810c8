-- What is seen of a session, by what is kept.
use Rattle.std.proofs.Common.{◌≡◌, ℕ, nat_lt, Bool, if◌then◌else◌, List, ap, ◌∙◌}
use Rattle.cmi5_course.specs.declared.launch.Launch.{Launch}
use Rattle.cmi5_session.specs.Cmi5LaunchNames.{completed, passed, terminated}
use Rattle.cmi5_running_sessions.specs.Maps.{phase_by}
use Rattle.cmi5_running_sessions.specs.Kept.{SeenSessions, SaidStandsFor, own_of, own_said, reached_of}
use Rattle.cmi5_running_sessions.specs.declared.own.OwnSaid.{OwnSaid}
use Rattle.cmi5_running_sessions.specs.declared.units.Reached.{Reached}
use Rattle.cmi5_running_sessions.proofs.Counting.{counting}
use Rattle.cmi5_running_sessions.proofs.Hearing.{began_is, statements-of-marked}
use Rattle.cmi5_session.specs.Marked.{marked}
use Rattle.cmi5_session.specs.Own.{has_own}
use Rattle.cmi5_session.specs.Phases.{phase_of}
use Rattle.cmi5_session.specs.Views.{view_of}
use Rattle.cmi5_session.specs.declared.phase.Phase.{Phase}
use Rattle.cmi5_session.specs.declared.phase.Phase.TheVariants as phase
use Rattle.cmi5_session.specs.XapiStatementStored.{StoredStatement}
use Rattle.cmi5_session.proofs.Behind.{made, same_parts}

-- the phase by what the session's own statements said
phase_told : (id : List ℕ) (fetched abandoned : Bool) (statements : List StoredStatement) → phase_by (own_said id statements) fetched abandoned ≡ phase_of id fetched abandoned statements
phase_told id fetched abandoned statements =
    ap (λ b. if abandoned then phase.Abandoned else (if has_own id terminated statements then phase.Terminated else (if b then phase.Initialized else (if fetched then phase.Fetched else phase.Launched))))
    (began_is id statements)

-- the view, by what stands for the statements
pub viewed : (launch : Launch) (fetched abandoned : Bool) (s : SeenSessions) (statements : List StoredStatement) → SaidStandsFor s (marked statements) → (own : OwnSaid) (reached : Reached)
    (phase : Phase) (a b : Bool) → own ≡ own_of launch.session s → reached ≡ reached_of launch.registration launch.activity s → phase ≡ phase_by own fetched abandoned
    → a ≡ nat_lt 0 reached.completed → b ≡ nat_lt 0 reached.passed → made launch phase a b ≡ view_of launch fetched abandoned statements
viewed launch fetched abandoned s statements stands own reached phase a b said counts told some others =
    let is : own ≡ own_said launch.session statements =
    said ∙ (stands.own launch.session ∙ ap (λ (xs : List StoredStatement). own_said launch.session xs) (statements-of-marked statements)) in
    let counted = counts ∙ stands.reached launch.registration launch.activity in
    same_parts launch _ _ _ _ _ _
    (told ∙ (ap (λ (o : OwnSaid). phase_by o fetched abandoned) is ∙ phase_told launch.session fetched abandoned statements))
    (some ∙ (ap (λ (r : Reached). nat_lt 0 r.completed) counted ∙ counting launch completed statements))
    (others ∙ (ap (λ (r : Reached). nat_lt 0 r.passed) counted ∙ counting launch passed statements))
