-- When a session began, and when it said something last.
use Rattle.std.specs.Prelude.{ℕ, List, [], ◌∷◌, Option, find, option_map, if◌then◌else◌}
use Rattle.cmi5_launch.specs.Names.{initialized}
use Rattle.cmi5_session.specs.Own.{is_of_session, is_own}
use Rattle.cmi5_launch.specs.XapiStatementStored.{StoredStatement}

-- when the session of that id said that it is initialized, if it did
abbrev pub began_at : List ℕ → List StoredStatement → Option ℕ
began_at id statements = option_map (λ (s : StoredStatement). s.stored) (find (is_own id initialized) statements)

-- the moment of the last of the session's own statements, or that one if it has none
abbrev pub last_own : List ℕ → ℕ → List StoredStatement → ℕ
last_own id moment [] = moment
last_own id moment (s ∷ ss) = last_own id (if is_of_session id s.authority then s.stored else moment) ss
