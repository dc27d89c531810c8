-- What counts for a unit in a registration, and how the number of statements that count changes.
use Rattle.std.specs.Prelude.{ℕ, ◌+◌, ◌-◌, ◌^◌, ◌&&◌, Bool, List, min, if◌then◌else◌}
use Rattle.cmi5_launch.specs.XapiStatementStatement.{activity_of, registration_of}
use Rattle.cmi5_launch.specs.XapiStatementStatements.{is_that_id}
use Rattle.cmi5_session.specs.Own.{says}
use Rattle.lrs_json.specs.Json.{Json}

-- A statement of that verb that cmi5 defines, in that registration and on that activity, whosever it is.
abbrev pub counts : List ℕ → List ℕ → List ℕ → Json → Bool
counts registration activity verb j =
    says verb j && is_that_id registration (registration_of j) && is_that_id activity (activity_of j)

-- One more, where it counts. A number stands still at its type's end.
abbrev pub one_more : ℕ → Bool → ℕ
one_more number more = if more then min (number + 1) (2 ^ 64 - 1) else number

-- one less, where it counts
abbrev pub one_less : ℕ → Bool → ℕ
one_less number less = if less then number - 1 else number
