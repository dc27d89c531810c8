-- What an input asks that is no statement to be kept, and the bytes that were read of it.
use Rattle.std.proofs.Common.{◌≡◌, ◌<◌, ◌≤◌, ◌+◌, ℕ, Bool, true, false, cond, List, [], ◌++◌, length, length-append, Option, Some, None, refl, sym, subst, arith}
use Rattle.lrs_json.specs.View.{view}
use Rattle.lrs_json_reader.specs.Refusals.{Spells}
use Rattle.lrs_json.specs.declared.tree.Tree.{Tree}
use Rattle.lrs_json.specs.declared.limits.TheConstants.{DEPTH}
use Rattle.xapi_rules.specs.Rules.{broken_rule}
use Rattle.xapi_statement.specs.Statement.{is_too_long}
use Rattle.lrs_console.specs.Reading.{AreOfInput, ForInput, HasGiven, longest_input}
use Rattle.lrs_console.specs.Asking.{too_long, no_value, without_id, Names, without_rule, ending_without_id, EndsAnyway, IsNoTree, IsNoStatement, IsNotTaken}
use Rattle.lrs_console.specs.declared.ending.Ending.{Ending}
use Rattle.lrs_console.specs.declared.ending.Ending.TheVariants as ending

-- an input that isn't read breaks its rule
pub not_read : (input : List ℕ) (end : Ending) → length input ≤ longest_input → IsNoTree input end → IsNoStatement input end
not_read input (ending.Refused r) few breaks = (no_value r, (few, breaks), λ limit h clock draw. (refl, refl))
not_read input ending.Memory few breaks = tt
not_read input ending.Founded few breaks = absurd breaks
not_read input (ending.Kept id) few breaks = absurd breaks
not_read input ending.Usage few breaks = absurd breaks
not_read input (ending.Served responses) few breaks = absurd breaks
not_read input (ending.Loaded statements listed) few breaks = absurd breaks
not_read input (ending.Migrated entries) few breaks = absurd breaks
not_read input ending.LobbyFault few breaks = absurd breaks
not_read input ending.OldFormat few breaks = absurd breaks
not_read input ending.NotAStore few breaks = absurd breaks
not_read input (ending.Damaged k) few breaks = absurd breaks
not_read input ending.AlreadyStore few breaks = absurd breaks
not_read input ending.DiskFault few breaks = absurd breaks
not_read input ending.NoId few breaks = absurd breaks
not_read input ending.TooLong few breaks = absurd breaks
not_read input (ending.Conflict id) few breaks = absurd breaks
not_read input ending.InputFault few breaks = absurd breaks
not_read input (ending.Full need limit) few breaks = absurd breaks

by_rule : (input : List ℕ) (long : Bool) (rule : Option ℕ)
    → EndsAnyway input (cond long ending.TooLong (without_rule rule)) → IsNoStatement input (cond long ending.TooLong (without_rule rule))
by_rule input true rule ends = ends
by_rule input false None ends = ends
by_rule input false (Some n) ends = ends

-- a value that gives itself no id ends by its length, its rule or so
pub not_named : (input : List ℕ) (t : Tree) → length input ≤ longest_input → Spells DEPTH input (view t) → Names t None → IsNoStatement input (ending_without_id (view t))
not_named input t few spells none =
    by_rule input (is_too_long (view t)) (broken_rule (view t)) (without_id t, (few, spells, none), λ limit h clock draw. (refl, refl))

-- ---- the bytes that were read

-- what holds of any bytes holds of those of an input, however much of it was read
pub any_input : (left : Option (List ℕ)) (P : List ℕ → Type 0) → ((input : List ℕ) → P input) → ForInput left P
any_input None P holds = ([], tt, holds [])
any_input (Some told) P holds = (told, refl, holds told)

too_long_ends : (input : List ℕ) → longest_input < length input → IsNotTaken input ending.TooLong
too_long_ends input more = (too_long, more, λ limit h clock draw. (refl, refl))

-- more was read of an input than it may have
pub too_many : (old new : Option (List ℕ)) (front : List ℕ) → length front ≡ longest_input + 1 → HasGiven front old new
    → ForInput old (λ bytes. IsNotTaken bytes ending.TooLong)
too_many old None front len given = (front, subst (AreOfInput front) (sym given) tt, too_long_ends front (omega (arith, len)))
too_many old (Some rest) front len given =
    (front ++ rest, subst (AreOfInput (front ++ rest)) (sym given) refl, too_long_ends (front ++ rest) (omega (arith, len, length-append front rest)))
