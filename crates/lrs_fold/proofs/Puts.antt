-- What is said to a put of the program itself: it is refused neither as of a caller who isn't let in nor as of no command,
-- and it is shown no text.
use Rattle.std.proofs.Common.{ℕ, List, [], ◌∷◌, Option, Some, None, Bool, true, false, not, ◌&&◌, refl}
use Rattle.std.specs.Prelude.{if◌then◌else◌, option_map}
use Rattle.std.specs.Option.{option_or}
use Rattle.std.specs.Str.{bytes_eq}
use Rattle.lrs_reads.specs.Cmi5SessionOwn.{is_cmi5_defined}
use Rattle.lrs_reads.specs.Cmi5SessionRules.{broken_outside}
use Rattle.lrs_command.specs.declared.command.Command.{Command}
use Rattle.lrs_command.specs.declared.command.Command.TheVariants as command
use Rattle.lrs_rules.specs.declared.rule.Rule.TheVariants as rule
use Rattle.lrs_fold.specs.Own.{IsPut, MayRefusePut, SaysOfPut}
use Rattle.lrs_reads.specs.LrsHistoryEffects.{effect}
use Rattle.lrs_reads.specs.LrsHistoryHistory.{next_entry, refused, outcome, outcome_by}
use Rattle.lrs_reads.specs.LrsHistoryRefusals.{broken, other_id, refused_form, refused_over, told_forbidden}
use Rattle.lrs_json.specs.Json.{Json}
use Rattle.lrs_json.specs.View.{view}
use Rattle.lrs_names.specs.declared.draw.Draw.{Draw}
use Rattle.lrs_learning.specs.LrsStateState.{State, changes_nothing}
use Rattle.lrs_record.specs.declared.entry.Caller.{Caller}
use Rattle.lrs_record.specs.declared.entry.Caller.TheVariants.{Nobody, Operator, Token}
use Rattle.lrs_record.specs.declared.entry.Entry.{Entry}
use Rattle.lrs_record.specs.declared.entry.Write.TheVariants.{Put}
use Rattle.lrs_replies.specs.declared.answered.Answered.TheVariants.{Kept, Same}
use Rattle.lrs_replies.specs.declared.answered.Refusal.{Refusal}
use Rattle.lrs_replies.specs.declared.answered.Refusal.TheVariants.{Broken, Conflict, TooLong}
use Rattle.xapi_alike.specs.Same.{same}
use Rattle.lrs_ids.specs.Choices.{first_some, when}
use Rattle.xapi_statement.specs.Statements.{held_under}
use Rattle.xapi_rules.specs.Rules.{broken_rule, is_voiding}
use Rattle.xapi_statement.specs.Stored.{StoredStatement}
use Rattle.xapi_statement.specs.Statement.{is_too_long, own_id}

abbrev MayRefuse : Option Refusal → Type 0
MayRefuse None = Unit {0}
MayRefuse (Some r) = MayRefusePut r

may_or : (o p : Option Refusal) → MayRefuse o → MayRefuse p → MayRefuse (option_or o p)
may_or None p first second = second
may_or (Some r) p first second = first

may_when : (b : Bool) (r : Refusal) → MayRefusePut r → MayRefuse (when b r)
may_when true r may = may
may_when false r may = tt

may_break : (n : Option ℕ) → MayRefuse (broken n)
may_break None = tt
may_break (Some n) = tt

may_be_other : (id : List ℕ) (o : Option (List ℕ)) → MayRefuse (other_id id o)
may_be_other id None = tt
may_be_other id (Some own) = may_when (not (bytes_eq own id)) (Broken (rule.P 15)) tt

may_form : (id : List ℕ) (j : Json) → MayRefuse (refused_form id j)
may_form id j = may_or (when (is_too_long j) TooLong) (first_some (broken (broken_rule j) ∷ other_id id (own_id j) ∷ [])) (may_when (is_too_long j) TooLong tt)
    (may_or (broken (broken_rule j)) (first_some (other_id id (own_id j) ∷ [])) (may_break (broken_rule j)) (may_or (other_id id (own_id j)) None (may_be_other id (own_id j)) tt))

-- an admin writes no statement that cmi5 defines, and may void
may_say : (defined voiding : Bool) → MayRefuse (told_forbidden (first_some (when defined 1 ∷ when (voiding && false) 2 ∷ [])))
may_say true voiding = refl
may_say false true = tt
may_say false false = tt

may_meet : (id : List ℕ) (j : Json) (held : Option StoredStatement) → MayRefuse (refused_over (told_forbidden (broken_outside true j)) id j held)
may_meet id j None = may_say (is_cmi5_defined j) (is_voiding j)
may_meet id j (Some held) = may_when (not (same (view held.received) j)) (Conflict id) tt

by_refusal : (o : Option Refusal) (b : Bool) (e : Entry) → MayRefuse o
    → SaysOfPut (outcome_by (option_or (option_map refused o) (when b (if b then Same else Kept))) e (if b then Same else Kept))
by_refusal (Some r) b e may = may
by_refusal None true e may = tt
by_refusal None false e may = tt

pub put_says : (st : State) (caller : Caller) (c : Command) (clock : ℕ) (draw : Draw) → IsPut caller c → SaysOfPut (outcome st caller c clock draw)
put_says st Operator (command.Write (Put id statement)) clock draw is =
    let e : Entry = next_entry st Operator (Put id statement) clock draw in
    by_refusal (first_some (None ∷ refused_form id (view statement) ∷ refused_over (told_forbidden (broken_outside true (view statement))) id (view statement) (held_under id st.statements) ∷ [])) (changes_nothing (effect st e)) e
    (may_or (refused_form id (view statement)) (option_or (refused_over (told_forbidden (broken_outside true (view statement))) id (view statement) (held_under id st.statements)) None) (may_form id (view statement))
    (may_or (refused_over (told_forbidden (broken_outside true (view statement))) id (view statement) (held_under id st.statements)) None (may_meet id (view statement) (held_under id st.statements)) tt))
put_says st Operator other clock draw is = absurd is
put_says st Nobody c clock draw is = absurd is
put_says st (Token token) c clock draw is = absurd is
