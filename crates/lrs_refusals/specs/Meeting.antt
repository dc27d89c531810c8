-- What statements meet under the ids of those that are held; and of those that come together, each by itself, or behind
-- those of its session before it.
use Rattle.std.specs.Prelude.{ℕ, Bool, false, not, List, [], ◌∷◌, drop, Option, Some, None, if◌then◌else◌}
use Rattle.std.specs.Option.{option_or}
use Rattle.lrs_made.specs.Cmi5SessionRules.{broken_rule}
use Rattle.lrs_made.specs.Cmi5SessionViews.{SeenSession, view_behind}
use Rattle.lrs_command.specs.declared.who.Who.{Who}
use Rattle.lrs_command.specs.declared.who.Who.TheVariants as who
use Rattle.lrs_made.specs.LrsHistoryOccasions.{Occasion, supply_in}
use Rattle.lrs_made.specs.LrsHistoryRefusals.{forbidden, refused_under, told_forbidden}
use Rattle.lrs_made.specs.LrsHistorySessions.{is_abandoned}
use Rattle.lrs_ids.specs.Choices.{when}
use Rattle.lrs_json.specs.Json.{Json}
use Rattle.lrs_json.specs.View.{view}
use Rattle.lrs_json.specs.declared.tree.Tree.{Tree}
use Rattle.lrs_names.specs.declared.draw.Draw.{Draw}
use Rattle.lrs_made.specs.LrsStateState.{State}
use Rattle.lrs_record.specs.declared.entry.Write.{Write}
use Rattle.lrs_refusals.specs.Naming.{with_these_ids}
use Rattle.lrs_replies.specs.declared.answered.Refusal.{Refusal}
use Rattle.lrs_replies.specs.declared.answered.Refusal.TheVariants.{Conflict}
use Rattle.xapi_alike.specs.Same.{same}
use Rattle.xapi_index.specs.Batches.{WithId}
use Rattle.xapi_statement.specs.Statements.{held_under, is_held, is_target}
use Rattle.xapi_statement.specs.Statement.{own_id}
use Rattle.xapi_statement.specs.Stored.{StoredStatement}

-- The occasion on which a caller writes: the ids that the write can make are those of the draw.
abbrev pub occasion_of : State → Who → Draw → Write → ℕ → List ℕ → Occasion
occasion_of st by draw write moment token = record {
  by = by;
  moment = moment;
  token = token;
  supply = supply_in st write draw;
}

-- the caller is a session that was abandoned
abbrev pub was_abandoned : State → Who → Bool
was_abandoned st (who.Session k) = is_abandoned st k
was_abandoned st other = false

-- What is told of a statement under whose id that one is held. If none is, it is new, and nothing is told yet.
abbrev pub told_beside : List ℕ → Json → Option StoredStatement → Option (Option Refusal)
told_beside id j None = None
told_beside id j (Some held) = Some (when (not (same (view held.received) j)) (Conflict id))

-- the same of a statement that comes under that id, or under none
abbrev pub told_if_held : State → Option (List ℕ) → Json → Option (Option Refusal)
told_if_held st None j = None
told_if_held st (Some id) j = told_beside id j (held_under id st.statements)

-- the refusal of the first statement that is refused under its own id, whatever stands before it
abbrev pub refused_each : State → Who → List Tree → Option Refusal
refused_each st by [] = None
refused_each st by (t ∷ ts) = option_or
    (refused_under st (forbidden st by st.statements (view t)) (own_id (view t)) (view t))
    (refused_each st by ts)

-- the session behind the next statement, if that is new
abbrev pub session_behind : State → SeenSession → WithId → SeenSession
session_behind st session n =
    if is_held n.id st.statements then session else view_behind session (view n.tree) (is_target n.id st.statements)

-- why the next statement of a session isn't kept
abbrev pub refused_next : State → SeenSession → Tree → Option Refusal
refused_next st session t =
    refused_under st (told_forbidden (broken_rule session (view t))) (own_id (view t)) (view t)

-- the refusal of the first that is refused of a session's statements, each behind those before it
abbrev pub refused_behind : State → SeenSession → List WithId → Option Refusal
refused_behind st session [] = None
refused_behind st session (n ∷ ns) =
    option_or (refused_next st session n.tree) (refused_behind st (session_behind st session n) ns)

-- the same of those from that index on
abbrev pub refused_from : State → SeenSession → List (List ℕ) → List Tree → ℕ → Option Refusal
refused_from st session ids trees at = refused_behind st session (with_these_ids (drop at ids) (drop at trees))
