-- What an entry has beside a write that brings no ids itself.
use Rattle.std.specs.Prelude.{ℕ, []}
use Rattle.lrs_command.specs.declared.who.Who.{Who}
use Rattle.lrs_sessions.specs.LrsHistoryOccasions.{Occasion}
use Rattle.lrs_ids.specs.Ids.{Supply, supply_of}
use Rattle.lrs_names.specs.declared.draw.Draw.{Draw}
use Rattle.lrs_sessions.specs.LrsStateState.{State, used_in}
use Rattle.lrs_replies.specs.Texts.{token_text}

-- the ids that it can make
abbrev pub supply_at : State → Draw → Supply
supply_at st draw = supply_of (used_in st) [] draw.name

abbrev pub occasion_at : State → Who → ℕ → Draw → Occasion
occasion_at st by moment draw = record {
  by = by;
  moment = moment;
  token = token_text st.length draw.secret;
  supply = supply_at st draw;
}
