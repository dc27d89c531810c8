-- What a write changes, by its caller, its moment and its draw; and in whose session something new is said.
use Rattle.std.specs.Prelude.{ℕ, List, [], ◌∷◌, Option, None}
use Rattle.cmi5_course.specs.declared.launch.Launch.{Launch}
use Rattle.lrs_command.specs.declared.who.Who.{Who}
use Rattle.lrs_reads.specs.LrsRefusalsMeeting.{occasion_of}
use Rattle.lrs_reads.specs.LrsHistoryEffects.{effect_of}
use Rattle.lrs_names.specs.declared.draw.Draw.{Draw}
use Rattle.lrs_learning.specs.LrsStateState.{State}
use Rattle.lrs_learning.specs.LrsStateEffectEffect.{Effect}
use Rattle.lrs_record.specs.declared.entry.Write.{Write}
use Rattle.lrs_replies.specs.Texts.{token_text}
use Rattle.xapi_statement.specs.Stored.{StoredStatement}

-- what a write changes by that caller, at that moment and with that draw
abbrev pub effect_by : State → Who → ℕ → Draw → Write → Effect
effect_by st by moment draw write =
    effect_of st (occasion_of st by draw write moment (token_text st.length draw.secret)) write

-- the launch in whose session a caller says something new
abbrev pub speaks_in : List StoredStatement → Option Launch → Option Launch
speaks_in [] launch = None
speaks_in (s ∷ ss) launch = launch
