use Rattle.std.proofs.Common.{◌≡◌, ◌++◌, drop, map, nat_lt}
use Rattle.lrs_json.specs.Json.{string}
use Rattle.lrs_json.specs.View.{elements_of}
use Rattle.lrs_json.specs.Written.{elements_text}
use Rattle.lrs_replies.specs.Texts.{states_body}
use Rattle.lrs_replies.proofs.showing.states_text.Given as goal

-- what is written and what is left are the whole text
abbrev pub invariant-loop-i : goal.invariant-loop-i
invariant-loop-i l = l.body.items ++ elements_text (nat_lt 0 l.i) (elements_of (map string (drop l.i l.states))) ≡ states_body l.states
