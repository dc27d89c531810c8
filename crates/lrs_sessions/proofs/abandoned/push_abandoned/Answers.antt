use Rattle.std.proofs.Common.{◌∙◌, sym, ap}
use Rattle.std.proofs.lemmas.Result.{on_ok_weaker}
use Rattle.lrs_json.specs.View.{view}
use Rattle.lrs_made.specs.Said.{json_given, jsons_of}
use Rattle.lrs_made.specs.LrsPartsParts.{state_of}
use Rattle.lrs_sessions.proofs.Told.{told_none, told_one}
use Rattle.lrs_sessions.proofs.abandoned.push_abandoned.Goals as goal

pub returns-in-Some : goal.returns-in-Some
returns-in-Some c =
    on_ok_weaker c.push_said.result
    (λ is. told_one (state_of c.args.parts.now) c.args.number (jsons_of c.args.said.now.items) (jsons_of c.push_said.new.said.items) (view c.in-Some.statement.tree) is
    (sym (ap json_given c.in-Some.is) ∙ c.in_ok-made.ensures))
    c.push_said.ensures

pub returns-in-None : goal.returns-in-None
returns-in-None c = told_none (state_of c.args.parts.now) c.args.number (jsons_of c.args.said.now.items) (sym (ap json_given c.in-None.is) ∙ c.in_ok-made.ensures)
