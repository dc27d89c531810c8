use Rattle.std.proofs.Common.{ℕ, List, [], ◌∷◌, ◌++◌, Bool, Option, ap, ◌∙◌}
use Rattle.lrs_made.specs.LrsHistoryRefusals.{forbidden, refused_under}
use Rattle.lrs_json.specs.View.{view}
use Rattle.lrs_made.specs.LrsPartsParts.{state_of}
use Rattle.lrs_refusals.specs.Known.{is_given_held}
use Rattle.lrs_refusals.proofs.meeting.refused_own.Goals as goal

pub returns-clause-refused : goal.returns-clause-refused
returns-clause-refused c =
    let st = state_of c.args.parts.now in
    let j = view c.args.statement.now in
    c.in_ok-meeting.ensures.refused
    ∙ ap (λ (id : Option (List ℕ)). refused_under st (forbidden st c.args.who c.args.parts.now.statements.held j) id j) c.own_id.ensures

pub returns-clause-held : goal.returns-clause-held
returns-clause-held c =
    c.in_ok-push.ensures.ok
    ∙ ap (λ (held : Bool). c.args.held.now ++ held ∷ [])
    (c.in_ok-meeting.ensures.held ∙ ap (λ (id : Option (List ℕ)). is_given_held (state_of c.args.parts.now) id) c.own_id.ensures)
