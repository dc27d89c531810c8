use Rattle.std.proofs.lemmas.Result.{on_ok_weaker}
use Rattle.xapi_received.proofs.Keeping.{comma_left, comma_put, no_comma}
use Rattle.xapi_received.proofs.marking.mark_comma.Goals as goal

pub returns-then-later : goal.returns-then-later
returns-then-later c =
    on_ok_weaker c.put.result (λ put ordered. comma_put c.args.stands c.args.later c.args.draft.now c.put.new.self c.if-later.true ordered put) c.put.ensures

pub returns-then-stands : goal.returns-then-stands
returns-then-stands c =
    on_ok_weaker c.leave.result (λ left ordered. comma_left c.args.stands c.args.later c.args.draft.now c.leave.new.self c.if-stands.true c.if-later.false left) c.leave.ensures.adds

pub returns-else-stands : goal.returns-else-stands
returns-else-stands c = λ ordered. no_comma c.args.stands c.args.later c.args.draft.now c.if-stands.false c.if-later.false
