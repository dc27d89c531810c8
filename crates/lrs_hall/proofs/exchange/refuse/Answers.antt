use Rattle.lrs_hall.proofs.Refusing.{refuses}
use Rattle.lrs_hall.proofs.exchange.refuse.Goals as goal

pub returns-in-Some-clause-refused : goal.returns-in-Some-clause-refused
returns-in-Some-clause-refused g c =
    refuses c.args.refused c.framing_response.result c.in-Some.response c.plain.result c.finish_after-due.result c.write_fixed-sent.result _ _ c.answered.result
    c.framing_response.ensures c.in-Some.is c.plain.ensures c.finish_after-due.ensures c.write_fixed-sent.ensures.wrote c.answered.ensures
