use Rattle.std.proofs.Common.{[], refl, List, ℕ}
use Rattle.lrs_http.specs.Response.{response_of}
use Rattle.lrs_hall.proofs.Writing.{wrote_of}
use Rattle.lrs_hall.proofs.answering.write_reply.Goals as goal

pub returns-clause-wrote : goal.returns-clause-wrote
returns-clause-wrote g c =
    let text : List ℕ = response_of c.args.reply.now.status c.media_text.result.now c.body_bytes.result.now c.through_text.result [] c.args.closes in (
      text,
      (c.through_text.result, c.through_text.ensures, rw (c.media_text.ensures, c.body_bytes.ensures) refl),
      wrote_of text c.write_response.result _ _ c.write_response.ensures.whole c.write_response.ensures.part,
    )
