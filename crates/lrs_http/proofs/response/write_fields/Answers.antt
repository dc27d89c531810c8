use Rattle.std.proofs.Common.{◌∙◌, [], sym, false}
use Rattle.lrs_http.proofs.SendLemmas.{written_none, written_only, written_waits, written_as, response_is, status_code}
use Rattle.lrs_http.proofs.response.write_fields.Goals as goal

pub put_status_line-requires : goal.put_status_line-requires
put_status_line-requires g c = status_code c.args.reply.now.status c.requires

pub returns : goal.returns
returns g c =
    let begun = written_waits [] [] c.new.result.items false _ _ (sym c.new.ensures) (written_none _) in
    let head = c.put_field-2.ensures _ _ (c.put_field.ensures _ _ (c.put_status_line.ensures _ _ begun)) in
    let fields = c.put_field-6.ensures _ _ (c.put_field-5.ensures _ _ (c.put_field-4.ensures _ _ (c.put_moment.ensures _ _ (c.put_field-3.ensures _ _ head)))) in
    let sent = written_only _ _ _ _ _ (c.flush.ensures.sent _ _ (c.put-2.ensures _ _ (c.put.ensures _ _ fields))) in
    let whole = written_waits _ _ [] _ _ _ c.flush.ensures.empty sent in
    written_as _ _ _ _ _ _
    (response_is c.args.reply.now.status c.args.reply.now.media.now c.args.reply.now.body.now c.args.reply.now.through c.args.reply.now.allow.now c.args.closes
    c.as_bytes.result.now c.as_bytes-size.result.now c.as_bytes-2.result.now c.as_bytes.ensures.value (c.as_bytes-size.ensures.value ∙ c.format.ensures.text) c.as_bytes-2.ensures.value)
    whole
