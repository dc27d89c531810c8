use Rattle.lrs_names.proofs.IdTexts.{IsUtf8-id_text}
use Rattle.xapi_query.proofs.form.put_id.Goals as goal

pub utf8_text-requires : goal.utf8_text-requires
utf8_text-requires c = rw c.text.ensures.text (IsUtf8-id_text _)
