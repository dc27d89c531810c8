use Rattle.std.proofs.Common.{ap, ◌∙◌}
use Rattle.lrs_json.specs.Json as Json
use Rattle.lrs_json.proofs.Views.{view-Number}
use Rattle.lrs_json_reader.proofs.Readings.{number_done}
use Rattle.lrs_json_reader.proofs.reader.Reader.number.Goals as goal

pub returns : goal.returns
returns c =
    number_done _ c.in_ok-spelling.spelling _ _ _ _ (view-Number c.of.result ∙ ap Json.number c.of.ensures) c.len-left.ensures c.note_number.ensures.cursor c.in_ok-spelling.ensures.found c.in_ok-spelling.ensures.all c.note_number.ensures.flaws
