use Rattle.std.proofs.Common.{refl, ◌∙◌}
use Rattle.lrs_json.specs.Json.{string}
use Rattle.lrs_json_reader.specs.Grammar.{Quoted}
use Rattle.lrs_json.specs.View.{view}
use Rattle.lrs_json.proofs.Views.{view-Words}
use Rattle.lrs_json_reader.proofs.Readings.{string_done, reads_err}
use Rattle.lrs_json_reader.proofs.reader.Reader.string.Goals as goal

pub returns-in_err-quoted : goal.returns-in_err-quoted
returns-in_err-quoted c = reads_err Quoted string view (λ flaws _. flaws) _ _ _ c.from_residual.ensures.1 (λ y is s rest q ends. is ∙ c.in_err-quoted.ensures.all s rest q)

pub returns : goal.returns
returns c = string_done _ _ _ _ (view-Words c.in_ok-quoted.field-0) c.in_ok-quoted.ensures.found c.in_ok-quoted.ensures.shorter c.in_ok-quoted.ensures.all refl
