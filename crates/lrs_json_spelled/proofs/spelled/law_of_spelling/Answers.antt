use Rattle.lrs_json_spelled.proofs.Law.{finds_what_is_spelled}
use Rattle.lrs_json_spelled.proofs.spelled.law_of_spelling.Goals as goal

pub returns : goal.returns
returns c = finds_what_is_spelled
