use Rattle.xapi_statement_keys.proofs.SameKeys.{same_keys_are_one}
use Rattle.xapi_statement_keys.proofs.keys.law_of_keys.Goals as goal

pub returns : goal.returns
returns c = same_keys_are_one
