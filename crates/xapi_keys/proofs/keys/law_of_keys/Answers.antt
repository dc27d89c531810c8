use Rattle.xapi_keys.proofs.SameKeys.{keys_are_their_parts}
use Rattle.xapi_keys.proofs.keys.law_of_keys.Goals as goal

pub returns : goal.returns
returns c = keys_are_their_parts
