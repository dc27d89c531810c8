use Rattle.lrs_laws.proofs.Fetching.{fetches_give, keys_give_once, used_keys_are_told}
use Rattle.lrs_laws.proofs.laws.law_of_fetches.Goals as goal

pub returns-clause-give : goal.returns-clause-give
returns-clause-give c = fetches_give

pub returns-clause-once : goal.returns-clause-once
returns-clause-once c = keys_give_once

pub returns-clause-used : goal.returns-clause-used
returns-clause-used c = used_keys_are_told
