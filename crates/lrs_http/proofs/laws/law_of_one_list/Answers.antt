use Rattle.lrs_http.proofs.ListLemmas.{one_item, one_list}
use Rattle.lrs_http.proofs.laws.law_of_one_list.Goals as goal

pub returns-clause-item : goal.returns-clause-item
returns-clause-item c = one_item

pub returns-clause-list : goal.returns-clause-list
returns-clause-list c = one_list
