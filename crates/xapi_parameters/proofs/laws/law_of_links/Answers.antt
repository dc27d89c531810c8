use Rattle.xapi_parameters.proofs.LinkAlone.{links_alone}
use Rattle.xapi_parameters.proofs.LinkBack.{links_back}
use Rattle.xapi_parameters.proofs.laws.law_of_links.Goals as goal

pub returns-clause-back : goal.returns-clause-back
returns-clause-back c = links_back

pub returns-clause-alone : goal.returns-clause-alone
returns-clause-alone c = links_alone
