use Rattle.std.proofs.Common.{sym, ◌∙◌, ap}
use Rattle.xapi_index.specs.XapiQueryFilters.{sees}
use Rattle.xapi_index.specs.XapiQuerySightSight.{Sight}
use Rattle.xapi_search.proofs.sought.seen_of.Goals as goal

pub returns-in-Nothing-clause-those : goal.returns-in-Nothing-clause-those
returns-in-Nothing-clause-those c = λ k s at. ap (λ (sight : Sight). sees sight s) (sym c.in-Nothing.is)

pub returns-in-All-clause-those : goal.returns-in-All-clause-those
returns-in-All-clause-those c = λ k s at. ap (λ (sight : Sight). sees sight s) (sym c.in-All.is)

pub returns-in-Provider-clause-those : goal.returns-in-Provider-clause-those
returns-in-Provider-clause-those c = λ k s at. c.provided.ensures.those k s at ∙ ap (λ (sight : Sight). sees sight s) (sym c.in-Provider.is)

pub returns-in-Registration-clause-those : goal.returns-in-Registration-clause-those
returns-in-Registration-clause-those c = λ k s at. c.registered.ensures.those k s at ∙ ap (λ (sight : Sight). sees sight s) (sym c.in-Registration.is)
