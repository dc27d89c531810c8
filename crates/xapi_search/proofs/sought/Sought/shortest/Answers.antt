use Rattle.std.proofs.Common.{◌≡◌, ℕ, List, [], true, sym, subst, IfNone, IfSome, Bor}
use Rattle.xapi_index.specs.XapiPostingsAscending.{is_in}
use Rattle.xapi_search.specs.Narrowing.{EachAscends, is_in_each}
use Rattle.xapi_search.proofs.Narrowed.{Lists}
use Rattle.xapi_search.proofs.sought.Sought.shortest.Goals as goal

pub shortest_of-requires : goal.shortest_of-requires
shortest_of-requires c = subst (λ (lists : Lists). EachAscends lists) (sym c.as_slice.ensures.value) c.requires.filters

pub returns-clause-passing : goal.returns-clause-passing
returns-clause-passing c =
    subst (λ (lists : Lists). IfSome c.shortest_of.result (λ (list : Bor (List ℕ)). (k : ℕ) → is_in_each lists k ≡ true → is_in list.now k ≡ true))
    c.as_slice.ensures.value c.shortest_of.ensures.passing

pub returns-clause-ascending : goal.returns-clause-ascending
returns-clause-ascending c = c.shortest_of.ensures.ascending

pub returns-clause-none : goal.returns-clause-none
returns-clause-none c = subst (λ (lists : Lists). IfNone c.shortest_of.result (lists ≡ [])) c.as_slice.ensures.value c.shortest_of.ensures.none
