use Rattle.std.proofs.Common.{sym, ◌∙◌, ap, subst}
use Rattle.xapi_search.specs.Narrowing.{EachAscends, is_in_each}
use Rattle.xapi_search.proofs.Narrowed.{Lists}
use Rattle.xapi_search.proofs.sought.Sought.passes.Goals as goal

pub is_in_each-requires : goal.is_in_each-requires
is_in_each-requires c = subst (λ (lists : Lists). EachAscends lists) (sym c.as_slice.ensures.value) c.requires.filters

pub returns : goal.returns
returns c = c.is_in_each.ensures ∙ ap (λ (lists : Lists). is_in_each lists c.args.position) c.as_slice.ensures.value
