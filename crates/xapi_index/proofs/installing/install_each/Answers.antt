use Rattle.std.proofs.Common.{◌≡◌, ◌++◌, ◌∙◌, List, ap, arith, length, subst, sym, take}
use Rattle.std.proofs.lemmas.List.{length-append}
use Rattle.xapi_index.specs.Index.{IsRising}
use Rattle.xapi_index.proofs.Standing.{front_stays}
use Rattle.xapi_postings.specs.XapiStatementStored.{StoredStatement}
use Rattle.xapi_index.proofs.installing.install_each.Goals as goal

pub are_rising-requires-clause-within : goal.are_rising-requires-clause-within
are_rising-requires-clause-within c =
    let held = c.args.held.now in
    let all = c.append_each.ensures.held in
    omega (arith, c.len-before.ensures, held.ok.0, ap length c.as_slice.ensures.value, ap length all, length-append held.items c.args.ahead.now.items)

pub are_rising-requires-clause-known : goal.are_rising-requires-clause-known
are_rising-requires-clause-known c =
    let held = c.args.held.now in
    let front : take c.len-before.result c.as_slice.result.now ≡ held.items =
    ap (λ (xs : List StoredStatement). take c.len-before.result xs) (c.as_slice.ensures.value ∙ c.append_each.ensures.held)
    ∙ (ap (λ n. take n (held.items ++ c.args.ahead.now.items)) (c.len-before.ensures ∙ held.ok.0) ∙ front_stays held.items c.args.ahead.now.items) in
    λ is. subst (λ (xs : List StoredStatement). IsRising xs) (sym front) (c.requires.rising is)

pub returns-clause-held : goal.returns-clause-held
returns-clause-held c = c.append_each.ensures.held

pub returns-clause-nothing : goal.returns-clause-nothing
returns-clause-nothing c = c.append_each.ensures.nothing

pub returns-clause-rising : goal.returns-clause-rising
returns-clause-rising c = λ is. subst (λ (xs : List StoredStatement). IsRising xs) c.as_slice.ensures.value (c.are_rising.ensures is)
