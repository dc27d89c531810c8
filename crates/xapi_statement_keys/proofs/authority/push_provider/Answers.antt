use Rattle.std.proofs.Common.{ℕ, Option, Some, None, OnOk, subst}
use Rattle.std.proofs.lemmas.Result.{on_ok_weaker}
use Rattle.xapi_statement_keys.specs.Adding.{Adds, provider_keys, same_parts}
use Rattle.xapi_statement_keys.specs.declared.key.Key.TheVariants as key
use Rattle.xapi_statement_keys.proofs.Growing.{adds_none, adds_same}
use Rattle.xapi_statement_keys.proofs.Whole.{no_provider, one_provider}
use Rattle.xapi_statement_keys.proofs.authority.push_provider.Goals as goal

pub returns-in-Some : goal.returns-in-Some
returns-in-Some c =
    let number = c.in-Some.number in
    let old = c.args.keys.now.items in
    let new = c.push.new.keys.items in
    subst (λ (o : Option ℕ). OnOk c.push.result (Adds old new (provider_keys o))) c.in-Some.ensures
    (on_ok_weaker c.push.result (λ adds. adds_same old new (λ k. same_parts (key.Provider number) k) (provider_keys (Some number)) (one_provider number) adds) c.push.ensures)

pub returns-in-None : goal.returns-in-None
returns-in-None c =
    let keys = c.args.keys.now.items in
    subst (λ (o : Option ℕ). Adds keys keys (provider_keys o)) c.in-None.ensures (adds_none keys (provider_keys None) no_provider)
