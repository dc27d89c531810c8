use Rattle.std.proofs.Common.{ℕ, List, Option, Some, None, OnOk, sym, subst}
use Rattle.std.proofs.lemmas.Result.{on_ok_weaker}
use Rattle.xapi_statement_keys.specs.Adding.{Adds, registration_keys, same_parts}
use Rattle.xapi_statement_keys.specs.declared.key.Key.TheVariants as key
use Rattle.xapi_statement_keys.proofs.Growing.{adds_none, adds_same}
use Rattle.xapi_statement_keys.proofs.Whole.{no_registration, one_registration}
use Rattle.xapi_statement_keys.proofs.keys.push_registration.Goals as goal

pub returns-in-Some : goal.returns-in-Some
returns-in-Some c =
    let id = c.in-Some.id in
    let old = c.args.keys.now.items in
    let new = c.push.new.keys.items in
    subst (λ (o : Option (List ℕ)). OnOk c.push.result (Adds old new (registration_keys o))) (sym c.in-Some.is)
    (on_ok_weaker c.push.result (λ adds. adds_same old new (λ k. same_parts (key.Registration id) k) (registration_keys (Some id)) (one_registration id) adds) c.push.ensures)

pub returns-in-None : goal.returns-in-None
returns-in-None c =
    let keys = c.args.keys.now.items in
    subst (λ (o : Option (List ℕ)). Adds keys keys (registration_keys o)) (sym c.in-None.is) (adds_none keys (registration_keys None) no_registration)
