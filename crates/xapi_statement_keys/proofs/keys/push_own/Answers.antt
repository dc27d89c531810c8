use Rattle.std.proofs.lemmas.Result.{on_ok_weaker}
use Rattle.xapi_statement_keys.specs.Adding.{own_keys, registration_keys, same_parts}
use Rattle.xapi_statement_keys.specs.declared.key.Key.TheVariants as key
use Rattle.xapi_statement_keys.proofs.Growing.{adds_three}
use Rattle.xapi_statement_keys.proofs.Whole.{own_split}
use Rattle.xapi_statement_keys.proofs.keys.push_own.Goals as goal

pub returns : goal.returns
returns c =
    let s = c.args.statement.now in
    let id = c.id.result in
    let verb = c.verb.result.now in
    let registration = c.registration.result in
    on_ok_weaker c.push_registration.result
    (λ adds. adds_three c.args.keys.now.items c.push.new.keys.items c.push_verb.new.keys.items c.push_registration.new.keys.items
    (λ k. same_parts (key.Statement id) k) (λ k. same_parts (key.Verb verb) k) (registration_keys registration)
    (own_keys s) (own_split s id verb registration c.id.ensures c.verb.ensures c.registration.ensures) c.in_ok-push.ensures c.in_ok-push_verb.ensures adds)
    c.push_registration.ensures
