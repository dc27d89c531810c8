use Rattle.std.proofs.Common.{Bool, ◌&&◌, OnOk, false, refl, sym, subst}
use Rattle.xapi_statement_keys.specs.Adding.{Adds, same_parts}
use Rattle.xapi_statement_keys.specs.declared.key.Key.TheVariants as key
use Rattle.xapi_statement_keys.proofs.Growing.{adds_none}
use Rattle.xapi_statement_keys.proofs.activities.push_plain_id.Goals as goal

pub returns-then-direct : goal.returns-then-direct
returns-then-direct c =
    subst (λ (b : Bool). OnOk c.push_id_copy.result (Adds c.args.keys.now.items c.push_id_copy.new.keys.items (λ k. b && same_parts (key.Activity c.args.id.now) k)))
    (sym c.if-direct.true) c.push_id_copy.ensures

pub returns-else-direct : goal.returns-else-direct
returns-else-direct c =
    let keys = c.args.keys.now.items in
    subst (λ (b : Bool). Adds keys keys (λ k. b && same_parts (key.Activity c.args.id.now) k)) (sym c.if-direct.false)
    (adds_none keys (λ k. false && same_parts (key.Activity c.args.id.now) k) (λ k. refl))
