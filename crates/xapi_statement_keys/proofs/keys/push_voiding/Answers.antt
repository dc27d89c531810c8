use Rattle.std.proofs.Common.{Bool, ◌&&◌, OnOk, false, refl, sym, subst}
use Rattle.xapi_statement_keys.specs.Adding.{Adds, same_parts}
use Rattle.xapi_statement_keys.specs.declared.key.Key.TheVariants as key
use Rattle.xapi_statement_keys.proofs.Growing.{adds_none}
use Rattle.xapi_statement_keys.proofs.keys.push_voiding.Goals as goal

pub returns-then-voiding : goal.returns-then-voiding
returns-then-voiding c =
    subst (λ (b : Bool). OnOk c.push.result (Adds c.args.keys.now.items c.push.new.keys.items (λ k. b && same_parts (key.Voiding c.args.id.now) k)))
    (sym c.if-voiding.true) c.push.ensures

pub returns-else-voiding : goal.returns-else-voiding
returns-else-voiding c =
    let keys = c.args.keys.now.items in
    subst (λ (b : Bool). Adds keys keys (λ k. b && same_parts (key.Voiding c.args.id.now) k)) (sym c.if-voiding.false)
    (adds_none keys (λ k. false && same_parts (key.Voiding c.args.id.now) k) (λ k. refl))
