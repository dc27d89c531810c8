use Rattle.std.proofs.Common.{Option, None, OnOk, subst}
use Rattle.lrs_json.specs.Json.{Json}
use Rattle.xapi_statement_keys.specs.Adding.{Adds, object_keys}
use Rattle.xapi_statement_keys.proofs.Growing.{adds_none}
use Rattle.xapi_statement_keys.proofs.Named.{no_object}
use Rattle.xapi_statement_keys.proofs.roles.push_object_at.Goals as goal

pub returns-in-Some : goal.returns-in-Some
returns-in-Some c =
    subst (λ (o : Option Json). OnOk c.push_any_object.result (Adds c.args.keys.now.items c.push_any_object.new.keys.items (object_keys o))) c.in-Some.ensures c.push_any_object.ensures

pub returns-in-None : goal.returns-in-None
returns-in-None c =
    let keys = c.args.keys.now.items in
    subst (λ (o : Option Json). Adds keys keys (object_keys o)) c.in-None.ensures (adds_none keys (object_keys None) no_object)
