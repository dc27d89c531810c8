use Rattle.std.proofs.Common.{ℕ, List, OnOk, subst}
use Rattle.xapi_statement_keys.specs.Adding.{Adds, same_parts}
use Rattle.xapi_statement_keys.specs.declared.key.Key.TheVariants as key
use Rattle.xapi_statement_keys.proofs.activities.push_id_copy.Goals as goal

pub returns : goal.returns
returns c =
    subst (λ (text : List ℕ). OnOk c.push.result (Adds c.args.keys.now.items c.push.new.keys.items (λ k. same_parts (key.Activity text) k))) c.in_ok-clone.ensures.cases c.push.ensures
