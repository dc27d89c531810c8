use Rattle.std.proofs.Common.{ℕ, List, OnOk, subst}
use Rattle.xapi_statement_keys.specs.Adding.{Adds, same_parts}
use Rattle.xapi_statement_keys.specs.declared.key.Key.TheVariants as key
use Rattle.xapi_statement_keys.proofs.keys.push_verb.Goals as goal

pub returns : goal.returns
returns c =
    subst (λ (text : List ℕ). OnOk c.push.result (Adds c.args.keys.now.items c.push.new.keys.items (λ k. same_parts (key.Verb text) k))) c.in_ok-text.ensures.copied c.push.ensures
