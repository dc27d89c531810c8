use Rattle.std.proofs.Common.{Some, ◌&&◌}
use Rattle.std.proofs.lemmas.Result.{on_ok_weaker}
use Rattle.xapi_statement_keys.specs.Adding.{reference_keys, same_parts}
use Rattle.xapi_statement_keys.specs.declared.key.Key.TheVariants as key
use Rattle.xapi_statement_keys.proofs.Growing.{adds_three}
use Rattle.xapi_statement_keys.proofs.Whole.{reference_split}
use Rattle.xapi_statement_keys.proofs.keys.push_target.Goals as goal

pub returns : goal.returns
returns c =
    let id = c.args.id.now in
    let voiding = c.args.voiding in
    on_ok_weaker c.push-2.result
    (λ adds. adds_three c.args.keys.now.items c.push.new.keys.items c.push_voiding.new.keys.items c.push-2.new.keys.items
    (λ k. same_parts (key.Reference id) k) (λ k. voiding && same_parts (key.Voiding id) k) (λ k. same_parts key.AnyReference k)
    (reference_keys voiding (Some id)) (reference_split voiding id) c.in_ok-push.ensures c.in_ok-push_voiding.ensures adds)
    c.push-2.ensures
