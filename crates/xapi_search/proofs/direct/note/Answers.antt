use Rattle.std.proofs.Common.{◌≡◌, ◌∙◌, ◌++◌, ◌∷◌, [], ap, sym, if◌then◌else◌}
use Rattle.std.proofs.lemmas.Result.{on_ok_weaker}
use Rattle.xapi_search.proofs.direct.note.Goals as goal

pub returns-then-is_direct_at : goal.returns-then-is_direct_at
returns-then-is_direct_at c =
    let old = c.args.found.now.items in
    let direct = sym c.is_direct_at.ensures ∙ c.if-is_direct_at.true in
    on_ok_weaker c.put.result
    (λ (is : c.put.new.found.items ≡ old ++ c.args.position ∷ []). is ∙ sym (ap (λ b. if b then old ++ c.args.position ∷ [] else old) direct))
    c.put.ensures

pub returns-else-is_direct_at : goal.returns-else-is_direct_at
returns-else-is_direct_at c =
    let old = c.args.found.now.items in
    sym (ap (λ b. if b then old ++ c.args.position ∷ [] else old) (sym c.is_direct_at.ensures ∙ c.if-is_direct_at.false))
