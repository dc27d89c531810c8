use Rattle.std.proofs.Common.{◌∙◌, ◌++◌, List, ℕ, Bool, sym, ap}
use Rattle.std.specs.Prelude.{codes}
use Rattle.lrs_http.specs.Response.{field, where_so, line_end}
use Rattle.lrs_http.proofs.SendLemmas.{written_as, field_is}
use Rattle.lrs_http.proofs.response.Output.put_field.Goals as goal

pub returns-then-applies : goal.returns-then-applies
returns-then-applies g c text start w =
    let whole = c.put-then-applies-3.ensures _ _ (c.put-then-applies-2.ensures _ _ (c.put-then-applies.ensures _ _ (c.put.ensures text start w))) in
    let same = ap (λ (n : List ℕ). text ++ n ++ codes ": " ++ c.args.value.now ++ line_end) c.as_bytes.ensures.value
    ∙ field_is text c.args.name.now (codes ": ") c.args.value.now line_end
    ∙ ap (λ (b : Bool). text ++ where_so b (field c.args.name.now c.args.value.now)) (sym c.if-applies.true) in
    written_as _ _ _ _ _ _ same whole
