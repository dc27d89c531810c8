use Rattle.std.proofs.Common.{[], ◌∷◌, nat_eq, sym, ap, ◌∙◌, subst}
use Rattle.std.proofs.lemmas.List.{take_rest}
use Rattle.std.specs.List.{starts_with}
use Rattle.lrs_json_reader.specs.Steps.{IsPlain}
use Rattle.lrs_json_reader.proofs.Texts.{plain_found}
use Rattle.lrs_json_reader.proofs.cursor.Cursor.plain_len.Goals as goal

pub returns-then-starts_with : goal.returns-then-starts_with
returns-then-starts_with c =
    let n = c.plain_len-n.result in
    let left = c.self.inside.left.now in
    let quote = sym c.if-starts_with.true ∙ c.starts_with.ensures.value ∙ ap (λ z. starts_with nat_eq z (34 ∷ [])) (take_rest left n) in
    subst (IsPlain n) c.self.view_is (plain_found n left c.plain_len-n.ensures.value c.plain_len-n.ensures.bound quote)
