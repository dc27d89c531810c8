use Rattle.std.proofs.Common.{◌≡◌, ℕ, List, ◌∷◌, ◌++◌, [], codes, drop, take, ap, ◌∙◌, subst, IfOk}
use Rattle.std.specs.Fmt.{decimal}
use Rattle.form_urlencoded.specs.Form.{extend_pairs}
use Rattle.xapi_query.specs.Links.{link_text, query_pairs}
use Rattle.xapi_query.proofs.Forms.{two_and_more}
use Rattle.xapi_query.proofs.link.link_text.Goals as goal

pub returns : goal.returns
unfolding link_text
returns c =
    let path = c.in_ok-path.ensures.ok in
    let none = c.for_suffix-form.ensures.form ∙ ap (λ (t : List ℕ). drop 22 t) path in
    let before = c.for_suffix-form.ensures.prefix ∙ ap (λ (t : List ℕ). take 22 t) path in
    let whole = two_and_more _ _ _ _ (codes "asof", decimal c.args.asof) (codes "after", decimal c.args.after) (query_pairs c.args.query.now) none c.in_ok-put_number.ensures c.in_ok-put_number-2.ensures c.in_ok-put_query.ensures in
    let text = c.as_str.ensures.value ∙ c.finish-text.ensures ∙ whole
    ∙ ap (λ (t : List ℕ). t ++ extend_pairs [] ((codes "asof", decimal c.args.asof) ∷ (codes "after", decimal c.args.after) ∷ query_pairs c.args.query.now)) before in
    subst (λ (t : List ℕ). IfOk c.of.result (λ found. found ≡ t)) text c.of.ensures.copied
