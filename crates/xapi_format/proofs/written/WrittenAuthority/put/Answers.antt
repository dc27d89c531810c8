use Rattle.std.proofs.Common.{◌++◌, List, ℕ, true, codes, ap, ◌∙◌}
use Rattle.std.proofs.lemmas.Result.{on_ok_weaker}
use Rattle.lrs_json.specs.Texts.{member_text}
use Rattle.xapi_format.specs.Authorities.{authority_json}
use Rattle.xapi_format.specs.declared.authority.Authority.{Authority}
use Rattle.xapi_format.proofs.written.WrittenAuthority.put.Goals as goal

pub returns-clause-ok : goal.returns-clause-ok
returns-clause-ok c =
    let old = c.args.into.now.items in
    on_ok_weaker c.put.result (λ e. e ∙ ap (λ (t : List ℕ). old ++ t) (c.as_slice.ensures.value ∙ c.self.invariant.member)
    ∙ ap (λ (a : Authority). old ++ member_text true (codes "authority") (authority_json a)) c.self.view_is) c.put.ensures.ok
