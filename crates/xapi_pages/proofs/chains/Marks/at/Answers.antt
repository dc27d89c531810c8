use Rattle.std.proofs.Common.{◌∙◌, ap, option_copied, sym, unwrap_or}
use Rattle.xapi_pages.specs.Chains.{mark_at}
use Rattle.xapi_pages.specs.declared.chains.Mark.TheVariants.{Unknown}
use Rattle.xapi_pages.proofs.chains.Marks.at.Goals as goal

pub returns-in-Some : goal.returns-in-Some
returns-in-Some c =
    ap (λ o. unwrap_or o Unknown) (sym (ap option_copied c.in-Some.is) ∙ c.get.ensures.value) ∙ ap (λ marks. mark_at marks c.args.position) c.self.view_is

pub returns-in-None : goal.returns-in-None
returns-in-None c =
    ap (λ o. unwrap_or o Unknown) (sym (ap option_copied c.in-None.is) ∙ c.get.ensures.value) ∙ ap (λ marks. mark_at marks c.args.position) c.self.view_is
