use Rattle.std.proofs.Common.{◌==◌, ◌∙◌, false, sym, ap, option_copied}
use Rattle.std.specs.Option.{option_map_or}
use Rattle.xapi_postings.specs.Postings.{is_last}
use Rattle.xapi_postings.proofs.positions.Positions.ends_with.Goals as goal

pub returns-in-Some : goal.returns-in-Some
returns-in-Some c =
    ap (λ o. option_map_or (λ last. last == c.args.position) o false) (sym (ap option_copied c.in-Some.is) ∙ c.last.ensures.value)
    ∙ ap (λ ks. is_last c.args.position ks) c.as_slice.ensures

pub returns-in-None : goal.returns-in-None
returns-in-None c =
    ap (λ o. option_map_or (λ last. last == c.args.position) o false) (sym (ap option_copied c.in-None.is) ∙ c.last.ensures.value)
    ∙ ap (λ ks. is_last c.args.position ks) c.as_slice.ensures
