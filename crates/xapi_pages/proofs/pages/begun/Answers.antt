use Rattle.std.proofs.Common.{◌∙◌, ◌++◌, ap, codes}
use Rattle.xapi_pages.proofs.pages.begun.Goals as goal

pub returns : goal.returns
returns c = c.in_ok-extend_from_slice.ensures.items ∙ ap (λ bytes. bytes ++ codes "{\"statements\":[") c.in_ok-body.ensures.items
