use Rattle.std.proofs.Common.{◌∙◌, ap, slice_get, sym}
use Rattle.xapi_index.proofs.index.Index.first_with.Goals as goal
use Rattle.xapi_postings.specs.Ascending.{below}
use Rattle.xapi_postings.proofs.Ascending.{first-position}
use Rattle.xapi_postings.specs.XapiStatementKeysKeys.{has_key}

pub first_below-requires : goal.first_below-requires
first_below-requires c = c.posting.ensures.ascending

pub returns : goal.returns
returns c =
    c.first_below.ensures
    ∙ (ap (λ n. slice_get (below n c.posting.result.now) 0) c.len.ensures ∙ (ap (λ ks. slice_get ks 0) c.posting.ensures.visible ∙ sym (first-position (has_key c.args.key.now) c.args.self.now.held)))
