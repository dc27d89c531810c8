use Rattle.std.proofs.Common.{length, subst, sym}
use Rattle.xapi_index.specs.Index.{Indexed, IsPosting}
use Rattle.xapi_index.proofs.index.Index.posting.Goals as goal
use Rattle.xapi_postings.specs.Postings.{posting_of}

pub returns : goal.returns
returns c =
    let key = c.args.key.now in
    subst (λ ks. IsPosting c.args.self.now.held (length c.args.self.now.coming) key ks) (sym c.get.ensures)
    (subst (λ (v : Indexed). IsPosting v.held (length v.coming) key (posting_of key c.self.inside.postings)) c.self.view_is (c.self.invariant.posted key))
