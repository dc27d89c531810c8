use Rattle.std.proofs.Common.{◌∙◌, ap, subst, sym}
use Rattle.xapi_index.specs.Index.{ArePosted, Indexed, IsIndex, lists_of}
use Rattle.xapi_index.proofs.Standing.{with_rising}
use Rattle.xapi_index.proofs.Succeeding.{all_ok}
use Rattle.xapi_index.proofs.index.Index.ready.Goals as goal

pub ready_each-requires-clause-posted : goal.ready_each-requires-clause-posted
ready_each-requires-clause-posted c = subst (λ (v : Indexed). ArePosted v.held v.postings) (sym c.self.view_is) c.release.ensures.nothing.posted

pub ready_each-requires-clause-nothing : goal.ready_each-requires-clause-nothing
ready_each-requires-clause-nothing c = ap (λ (v : Indexed). v.coming) c.self.view_is ∙ c.release.ensures.nothing.coming

pub ready_each-requires-clause-none_ahead : goal.ready_each-requires-clause-none_ahead
ready_each-requires-clause-none_ahead c = ap (λ (v : Indexed). v.ahead) c.self.view_is ∙ c.release.ensures.nothing.ahead

pub invariant_of-self : goal.invariant_of-self
invariant_of-self c =
    let new = c.ready_each.new in
    subst (λ xs. IsIndex xs new.postings (lists_of new.coming.items) c.self.inside.rising) (sym c.ready_each.ensures.held)
    (with_rising c.self.inside.held.items new.postings (lists_of new.coming.items) c.self.inside.rising c.ready_each.ensures.index c.self.invariant.rising)

pub returns-clause-held : goal.returns-clause-held
returns-clause-held c = c.ready_each.ensures.held ∙ (ap (λ (v : Indexed). v.held) c.self.view_is ∙ c.release.ensures.held)

pub returns-clause-ready : goal.returns-clause-ready
returns-clause-ready c =
    all_ok c.ready_each.result c.ready_each.ensures.posted c.ready_each.ensures.spare c.ready_each.ensures.ahead (λ posted spare ahead. record { posted = posted; spare = spare; ahead = ahead })
