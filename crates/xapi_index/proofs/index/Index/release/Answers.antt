use Rattle.std.proofs.Common.{◌≡◌, ap, length, rules, subst}
use Rattle.xapi_index.specs.Ahead.{ChangesEach}
use Rattle.xapi_index.specs.Index.{Indexed, is_coming, lists_of}
use Rattle.xapi_index.proofs.Standing.{cut_posted, rest_index}
use Rattle.xapi_index.proofs.index.Index.release.Goals as goal
use Rattle.xapi_postings.specs.Ascending.{below}

pub invariant_of-self : goal.invariant_of-self
invariant_of-self c =
    let held = c.self.inside.held.items in
    let old = c.self.inside.postings in
    let new = c.cut_each.new.postings in
    let long : c.len-held.result ≡ length held = search rules in
    let each = subst (λ xs. ChangesEach (λ k. is_coming k (lists_of xs)) (below c.len-held.result) old new) c.as_slice.ensures.value c.cut_each.ensures in
    rest_index held new (lists_of c.clear.new.self.items) c.self.inside.rising
    (cut_posted held old new (lists_of c.self.inside.coming.items) c.self.inside.rising c.len-held.result c.self.invariant long each) (ap (λ xs. lists_of xs) c.clear.ensures.items) c.self.invariant.rising

pub returns-clause-held : goal.returns-clause-held
returns-clause-held c = ap (λ (v : Indexed). v.held) c.self.view_is

pub returns-clause-nothing : goal.returns-clause-nothing
returns-clause-nothing c =
    let held = c.self.inside.held.items in
    let old = c.self.inside.postings in
    let new = c.cut_each.new.postings in
    let long : c.len-held.result ≡ length held = search rules in
    let each = subst (λ xs. ChangesEach (λ k. is_coming k (lists_of xs)) (below c.len-held.result) old new) c.as_slice.ensures.value c.cut_each.ensures in
    record {
      posted = cut_posted held old new (lists_of c.self.inside.coming.items) c.self.inside.rising c.len-held.result c.self.invariant long each;
      coming = ap (λ xs. lists_of xs) c.clear.ensures.items;
      ahead = c.clear-2.ensures.items;
    }
