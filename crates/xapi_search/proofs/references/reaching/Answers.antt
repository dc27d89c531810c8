use Rattle.std.proofs.Common.{◌&&◌, nat_lt}
use Rattle.xapi_index.specs.XapiPostingsAscending.{is_in}
use Rattle.xapi_search.proofs.Walked.{reached, walk_begun}
use Rattle.xapi_search.proofs.references.reaching.Goals as goal

pub walk-requires-clause-walked : goal.walk-requires-clause-walked
walk-requires-clause-walked c =
    walk_begun c.args.index.now.held c.args.n (λ k. nat_lt k c.args.n && is_in c.args.ends.now k) c.new-found.result.keys c.note_each.new.found.keys c.new-left.result.items c.note_each.new.left.items
    c.new-found.ensures.empty c.in_ok-note_each.ensures

pub returns : goal.returns
returns c =
    reached c.args.index.now.held c.args.n c.args.ends.now c.new-found.result.keys c.note_each.new.found.keys c.walk.new.found.keys c.in_ok-list.list.items c.new-left.result.items c.note_each.new.left.items
    c.in_ok-note_each.ensures c.in_ok-ended.ensures.kept (c.in_ok-ended.ensures.walked c.if-not-ended.false) c.in_ok-list.ensures.items c.in_ok-list.ensures.ascending
