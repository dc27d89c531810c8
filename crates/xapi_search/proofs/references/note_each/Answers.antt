use Rattle.std.proofs.Common.{◌&&◌, ◌+◌, ◌==◌, nat_lt, take, get_or}
use Rattle.xapi_index.specs.XapiPostingsAscending.{is_in}
use Rattle.xapi_search.proofs.Walked.{notes_both, notes_none, notes_so, wanted_all, wanted_next, wanted_none, wanted_past}
use Rattle.xapi_search.proofs.references.note_each.Goals as goal

pub loop-position-init : goal.loop-position-init
loop-position-init c =
    notes_none (λ k. nat_lt k c.args.n && is_in (take 0 c.args.positions.now) k) c.args.found.now.keys c.args.left.now.items (λ k. wanted_none c.args.n k)

pub loop-position-preserved-then-at-n : goal.loop-position-preserved-then-at-n
loop-position-preserved-then-at-n c =
    let at = c.loop-position in
    let ks = c.args.positions.now in
    let i = at.position-index in
    notes_so (λ k. nat_lt k c.args.n && is_in (take i ks) k) (λ k. nat_lt k c.args.n && is_in (take (i + 1) ks) k) c.args.found.now.keys at.found.keys c.args.left.now.items at.left.items at.invariant
    (λ k both. wanted_past c.args.n ks i k c.loop-position-test.true c.if-at-n.true both)

pub loop-position-preserved : goal.loop-position-preserved
loop-position-preserved c =
    let at = c.loop-position in
    let ks = c.args.positions.now in
    let i = at.position-index in
    notes_both (λ k. nat_lt k c.args.n && is_in (take i ks) k) (λ k. get_or ks i 0 == k) (λ k. nat_lt k c.args.n && is_in (take (i + 1) ks) k)
    c.args.found.now.keys at.found.keys c.note.new.found.keys c.args.left.now.items at.left.items c.note.new.left.items at.invariant c.in_ok-note.ensures
    (λ k both. wanted_next c.args.n ks i k c.loop-position-test.true both)

pub returns : goal.returns
returns c =
    let at = c.loop-position in
    let ks = c.args.positions.now in
    let i = at.position-index in
    notes_so (λ k. nat_lt k c.args.n && is_in (take i ks) k) (λ k. nat_lt k c.args.n && is_in ks k) c.args.found.now.keys at.found.keys c.args.left.now.items at.left.items at.invariant
    (λ k both. wanted_all c.args.n ks i k c.loop-position-test.false both)
