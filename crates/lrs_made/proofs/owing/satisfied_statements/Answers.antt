use Rattle.std.proofs.Common.{◌+◌, ◌++◌, List, drop, filter_map, get_or, map, ap, arith}
use Rattle.std.proofs.lemmas.List.{drop_all, drop_more}
use Rattle.lrs_history.specs.Made.{satisfied_at}
use Rattle.lrs_made.specs.Lent.{seen_enrolled}
use Rattle.xapi_statement.specs.declared.statement.Statement.{Statement}
use Rattle.lrs_made.proofs.Supplied.{value_of}
use Rattle.lrs_made.proofs.Satisfied.{said_end, said_next}
use Rattle.lrs_made.proofs.owing.satisfied_statements.Goals as goal

pub loop-index-init : goal.loop-index-init
loop-index-init c =
    ap (λ (xs : List Statement). map value_of xs ++ filter_map (satisfied_at (seen_enrolled c.args.enrolled.now) c.args.session.now) c.args.indices.now) c.in_ok-said.ensures.items

pub loop-index-preserved : goal.loop-index-preserved
loop-index-preserved c =
    let at = c.loop-index in
    let indices = c.args.indices.now in
    said_next (satisfied_at (seen_enrolled c.args.enrolled.now) c.args.session.now) (map value_of at.said.items) (map value_of c.push_satisfied.new.said.items) _ (drop at.index-index indices) (drop (at.index-index + 1) indices)
    (get_or indices at.index-index 0) (drop_more indices at.index-index 0 (omega arith)) c.in_ok-push_satisfied.ensures at.invariant

pub returns : goal.returns
returns c =
    let at = c.loop-index in
    said_end (satisfied_at (seen_enrolled c.args.enrolled.now) c.args.session.now) (map value_of at.said.items) _ (drop at.index-index c.args.indices.now)
    (drop_all at.index-index c.args.indices.now (omega arith)) at.invariant
