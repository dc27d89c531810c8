use Rattle.std.proofs.Common.{◌≡◌, ◌∙◌, ℕ, List, IfOk, filter_map, map, subst}
use Rattle.lrs_history.specs.Made.{satisfied_at}
use Rattle.lrs_made.specs.Lent.{seen_enrolled}
use Rattle.lrs_made.proofs.Supplied.{value_of}
use Rattle.lrs_made.proofs.owing.owed_statements.Goals as goal

pub returns : goal.returns
returns c =
    subst (λ (indices : List ℕ). IfOk c.satisfied_statements.result (λ said. map value_of said.items
    ≡ filter_map (satisfied_at (seen_enrolled c.args.enrolled.now) c.args.session.now) indices))
    (c.as_slice.ensures.value ∙ c.in_ok-indices.ensures) c.satisfied_statements.ensures
