use Rattle.std.proofs.Common.{◌≡◌, ◌++◌, drop}
use Rattle.lrs_made.specs.Cmi5SessionViews.{seen}
use Rattle.lrs_refusals.specs.Known.{own_held}
use Rattle.lrs_refusals.specs.Meeting.{refused_behind, refused_from}
use Rattle.lrs_refusals.specs.Naming.{with_these_ids}
use Rattle.lrs_made.specs.LrsPartsParts.{state_of}
use Rattle.lrs_refusals.proofs.meeting.refused_behind.Given as goal

-- the rest, behind the session so far, and what is known of those so far
abbrev pub invariant-loop-at : goal.invariant-loop-at
invariant-loop-at l = record {
  refused : refused_from (state_of l.parts) (seen l.session) l.ids l.statements l.at
      ≡ refused_behind (state_of l.parts) (seen l.fn.session) (with_these_ids l.ids l.statements);
  held : l.held ++ own_held (state_of l.parts) (drop l.at l.statements) ≡ l.fn.held ++ own_held (state_of l.parts) l.statements;
}
