use Rattle.std.proofs.Common.{ℕ, List, true, ◌∙◌, subst, sym}
use Rattle.lrs_made.specs.Cmi5SessionViews.{seen, view_of}
use Rattle.lrs_made.specs.LrsHistoryOccasions.{supply_in}
use Rattle.lrs_made.specs.LrsPartsParts.{state_of}
use Rattle.lrs_record.specs.declared.entry.Write.TheVariants.{Post}
use Rattle.lrs_refusals.proofs.Handed.{batch_told}
use Rattle.lrs_refusals.proofs.Walked.{all_walked, as_long}
use Rattle.lrs_refusals.specs.Known.{AreTold}
use Rattle.lrs_refusals.specs.Meeting.{was_abandoned}
use Rattle.lrs_refusals.specs.Naming.{with_these_ids}
use Rattle.lrs_refusals.proofs.meeting.refused_in_session.Goals as goal

pub refused_behind-requires-clause-long : goal.refused_behind-requires-clause-long
refused_behind-requires-clause-long c =
    let ts = c.args.statements.now in
    as_long (supply_in (state_of c.args.parts.now) (Post ts) c.args.draw.now) c.as_slice.result.now ts (c.as_slice.ensures ∙ c.in_ok-batch.ensures.batch.ids)

pub refused_behind-requires-clause-told : goal.refused_behind-requires-clause-told
refused_behind-requires-clause-told c =
    subst (λ (ids : List (List ℕ)). AreTold (state_of c.args.parts.now) (with_these_ids ids c.args.statements.now)) (sym c.as_slice.ensures) c.in_ok-batch.ensures.told

pub returns-in-Some-clause-refused : goal.returns-in-Some-clause-refused
returns-in-Some-clause-refused c =
    let st = state_of c.args.parts.now in
    let ts = c.args.statements.now in
    sym c.in-Some.is
    ∙ (c.in_ok-refused.ensures.refused
    ∙ all_walked st (seen c.session_of-session.result) (view_of c.args.launch.now true (was_abandoned st c.args.who) c.args.parts.now.statements.held) (supply_in st (Post ts) c.args.draw.now) c.as_slice.result.now ts
    c.session_of-session.ensures (c.as_slice.ensures ∙ c.in_ok-batch.ensures.batch.ids))

pub returns-in-None-clause-refused : goal.returns-in-None-clause-refused
returns-in-None-clause-refused c =
    let st = state_of c.args.parts.now in
    let ts = c.args.statements.now in
    sym c.in-None.is
    ∙ (c.in_ok-refused.ensures.refused
    ∙ all_walked st (seen c.session_of-session.result) (view_of c.args.launch.now true (was_abandoned st c.args.who) c.args.parts.now.statements.held) (supply_in st (Post ts) c.args.draw.now) c.as_slice.result.now ts
    c.session_of-session.ensures (c.as_slice.ensures ∙ c.in_ok-batch.ensures.batch.ids))

pub returns-in-None-clause-known : goal.returns-in-None-clause-known
returns-in-None-clause-known c =
    batch_told (state_of c.args.parts.now) c.args.draw.now c.args.statements.now c.in_ok-batch.batch c.refused_behind.new.held c.in_ok-batch.ensures.batch c.in_ok-batch.ensures.none
    c.in_ok-batch.ensures.told (c.in_ok-refused.ensures.held c.in-None.is)
