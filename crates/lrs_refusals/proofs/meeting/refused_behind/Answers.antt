use Rattle.std.proofs.Common.{◌≡◌, ◌≤◌, ◌<◌, ◌+◌, ◌++◌, None, Some, length, refl, sym, ap, ◌∙◌, arith}
use Rattle.std.proofs.lemmas.Option.{slice_get_read}
use Rattle.lrs_made.specs.Cmi5SessionViews.{seen}
use Rattle.lrs_refusals.proofs.Handed.{held_all, held_more, told_at}
use Rattle.lrs_refusals.proofs.Naming.{lawful_at, no_trees_left}
use Rattle.lrs_refusals.proofs.Walked.{next_passed_on, next_refused}
use Rattle.lrs_refusals.specs.Known.{own_held}
use Rattle.lrs_refusals.specs.Meeting.{refused_behind, refused_next, session_behind}
use Rattle.lrs_made.specs.LrsPartsParts.{state_of}
use Rattle.lrs_refusals.proofs.meeting.refused_behind.Goals as goal
use Rattle.lrs_json.proofs.Lists.{drop_item}

pub meet_one-requires : goal.meet_one-requires
meet_one-requires c =
    let ts = c.args.statements.now in
    let at = c.loop-at.at in
    let t = c.index-statements-at.result in
    let within : at < length ts = omega arith in
    lawful_at ts at t c.requires.lawful (slice_get_read ts (length ts) at t refl within c.index-statements-at.is)

pub session_behind-session-requires : goal.session_behind-session-requires
session_behind-session-requires c =
    let ids = c.args.ids.now in
    let ts = c.args.statements.now in
    let at = c.loop-at.at in
    let id = c.index-ids-at.result in
    let t = c.index-statements-at.result in
    let named : at < length ids = omega arith in
    let within : at < length ts = omega arith in
    c.in_ok-meeting.ensures.own
    ∙ told_at (state_of c.args.parts.now) ids ts at id t c.requires.told (slice_get_read ids (length ids) at id refl named c.index-ids-at.is)
    (slice_get_read ts (length ts) at t refl within c.index-statements-at.is)

pub loop-at-preserved : goal.loop-at-preserved
loop-at-preserved c =
    let st = state_of c.args.parts.now in
    let ids = c.args.ids.now in
    let ts = c.args.statements.now in
    let at = c.loop-at.at in
    let id = c.index-ids-at.result in
    let t = c.index-statements-at.result in
    let named : at < length ids = omega arith in
    let within : at < length ts = omega arith in
    record {
      refused = sym (next_passed_on st (seen c.loop-at.session) (seen c.session_behind-session.result) ids ts at id t (slice_get_read ids (length ids) at id refl named c.index-ids-at.is)
          (slice_get_read ts (length ts) at t refl within c.index-statements-at.is) (sym c.in_ok-meeting.ensures.refused ∙ c.in-None.is) c.session_behind-session.ensures)
          ∙ c.loop-at.invariant.refused;
      held = held_more st ts at t c.loop-at.held c.meet_one.new.held (c.args.held.now ++ own_held st ts) (drop_item ts at t within c.index-statements-at.is) c.in_ok-meeting.ensures.held c.loop-at.invariant.held;
    }

pub returns-in-Some-clause-refused : goal.returns-in-Some-clause-refused
returns-in-Some-clause-refused c =
    let st = state_of c.args.parts.now in
    let ids = c.args.ids.now in
    let ts = c.args.statements.now in
    let at = c.loop-at.at in
    let id = c.index-ids-at.result in
    let t = c.index-statements-at.result in
    let named : at < length ids = omega arith in
    let within : at < length ts = omega arith in
    sym (next_refused st (seen c.loop-at.session) ids ts at id t c.in-Some.refusal (slice_get_read ids (length ids) at id refl named c.index-ids-at.is)
    (slice_get_read ts (length ts) at t refl within c.index-statements-at.is) (sym c.in_ok-meeting.ensures.refused ∙ c.in-Some.is))
    ∙ c.loop-at.invariant.refused

pub returns-in-Some-clause-held : goal.returns-in-Some-clause-held
returns-in-Some-clause-held c = λ is. cc is

pub returns-clause-refused : goal.returns-clause-refused
returns-clause-refused c =
    sym (ap (refused_behind (state_of c.args.parts.now) (seen c.loop-at.session)) (no_trees_left c.args.ids.now c.args.statements.now c.loop-at.at (omega arith)))
    ∙ c.loop-at.invariant.refused

pub returns-clause-held : goal.returns-clause-held
returns-clause-held c =
    let st = state_of c.args.parts.now in
    let ts = c.args.statements.now in
    let end : length ts ≤ c.loop-at.at = omega arith in
    λ is. held_all st ts c.loop-at.at c.loop-at.held (c.args.held.now ++ own_held st ts) end c.loop-at.invariant.held
