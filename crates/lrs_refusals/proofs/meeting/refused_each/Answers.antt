use Rattle.std.proofs.Common.{◌+◌, ◌++◌, drop, length, refl, sym, ap, ◌∙◌, arith, Some}
use Rattle.std.proofs.lemmas.Option.{slice_get_read}
use Rattle.std.specs.Option.{option_or}
use Rattle.lrs_refusals.specs.Known.{own_held}
use Rattle.lrs_refusals.specs.Meeting.{refused_each}
use Rattle.lrs_ids.proofs.Turns.{next_passed, next_found, none_found}
use Rattle.lrs_refusals.proofs.meeting.refused_each.Goals as goal
use Rattle.lrs_made.specs.LrsPartsParts.{state_of}
use Rattle.lrs_refusals.proofs.Handed.{held_all, held_more}
use Rattle.lrs_refusals.proofs.Naming.{lawful_at}
use Rattle.lrs_json.proofs.Lists.{drop_item}

pub refused_own-requires : goal.refused_own-requires
refused_own-requires c =
    let ts = c.args.statements.now in
    let at = c.loop-statement.statement-index in
    let t = c.statement-item.result in
    lawful_at ts at t c.requires (slice_get_read ts (length ts) at t refl c.loop-statement-test.true c.statement-item.is)

pub loop-statement-preserved : goal.loop-statement-preserved
loop-statement-preserved c =
    let st = state_of c.args.parts.now in
    let ts = c.args.statements.now in
    let at = c.loop-statement.statement-index in
    let t = c.statement-item.result in
    let rest = drop (at + 1) ts in
    record {
      refused = next_passed (refused_each st c.args.who) ts at t _ (drop_item ts at t c.loop-statement-test.true c.statement-item.is)
          (ap (λ o. option_or o (refused_each st c.args.who rest)) (sym c.in_ok-refusal.ensures.refused ∙ c.in_default.is)) c.loop-statement.invariant.refused;
      held = held_more st ts at t c.loop-statement.held c.refused_own.new.held (c.args.held.now ++ own_held st ts) (drop_item ts at t c.loop-statement-test.true c.statement-item.is)
          c.in_ok-refusal.ensures.held c.loop-statement.invariant.held;
    }

pub returns-in-Some-clause-refused : goal.returns-in-Some-clause-refused
returns-in-Some-clause-refused c =
    let rest = drop (c.loop-statement.statement-index + 1) c.args.statements.now in
    next_found (refused_each (state_of c.args.parts.now) c.args.who) c.args.statements.now c.loop-statement.statement-index c.statement-item.result (Some c.in-Some.refusal) _ (drop_item c.args.statements.now c.loop-statement.statement-index c.statement-item.result (omega arith) c.statement-item.is)
    (ap (λ o. option_or o (refused_each (state_of c.args.parts.now) c.args.who rest)) (sym c.in_ok-refusal.ensures.refused ∙ c.in-Some.is)) c.loop-statement.invariant.refused

pub returns-in-Some-clause-held : goal.returns-in-Some-clause-held
returns-in-Some-clause-held c = λ is. cc is

pub returns-clause-refused : goal.returns-clause-refused
returns-clause-refused c = none_found (refused_each (state_of c.args.parts.now) c.args.who) c.args.statements.now c.loop-statement.statement-index _ (omega arith) c.loop-statement.invariant.refused

pub returns-clause-held : goal.returns-clause-held
returns-clause-held c = λ is.
    held_all (state_of c.args.parts.now) c.args.statements.now c.loop-statement.statement-index c.loop-statement.held (c.args.held.now ++ own_held (state_of c.args.parts.now) c.args.statements.now)
    c.loop-statement-test.false c.loop-statement.invariant.held
