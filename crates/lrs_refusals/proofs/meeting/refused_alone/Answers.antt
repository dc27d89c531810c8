use Rattle.std.proofs.Common.{◌∙◌, sym}
use Rattle.lrs_made.specs.LrsPartsParts.{state_of}
use Rattle.lrs_refusals.proofs.Handed.{batch_told}
use Rattle.lrs_refusals.proofs.meeting.refused_alone.Goals as goal

pub returns-in-Some-clause-refused : goal.returns-in-Some-clause-refused
returns-in-Some-clause-refused c = sym c.in-Some.is ∙ c.in_ok-refused.ensures.refused

pub returns-in-None-clause-refused : goal.returns-in-None-clause-refused
returns-in-None-clause-refused c = sym c.in-None.is ∙ c.in_ok-refused.ensures.refused

pub returns-in-None-clause-known : goal.returns-in-None-clause-known
returns-in-None-clause-known c =
    batch_told (state_of c.args.parts.now) c.args.draw.now c.args.statements.now c.in_ok-batch.batch c.refused_each.new.held c.in_ok-batch.ensures.batch c.in_ok-batch.ensures.none
    c.in_ok-batch.ensures.told (c.in_ok-refused.ensures.held c.in-None.is)
