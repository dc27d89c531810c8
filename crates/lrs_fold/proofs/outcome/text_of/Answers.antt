use Rattle.std.proofs.Common.{Option, subst, ◌∙◌}
use Rattle.lrs_reads.specs.LrsRefusalsSubmissions.{IsWrittenIf}
use Rattle.lrs_reads.specs.LrsRefusalsPreparedTexts.{PreparedTexts}
use Rattle.lrs_fold.proofs.outcome.text_of.Goals as goal

pub closed_text-requires-clause-closing : goal.closed_text-requires-clause-closing
closed_text-requires-clause-closing c =
    c.as_slice.ensures ∙ (subst (λ (w : Option PreparedTexts). IsWrittenIf c.args.entry.now.write w) c.in-Some.is c.requires.written).closing

pub closed_text-requires-clause-holds : goal.closed_text-requires-clause-holds
closed_text-requires-clause-holds c = (subst (λ (w : Option PreparedTexts). IsWrittenIf c.args.entry.now.write w) c.in-Some.is c.requires.written).holds
