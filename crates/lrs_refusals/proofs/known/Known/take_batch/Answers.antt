use Rattle.std.proofs.Common.{sym, ap, ◌∙◌}
use Rattle.lrs_refusals.specs.Known.{batch_in}
use Rattle.lrs_refusals.proofs.known.Known.take_batch.Goals as goal

pub returns-in-Batch : goal.returns-in-Batch
returns-in-Batch c = sym (ap batch_in (sym c.replace-known.ensures.value ∙ c.in-Batch.is))

pub returns-in-Nothing : goal.returns-in-Nothing
returns-in-Nothing c = sym (ap batch_in (sym c.replace-known.ensures.value ∙ c.in-Nothing.is))

pub returns-in-Put : goal.returns-in-Put
returns-in-Put c = sym (ap batch_in (sym c.replace-known.ensures.value ∙ c.in-Put.is))
