-- Words of one id are the same: found by the bits that they have.
use Rattle.std.proofs.Common.{◌∙◌}
use Rattle.lrs_names.proofs.WordBytes.{same_id_word}
use Rattle.lrs_names.proofs.id.Id.of_word.Goals as goal

pub returns-clause-distinct : goal.returns-clause-distinct
returns-clause-distinct c = λ other small_other small e. same_id_word other c.args.word small_other small (e ∙ c.to_be_bytes.ensures)
