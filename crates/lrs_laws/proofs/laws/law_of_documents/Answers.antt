use Rattle.lrs_laws.proofs.DocumentIds.{ids_tell_documents}
use Rattle.lrs_laws.proofs.DocumentLaws.{documents_are_folds, held_documents_are_shown, nothing_is_dropped_quietly, posted_documents_are_merged, unmergeable_is_told}
use Rattle.lrs_laws.proofs.MergedAgain.{merged_is_read}
use Rattle.lrs_laws.proofs.laws.law_of_documents.Goals as goal

pub returns-clause-folds : goal.returns-clause-folds
returns-clause-folds c = documents_are_folds

pub returns-clause-merged : goal.returns-clause-merged
returns-clause-merged c = posted_documents_are_merged

pub returns-clause-read : goal.returns-clause-read
returns-clause-read c = merged_is_read

pub returns-clause-unmergeable : goal.returns-clause-unmergeable
returns-clause-unmergeable c = unmergeable_is_told

pub returns-clause-shown : goal.returns-clause-shown
returns-clause-shown c = held_documents_are_shown

pub returns-clause-quiet : goal.returns-clause-quiet
returns-clause-quiet c = nothing_is_dropped_quietly

pub returns-clause-ids : goal.returns-clause-ids
returns-clause-ids c = ids_tell_documents
