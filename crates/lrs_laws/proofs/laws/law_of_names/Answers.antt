use Rattle.xapi_alike.proofs.Laws.{same_is_sameness}
use Rattle.lrs_history.proofs.Strangers.{told_barred}
use Rattle.lrs_laws.proofs.Again.{batch_conflicts_are_told, conflicts_are_told, repeated_batches_are_taken, repeats_are_taken}
use Rattle.lrs_laws.proofs.Keepers.{names_for_good, names_one, stays_voided}
use Rattle.lrs_laws.proofs.LetIn.{callers_stay_let_in}
use Rattle.lrs_laws.proofs.NewIds.{desk_ids_are_new, made_ids_are_new}
use Rattle.lrs_laws.proofs.WholeBatches.{batches_are_whole, callers_have_authority, puts_are_held}
use Rattle.lrs_laws.proofs.laws.law_of_names.Goals as goal

pub returns-clause-authority : goal.returns-clause-authority
returns-clause-authority c = callers_have_authority

pub returns-clause-stay : goal.returns-clause-stay
returns-clause-stay c = callers_stay_let_in

pub returns-clause-strangers : goal.returns-clause-strangers
returns-clause-strangers c = told_barred

pub returns-clause-one : goal.returns-clause-one
returns-clause-one c = names_one

pub returns-clause-good : goal.returns-clause-good
returns-clause-good c = names_for_good

pub returns-clause-voided : goal.returns-clause-voided
returns-clause-voided c = stays_voided

pub returns-clause-repeats : goal.returns-clause-repeats
returns-clause-repeats c = repeats_are_taken

pub returns-clause-conflicts : goal.returns-clause-conflicts
returns-clause-conflicts c = conflicts_are_told

pub returns-clause-repeated_batches : goal.returns-clause-repeated_batches
returns-clause-repeated_batches c = repeated_batches_are_taken

pub returns-clause-batch_conflicts : goal.returns-clause-batch_conflicts
returns-clause-batch_conflicts c = batch_conflicts_are_told

pub returns-clause-made : goal.returns-clause-made
returns-clause-made c = made_ids_are_new

pub returns-clause-desk : goal.returns-clause-desk
returns-clause-desk c = desk_ids_are_new

pub returns-clause-held : goal.returns-clause-held
returns-clause-held c = puts_are_held same_is_sameness

pub returns-clause-whole : goal.returns-clause-whole
returns-clause-whole c = batches_are_whole same_is_sameness
