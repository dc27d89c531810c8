use Rattle.std.proofs.Common.{◌≡◌, ◌*◌, map, refl, subst, arith}
use Rattle.lrs_json.specs.View.{view}
use Rattle.lrs_generator.specs.Generated.{batch}
use Rattle.lrs_generator.specs.Progress.{Progress}
use Rattle.lrs_generator.proofs.Batches.{goes_on, made_batch}
use Rattle.lrs_generator.proofs.generator.Generator.next_batch.Goals as goal
use Rattle.lrs_generator.specs.declared.generator.TheConstants.{BATCH}

-- the number is that of the next batch's first statement, since one is left
pub make-requires-clause-number : goal.make-requires-clause-number
make-requires-clause-number c = c.self.invariant.ahead (omega arith)

pub returns-clause-batch : goal.returns-clause-batch
returns-clause-batch c =
    let i = c.self.inside in
    subst (λ (old : Progress). map view c.in_ok-trees.trees ≡ batch old.seed old.count old.taken) c.self.view_is
    (made_batch i.seed i.count i.taken (i.taken * BATCH) c.next_length-most.result c.make.new.number c.in_ok-trees.trees refl c.next_length-most.ensures c.in_ok-trees.ensures)

pub invariant_of-self : goal.invariant_of-self
invariant_of-self c =
    let i = c.self.inside in
    goes_on i.seed i.count i.taken (i.taken * BATCH) c.next_length-most.result c.make.new.number c.in_ok-trees.trees refl c.next_length-most.ensures c.in_ok-trees.ensures
