-- The field of `course`, and what is read of it.
use Rattle.std.proofs.Common.{ℕ, List, Result, Ok, Err, codes, false, refl}
use Rattle.lrs_fields.specs.Reading.{ReadsField}
use Rattle.lrs_fields.specs.Values.{tree_value}
use Rattle.lrs_fields.proofs.Sequences.{failed, mapped}
use Rattle.lrs_json.specs.Written.{escaped}
use Rattle.lrs_json.specs.declared.tree.Tree.{Tree}
use Rattle.lrs_json_reader.specs.declared.cursor.Stop.{Stop}
use Rattle.lrs_record.specs.Reading.{ReadsWrite}
use Rattle.lrs_record.specs.declared.entry.Write.TheVariants.{Course}
use Rattle.lrs_record.proofs.WriteReading.{last, write_read}
use Rattle.lrs_record.proofs.Writes.{only_course}
use Rattle.lrs_record.proofs.desk_writes.read_course.Goals as goal

course_read : (old new : List ℕ) (r : Result Tree Stop) → ReadsField (codes "\"tree\":") tree_value old r new → ReadsWrite (codes "course") old (mapped Course r) new
unfolding escaped
course_read old new r first = write_read (codes "course") Course old new r (λ a. refl) only_course (last false (codes "tree") tree_value old new r first)

pub returns-in_err-tree : goal.returns-in_err-tree
returns-in_err-tree c = failed _ c.from_residual.ensures.1 (course_read _ _ (Err _) c.in_err-tree.ensures)

pub returns : goal.returns
returns c = course_read _ _ (Ok _) c.in_ok-tree.ensures
