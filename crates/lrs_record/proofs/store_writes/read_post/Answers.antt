-- The field of `post`, and what is read of it.
use Rattle.std.proofs.Common.{ℕ, List, Result, Ok, Err, codes, false, refl}
use Rattle.lrs_fields.specs.Reading.{ReadsField}
use Rattle.lrs_fields.specs.Values.{trees_value}
use Rattle.lrs_fields.proofs.Sequences.{failed, mapped}
use Rattle.lrs_json.specs.Written.{escaped}
use Rattle.lrs_json.specs.declared.tree.Tree.{Tree}
use Rattle.lrs_json_reader.specs.declared.cursor.Stop.{Stop}
use Rattle.lrs_record.specs.Reading.{ReadsWrite}
use Rattle.lrs_record.specs.declared.entry.Write.TheVariants.{Post}
use Rattle.lrs_record.proofs.WriteReading.{last, write_read}
use Rattle.lrs_record.proofs.Writes.{only_post}
use Rattle.lrs_record.proofs.store_writes.read_post.Goals as goal

post_read : (old new : List ℕ) (r : Result (List Tree) Stop) → ReadsField (codes "\"statements\":") trees_value old r new → ReadsWrite (codes "post") old (mapped Post r) new
unfolding escaped
post_read old new r first = write_read (codes "post") Post old new r (λ a. refl) only_post (last false (codes "statements") trees_value old new r first)

pub returns-in_err-statements : goal.returns-in_err-statements
returns-in_err-statements c = failed _ c.from_residual.ensures.1 (post_read _ _ (Err _) c.in_err-statements.ensures)

pub returns : goal.returns
returns c = post_read _ _ (Ok _) c.in_ok-statements.ensures
