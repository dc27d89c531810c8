-- The fields of `put`, and what is read of them.
use Rattle.std.proofs.Common.{ℕ, List, [], ◌∷◌, Result, Ok, Err, OnOk, codes, true, false, refl}
use Rattle.std.proofs.lemmas.Result.{on_ok_weaker}
use Rattle.lrs_fields.specs.Reading.{ReadsField}
use Rattle.lrs_fields.specs.Values.{id_value, tree_value}
use Rattle.lrs_fields.proofs.Sequences.{failed, mapped, paired}
use Rattle.lrs_json.specs.Written.{escaped}
use Rattle.lrs_json.specs.declared.tree.Tree.{Tree}
use Rattle.lrs_json_reader.specs.declared.cursor.Stop.{Stop}
use Rattle.lrs_json_reader.specs.declared.cursor.Stop.TheVariants.{Memory}
use Rattle.lrs_record.specs.Reading.{ReadsWrite}
use Rattle.lrs_record.proofs.WriteReading.{last, next, write_read}
use Rattle.lrs_record.proofs.Writes.{put_of, only_put}
use Rattle.lrs_record.proofs.store_writes.read_put.Goals as goal

put_read : (old mid new : List ℕ) (r : Result (List ℕ) Stop) (s : Result Tree Stop) → ReadsField (codes "\"id\":") id_value old r mid → OnOk r (ReadsField (codes ",\"statement\":") tree_value mid s new)
    → ReadsWrite (codes "put") old (mapped put_of (paired r s)) new
unfolding escaped
put_read old mid new r s first second =
    write_read (codes "put") put_of old new (paired r s) (λ p. refl) only_put
    (next false (codes "id") id_value (λ statement. (codes "statement", tree_value statement) ∷ []) old mid new r s first
    (on_ok_weaker r (λ x. last true (codes "statement") tree_value mid new s x) second))

pub returns-in_err-id : goal.returns-in_err-id
returns-in_err-id c = failed _ c.from_residual.ensures.1 (put_read _ _ _ (Err _) (Err Memory) c.in_err-id.ensures tt)

pub returns-in_err-statement : goal.returns-in_err-statement
returns-in_err-statement c = failed _ c.from_residual-in_err-statement.ensures.1 (put_read _ _ _ (Ok _) (Err _) c.in_ok-id.ensures c.in_err-statement.ensures)

pub returns : goal.returns
returns c = put_read _ _ _ (Ok _) (Ok _) c.in_ok-id.ensures c.in_ok-statement.ensures
