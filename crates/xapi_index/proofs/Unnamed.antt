-- How many statements of a batch give themselves no id.
use Rattle.std.proofs.Common.{◌≡◌, ℕ, suc, ◌+◌, List, [], ◌∷◌, length, Option, Some, None, refl, arith}
use Rattle.lrs_json.specs.View.{view}
use Rattle.lrs_json.specs.declared.tree.Tree.{Tree}
use Rattle.xapi_index.specs.Batches.{given_ids, with_given}
use Rattle.xapi_postings.specs.XapiStatementStatement.{own_id}

abbrev pub count : Option (List ℕ) → ℕ → ℕ
count None n = suc n
count (Some id) n = n

-- how many give themselves none
abbrev pub missing : List Tree → ℕ
missing [] = 0
missing (t ∷ ts) = count (own_id (view t)) (missing ts)

pub given_missing : (ts : List Tree) → length (given_ids ts) + missing ts ≡ length ts
given_missing [] = refl
given_missing (t ∷ ts) = by_own (own_id (view t)) (given_missing ts)
  where
    by_own : (o : Option (List ℕ)) → length (given_ids ts) + missing ts ≡ length ts → length (with_given o (given_ids ts)) + count o (missing ts) ≡ suc (length ts)
    by_own None rest = omega (arith, rest)
    by_own (Some id) rest = omega (arith, rest)
