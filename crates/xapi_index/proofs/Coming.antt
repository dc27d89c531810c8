-- Whether a statement is held, by the first position under its id.
use Rattle.std.proofs.Common.{◌≡◌, ℕ, List, sym, ◌∙◌, ap, Option, is_some, slice_get}
use Rattle.xapi_index.specs.Index.{ArePosted}
use Rattle.xapi_postings.specs.XapiStatementStatements.{is_held}
use Rattle.xapi_index.proofs.Found.{found_at}
use Rattle.xapi_postings.specs.Postings.{posting_of}
use Rattle.xapi_postings.proofs.Ascending.{first-position}
use Rattle.xapi_postings.specs.XapiStatementStored.{StoredStatement}
use Rattle.xapi_postings.specs.XapiStatementKeysKeys.{has_key}
use Rattle.xapi_postings.specs.XapiStatementKeysKeyKey.{Key}
use Rattle.xapi_postings.specs.XapiStatementKeysKeyKeyTheVariants as key

-- one of the statements is held under the id exactly where there is a first position
pub held_told : (postings : List (Key × List ℕ)) (all : List StoredStatement) (id : List ℕ) (first : Option ℕ) → ArePosted all postings → first ≡ slice_get (posting_of (key.Statement id) postings) 0
    → is_some first ≡ is_held id all
held_told postings all id first are is =
    found_at (has_key (key.Statement id)) all first (is ∙ (ap (λ ks. slice_get ks 0) (are (key.Statement id)) ∙ sym (first-position (has_key (key.Statement id)) all)))

-- ---- truth values
