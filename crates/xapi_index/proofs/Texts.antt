-- Texts that were written before, taken one after the other.
use Rattle.std.proofs.Common.{◌≡◌, ◌∙◌, ◌++◌, ◌+◌, ℕ, List, [], ◌∷◌, Option, Some, None, MatchOption, ap, drop, length, option_to_list, subst, sym}
use Rattle.std.proofs.lemmas.List.{nil_from_length}
use Rattle.lrs_json.specs.declared.tree.Tree.{Tree}
use Rattle.xapi_index.specs.Ahead.{AreTextsOf, IsNextTextOf}
use Rattle.xapi_postings.specs.XapiStatementHeld.{IsTextOf}
use Rattle.xapi_postings.specs.XapiStatementStored.{StoredStatement}

pub text_next : (ts : List Tree) (s : StoredStatement) (ss : List StoredStatement) → AreTextsOf ts (s ∷ ss) → IsNextTextOf ts s
text_next [] s ss are = tt
text_next (t ∷ ts) s ss are = are.0

pub texts_more : (ts : List Tree) (s : StoredStatement) (ss : List StoredStatement) → AreTextsOf ts (s ∷ ss) → AreTextsOf (drop 1 ts) ss
texts_more [] s ss are = tt
texts_more (t ∷ ts) s ss are = are.1

-- the one that is taken, and those that are left
pub text_taken : (before after : List Tree) (taken : Option Tree) (s : StoredStatement) → before ≡ option_to_list taken ++ after → IsNextTextOf before s → IsTextOf taken s.received
text_taken before after None s is next = tt
text_taken before after (Some t) s is next = subst (λ (ts : List Tree). IsNextTextOf ts s) is next

pub texts_left : (before after : List Tree) (taken : Option Tree) (n m : ℕ) → length before ≡ n → before ≡ option_to_list taken ++ after
    → MatchOption taken ((n ≡ 0) × (m ≡ 0)) (λ t. (before ≡ t ∷ after) × (m + 1 ≡ n)) → after ≡ drop 1 before
texts_left before after None n m long is cases =
    let none : before ≡ [] = nil_from_length before (long ∙ cases.0) in
    sym is ∙ (none ∙ sym (ap (λ (ts : List Tree). drop 1 ts) none))
texts_left before after (Some t) n m long is cases = sym (ap (λ (ts : List Tree). drop 1 ts) is)

-- where none was written, none has to be that of a statement
pub texts_none : (ts : List Tree) (ss : List StoredStatement) → ts ≡ [] → AreTextsOf ts ss
texts_none ts ss none = subst (λ (xs : List Tree). AreTextsOf xs ss) (sym none) tt
