-- The first id of a row of words that isn't used.
use Rattle.std.specs.Prelude.{◌≡◌, ℕ, ◌+◌, ◌<◌, List, true, false}
use Rattle.lrs_names.specs.Ids.{id_of_word}
use Rattle.lrs_names.specs.Members.{is_one_of}

-- Of the ids of word, word + 1, .. (modulo `WORDS`) the first that is none of the used.
pub record IsFreshId (used : List (List ℕ)) (word : ℕ) (id : List ℕ) : Type 0 where
  pub skipped : ℕ
  pub made : id ≡ id_of_word (word + skipped)
  pub unused : is_one_of used id ≡ false
  pub earlier : (k : ℕ) → k < skipped → is_one_of used (id_of_word (word + k)) ≡ true
