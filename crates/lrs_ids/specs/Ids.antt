-- Which ids are used, and which ones an entry makes.
use Rattle.std.specs.Prelude.{◌≡◌, ℕ, zero, suc, ◌+◌, ◌%◌, ◌||◌, ◌&&◌, Bool, true, not, List, [], ◌∷◌, find, length}
use Rattle.std.specs.Prelude.{unwrap_or}
use Rattle.lrs_names.specs.Ids.{id_of_word}
use Rattle.lrs_names.specs.Members.{is_one_of}
use Rattle.lrs_names.specs.declared.id.TheConstants.{WORDS}

abbrev pub are_distinct : List (List ℕ) → Bool
are_distinct [] = true
are_distinct (id ∷ ids) = not (is_one_of ids id) && are_distinct ids

-- ---- used ids

-- The used ids, as a test and a count: no more than that many are used.
pub record Used : Type 0 where
  pub is_used : List ℕ → Bool
  pub count : ℕ

abbrev pub those : List (List ℕ) → Used
those ids = record { is_used = λ id. is_one_of ids id; count = length ids }

-- the ids that are used here or there
abbrev pub either : Used → Used → Used
either a b = record { is_used = λ id. a.is_used id || b.is_used id; count = a.count + b.count }

-- the count is that of a list of the used ids
pub record IsCounted (used : Used) : Type 0 where
  pub ids : List (List ℕ)
  pub same : (id : List ℕ) → used.is_used id ≡ is_one_of ids id
  pub count : length ids ≡ used.count

-- ---- made ids

-- so many words, from that one on
abbrev pub words_from : ℕ → ℕ → List ℕ
words_from zero word = []
words_from (suc n) word = word ∷ words_from n (word + 1)

-- the word's id isn't used, and it is none of these
abbrev pub is_free : Used → List (List ℕ) → ℕ → Bool
is_free used ids word = not (used.is_used (id_of_word word) || is_one_of ids (id_of_word word))

-- Of the words from that one on the first whose id is free. It is among the next `most`, or the one after them, if no
-- more than `most` ids are used or among these.
abbrev pub free_word : Used → List (List ℕ) → ℕ → ℕ → ℕ
free_word used ids most word = unwrap_or (find (is_free used ids) (words_from most word)) (word + most)

-- The ids that an entry makes: the k-th one is the next when k were made.
abbrev pub Supply : Type 0
Supply = ℕ → List ℕ

-- what is left of a supply after the first
abbrev pub rest_of : Supply → Supply
rest_of supply k = supply (suc k)

-- The first one is that of the first free word from there on. It is used from then on, and the next begins at the word
-- after.
abbrev pub made_id : Used → List (List ℕ) → ℕ → ℕ → Supply
made_id used ids most word zero = id_of_word (free_word used ids most word)
made_id used ids most word (suc k) =
    let free = free_word used ids most word in made_id used (id_of_word free ∷ ids) (most + 1) ((free + 1) % WORDS) k

-- What an entry makes that is drawn with this name and brings these ids itself: none is used, and none is one of these.
-- The first begins at the name.
abbrev pub supply_of : Used → List (List ℕ) → ℕ → Supply
supply_of used given name = made_id used given (used.count + length given) (name % WORDS)
