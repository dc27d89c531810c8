-- Sets of ids, and the ids that are yet to be made.
use Rattle.std.specs.Prelude.{◌≡◌, ◌<◌, ◌≤◌, ℕ, List}
use Rattle.lrs_names.specs.Members.{is_one_of}
use Rattle.lrs_names.specs.declared.id.TheConstants.{WORDS}
use Rattle.lrs_ids.specs.Ids.{Supply, Used, made_id}
use Rattle.lrs_ids.specs.declared.supply.TheConstants.{MOST}

-- two lists hold the same ids
abbrev pub HoldSame : List (List ℕ) → List (List ℕ) → Type 0
HoldSame ids others = (id : List ℕ) → is_one_of ids id ≡ is_one_of others id

-- What is seen of the ids that are yet to be made: those that were given or made, how many words are looked at, and the
-- word from which on.
pub record IdSupply : Type 0 where
  pub gone : List (List ℕ)
  pub most : ℕ
  pub word : ℕ

-- not so many words are looked at that 128 bits don't hold them
pub record IsIdSupply (most word : ℕ) : Type 0 where
  pub few : most ≤ MOST
  pub low : word < WORDS

-- what is left to be made beside the used ids
abbrev pub left_of : Used → IdSupply → Supply
left_of used supply = made_id used supply.gone supply.most supply.word

-- they give the same ids
pub record GiveSame (supply other : Supply) : Type 0 where
  pub same : (k : ℕ) → supply k ≡ other k
