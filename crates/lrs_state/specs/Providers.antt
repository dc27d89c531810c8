-- The providers in the order in which they were made, each with its name and its token.
use Rattle.std.specs.Prelude.{ℕ, ◌==◌, ◌&&◌, ◌||◌, nat_le, Bool, List, length, Option}
use Rattle.std.specs.List.{list_all}
use Rattle.std.specs.Char.{is_ascii_alphanumeric}
use Rattle.lrs_state.specs.Counted.{list_after, index_under}
use Rattle.lrs_state.specs.declared.providers.HeldProvider.{HeldProvider}
use Rattle.lrs_state.specs.declared.providers.TheConstants.{LONGEST_NAME}
use Rattle.lrs_register.specs.Changes.{unchanged}
use Rattle.lrs_register.specs.declared.change.Change.{Change}

abbrev pub token_of : HeldProvider → List ℕ
token_of provider = provider.token

-- the index of the first provider with the token
abbrev pub index_of_token : List ℕ → List HeldProvider → Option ℕ
index_of_token token providers = index_under token_of token providers

-- ---- what is changed

-- one who comes, and one who takes the place of the first with its token
abbrev pub ProvidersChange : Type 0
ProvidersChange = Change HeldProvider

abbrev pub unchanged_providers : ProvidersChange
unchanged_providers = unchanged

abbrev pub providers_after : List HeldProvider → ProvidersChange → List HeldProvider
providers_after providers change = list_after token_of providers change

-- ---- names

-- a letter, a digit, `.` or `_`
abbrev pub is_name_byte : ℕ → Bool
is_name_byte b = is_ascii_alphanumeric b || (b == 46) || (b == 95)

-- 1 to 64 letters, digits, `.` and `_`
abbrev pub is_name : List ℕ → Bool
is_name name = nat_le 1 (length name) && nat_le (length name) LONGEST_NAME && list_all is_name_byte name
