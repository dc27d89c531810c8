-- The launches in their order, the keys for which their tokens are given away, and these tokens.
use Rattle.std.specs.Prelude.{ℕ, Bool, List, Option, is_some, map, option_map}
use Rattle.cmi5_course.specs.Launches.{session_of}
use Rattle.cmi5_course.specs.declared.launch.Launch.{Launch}
use Rattle.lrs_state.specs.Counted.{first_under, list_after, index_under}
use Rattle.lrs_state.specs.declared.launches.HeldKey.{HeldKey}
use Rattle.lrs_state.specs.declared.launches.HeldToken.{HeldToken}
use Rattle.lrs_register.specs.Changes.{unchanged}
use Rattle.lrs_register.specs.declared.change.Change.{Change}

abbrev pub text_of_key : HeldKey → List ℕ
text_of_key key = key.key

abbrev pub text_of_token : HeldToken → List ℕ
text_of_token token = token.token

-- ---- what is found

-- the launch whose session has that id
abbrev pub launch_under : List ℕ → List Launch → Option Launch
launch_under session launches = first_under session_of session launches

abbrev pub index_of_session : List ℕ → List Launch → Option ℕ
index_of_session session launches = index_under session_of session launches

-- a launch's session has that id
abbrev pub is_session : List ℕ → List Launch → Bool
is_session session launches = is_some (launch_under session launches)

abbrev pub session_ids : List Launch → List (List ℕ)
session_ids launches = map session_of launches

abbrev pub key_under : List ℕ → List HeldKey → Option HeldKey
key_under key keys = first_under text_of_key key keys

abbrev pub token_under : List ℕ → List HeldToken → Option HeldToken
token_under token tokens = first_under text_of_token token tokens

-- the number of the launch in whose session the token acts
abbrev pub launch_of_token : List ℕ → List HeldToken → Option ℕ
launch_of_token token tokens = option_map (λ held. held.launch) (token_under token tokens)

-- ---- what is changed

-- one that comes
abbrev pub LaunchesChange : Type 0
LaunchesChange = Change Launch

-- one that comes, and one that takes the place of the first with its text
abbrev pub KeysChange : Type 0
KeysChange = Change HeldKey

-- one that comes
abbrev pub TokensChange : Type 0
TokensChange = Change HeldToken

abbrev pub unchanged_launches : LaunchesChange
unchanged_launches = unchanged

abbrev pub unchanged_keys : KeysChange
unchanged_keys = unchanged

abbrev pub unchanged_tokens : TokensChange
unchanged_tokens = unchanged

abbrev pub launches_after : List Launch → LaunchesChange → List Launch
launches_after launches change = list_after session_of launches change

abbrev pub keys_after : List HeldKey → KeysChange → List HeldKey
keys_after keys change = list_after text_of_key keys change

abbrev pub tokens_after : List HeldToken → TokensChange → List HeldToken
tokens_after tokens change = list_after text_of_token tokens change
