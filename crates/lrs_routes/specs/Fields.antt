-- What the fields of a request say: the version and the credential.
use Rattle.std.specs.Prelude.{ℕ, ◌==◌, ◌&&◌, ◌||◌, Bool, false, List, [], length, Option, Some, None}
use Rattle.std.specs.Prelude.{if◌then◌else◌, nat_eq, nat_lt, codes}
use Rattle.std.specs.List.{after_first, before_first, position_or_len, starts_with}
use Rattle.std.specs.Str.{bytes_eq, str_eq_ignore_ascii_case}
use Rattle.lrs_record.specs.declared.entry.Caller.{Caller}
use Rattle.lrs_record.specs.declared.entry.Caller.TheVariants.{Nobody, Token}
use Rattle.lrs_record.specs.declared.entry.Area.{Area}
use Rattle.lrs_record.specs.declared.entry.Area.TheVariants.{Free, Store, Desk}

-- ---- the version (xAPI 1.0.3, part three, section 3.3)

-- 1.0, or what begins with 1.0.
abbrev pub is_version : List ℕ → Bool
is_version version = bytes_eq version (codes "1.0") || starts_with nat_eq version (codes "1.0.")

abbrev pub speaks : Option (List ℕ) → Bool
speaks None = false
speaks (Some version) = is_version version

-- ---- the credential (RFC 9110, section 11.4)

abbrev pub is_space : ℕ → Bool
is_space b = b == 32

-- the scheme, a space, and what follows it
abbrev pub has_token : List ℕ → Bool
has_token credential =
    nat_lt (position_or_len is_space credential) (length credential)
    && str_eq_ignore_ascii_case (before_first is_space credential) (codes "Basic")

-- Nobody is meant by an empty token, and by the one that the journal has for the program itself.
abbrev pub caller_of_token : List ℕ → Caller
caller_of_token token = if bytes_eq token [] || bytes_eq token (codes "*") then Nobody else Token token

abbrev pub presented : Option (List ℕ) → Caller
presented None = Nobody
presented (Some credential) = if has_token credential then caller_of_token (after_first is_space credential) else Nobody

-- if anyone may ask, nothing is presented
abbrev pub caller_of : Area → Option (List ℕ) → Caller
caller_of Free credential = Nobody
caller_of Store credential = presented credential
caller_of Desk credential = presented credential
