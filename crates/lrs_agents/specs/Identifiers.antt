-- What identifies an agent or a group, and what is read of them (xAPI 1.0.3, part two, section 2.4.2).
use Rattle.std.specs.Prelude.{ℕ, ◌&&◌, Bool, false, List, Option, Some, None, option_map, option_and_then, codes}
use Rattle.std.specs.Str.{bytes_eq}
use Rattle.lrs_json.specs.Json.{Json, string, object, Members, no_members, member}
use Rattle.lrs_json.specs.Find.{find}
use Rattle.lrs_agents.specs.Agents.{is_mailbox, is_sha1}
use Rattle.lrs_names.specs.Iris.{is_iri}
use Rattle.lrs_names.specs.Members.{text_under}
use Rattle.lrs_agents.specs.declared.identifiers.Ifi.{Ifi}
use Rattle.lrs_agents.specs.declared.identifiers.Ifi.TheVariants.{Mbox, MboxSha1, OpenId, Account}
use Rattle.lrs_agents.specs.declared.identifiers.Lent.{Lent}

-- this, or that if there is none
abbrev pub or_else : Option Ifi → Option Ifi → Option Ifi
or_else None other = other
or_else (Some ifi) other = Some ifi

-- a home page and a name, both strings
abbrev pub account_of : Json → Option Ifi
account_of j =
    option_and_then (λ home. option_map (λ name. Account home name) (text_under (codes "name") j))
    (text_under (codes "homePage") j)

-- The identifier of an agent or a group: in one that breaks no rule at most one of the four stands.
unfoldable pub identifier_of : Json → Option Ifi
identifier_of j =
    or_else (option_map Mbox (text_under (codes "mbox") j))
    (or_else (option_map MboxSha1 (text_under (codes "mbox_sha1sum") j))
    (or_else (option_map OpenId (text_under (codes "openid") j))
    (option_and_then account_of (find (codes "account") j))))

-- the identifier that is lent
abbrev pub lent : Lent → Ifi
lent (Lent.Mbox text) = Mbox text.now
lent (Lent.MboxSha1 text) = MboxSha1 text.now
lent (Lent.OpenId text) = OpenId text.now
lent (Lent.Account home name) = Account home.now name.now

-- the same kind, with the same texts
abbrev pub same_ifi : Ifi → Ifi → Bool
same_ifi (Mbox a) (Mbox b) = bytes_eq a b
same_ifi (Mbox a) (MboxSha1 b) = false
same_ifi (Mbox a) (OpenId b) = false
same_ifi (Mbox a) (Account h n) = false
same_ifi (MboxSha1 a) (Mbox b) = false
same_ifi (MboxSha1 a) (MboxSha1 b) = bytes_eq a b
same_ifi (MboxSha1 a) (OpenId b) = false
same_ifi (MboxSha1 a) (Account h n) = false
same_ifi (OpenId a) (Mbox b) = false
same_ifi (OpenId a) (MboxSha1 b) = false
same_ifi (OpenId a) (OpenId b) = bytes_eq a b
same_ifi (OpenId a) (Account h n) = false
same_ifi (Account h n) (Mbox b) = false
same_ifi (Account h n) (MboxSha1 b) = false
same_ifi (Account h n) (OpenId b) = false
same_ifi (Account h n) (Account g m) = bytes_eq h g && bytes_eq n m

-- its text, or its home page, is what such an identifier has
abbrev pub is_identifier : Ifi → Bool
is_identifier (Mbox text) = is_mailbox text
is_identifier (MboxSha1 text) = is_sha1 text
is_identifier (OpenId text) = is_iri text
is_identifier (Account home name) = is_iri home

-- ---- an object with the identifier alone

abbrev pub alone_under : List ℕ → Json → Json
alone_under name value = object (member name value no_members)

abbrev pub account_json : List ℕ → List ℕ → Json
account_json home name =
    object (member (codes "homePage") (string home) (member (codes "name") (string name) no_members))

abbrev pub identifier_json : Ifi → Json
identifier_json (Mbox text) = alone_under (codes "mbox") (string text)
identifier_json (MboxSha1 text) = alone_under (codes "mbox_sha1sum") (string text)
identifier_json (OpenId text) = alone_under (codes "openid") (string text)
identifier_json (Account home name) = alone_under (codes "account") (account_json home name)
