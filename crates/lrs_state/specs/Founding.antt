-- What a store is founded with: the admin's token, and the address that its own names begin with.
use Rattle.std.specs.Prelude.{ℕ, ◌==◌, ◌&&◌, ◌||◌, nat_le, nat_eq, not, List, length, Bool, false, Option, Some, None}
use Rattle.std.specs.Prelude.{is_ok, codes, IsTrue}
use Rattle.std.specs.List.{list_all, starts_with, ends_with}
use Rattle.std.specs.Option.{option_or}
use Rattle.std.specs.Str.{bytes_eq}
use Rattle.std.specs.Char.{is_ascii_alphanumeric}
use Rattle.lrs_names.specs.Iris.{is_iri}
use Rattle.lrs_state.specs.declared.founding.Founding.{Founding}
use Rattle.lrs_state.specs.declared.founding.TheConstants.{LONGEST_TOKEN, SHORTEST_TOKEN}
use Rattle.url.specs.Parser.{parse_url}

-- ---- the part

-- the first founding counts
abbrev pub founding_after : Option Founding → Option Founding → Option Founding
founding_after held new = option_or held new

-- the token is the one that the store was founded with
abbrev pub is_admin : Option Founding → List ℕ → Bool
is_admin None token = false
is_admin (Some founding) token = bytes_eq founding.admin token

-- ---- what a store may be founded with

-- 8 to 64 letters and digits
abbrev pub is_token : List ℕ → Bool
is_token token = nat_le SHORTEST_TOKEN (length token) && nat_le (length token) LONGEST_TOKEN
    && list_all is_ascii_alphanumeric token

-- neither ? nor #
abbrev pub is_no_separator : ℕ → Bool
is_no_separator b = not (b == 63) && not (b == 35)

abbrev pub is_of_the_web : List ℕ → Bool
is_of_the_web text = starts_with nat_eq text (codes "http://") || starts_with nat_eq text (codes "https://")

-- what can be seen of an address without reading it as one
abbrev pub has_base_form : List ℕ → Bool
has_base_form text =
    is_of_the_web text && ends_with nat_eq text (codes "/") && list_all is_no_separator text && is_iri text

-- An address of the web that ends with a slash: http or https, an IRI, without query and fragment, and read by the URL
-- Standard's parser.
abbrev pub is_base : List ℕ → Bool
is_base text = has_base_form text && is_ok (parse_url None text)

abbrev pub IsToken : List ℕ → Type 0
IsToken token = IsTrue (is_token token)

abbrev pub IsBase : List ℕ → Type 0
IsBase text = IsTrue (is_base text)
