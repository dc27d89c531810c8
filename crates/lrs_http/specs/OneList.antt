-- A stream spells one list.
use Rattle.std.specs.Prelude.{◌≡◌, ℕ, List, Option}
use Rattle.lrs_http.specs.declared.request.Request.{Request}
use Rattle.lrs_http.specs.declared.request.RequestRefused.{RequestRefused}
use Rattle.lrs_http.specs.Stream.{Item, IsItem, SpellsRequests}

-- two readings of a stream give the same item
abbrev pub OneItem : Type 0
OneItem = (stream : List ℕ) (a b : Item) → IsItem stream a → IsItem stream b → a ≡ b

-- two readings of a stream, in whatever pieces it comes, give the same requests and the same end
abbrev pub OneList : Type 0
OneList =
    (most : ℕ) (stream : List ℕ) (a b : List Request) (x y : Option RequestRefused)
    → SpellsRequests most stream a x → SpellsRequests most stream b y → (a ≡ b) × (x ≡ y)
