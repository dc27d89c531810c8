-- What the parts of a reader give.
use Rattle.std.specs.Prelude.{◌≡◌, ◌<◌, ◌⊎◌, ℕ, List, [], ◌++◌, drop, length, Bool, false, Option, Some, IfSome, ⊤}
use Rattle.lrs_http.specs.declared.request.RequestRefused.{RequestRefused}
use Rattle.lrs_http.specs.declared.request.RequestRefused.TheVariants as refused

-- the link has nothing left, if that is told
abbrev pub IsAtEnd : Option (List ℕ) → Type 0
IsAtEnd left = IfSome left (λ rest. rest ≡ [])

-- of the stream after its first bytes, so many are the body, and the rest is left
abbrev pub IsBodyAt : ℕ → ℕ → Option (List ℕ) → Option (List ℕ) → List ℕ → Type 0
IsBodyAt start size before after body =
    IfSome before (λ stream. (rest : List ℕ) × (drop start stream ≡ body ++ rest) × (length body ≡ size)
    × (after ≡ Some rest))

-- why a body isn't read
abbrev pub IsNoBody : ℕ → ℕ → Option (List ℕ) → RequestRefused → Type 0
IsNoBody start size before refused.Cut = IfSome before (λ stream. length (drop start stream) < size)
IsNoBody start size before refused.LinkFault = ⊤
IsNoBody start size before refused.Memory = ⊤
IsNoBody start size before refusal = ⊥

-- why a value isn't taken as a text
abbrev pub IsNoText : Bool → RequestRefused → Type 0
IsNoText test refusal = (refusal ≡ refused.Memory) ⊎ ((refusal ≡ refused.Malformed 1) × (test ≡ false))

-- why a body isn't full: the bytes end before it is
abbrev pub IsEarlyEnd : ℕ → Option (List ℕ) → RequestRefused → Type 0
IsEarlyEnd size before refused.Cut = IfSome before (λ stream. length stream < size)
IsEarlyEnd size before refused.LinkFault = ⊤
IsEarlyEnd size before refusal = ⊥

-- no call of the link failed
abbrev pub IsQuiet : RequestRefused → Type 0
IsQuiet refused.LinkFault = ⊥
IsQuiet refusal = ⊤
