-- How far bytes have come towards a request's target.
use Rattle.std.specs.Prelude.{ℕ, ◌==◌, ◌&&◌, Bool, true, false, cond, List, [], ◌∷◌}
use Rattle.std.specs.List.{list_all}
use Rattle.httparse.specs.Grammar.{is_token_byte, is_uri_byte}

-- after the first byte of a method: the bytes end inside the target; `early` is the answer if they end before it
abbrev pub method_reaches : Bool → List ℕ → Bool
method_reaches early [] = early
method_reaches early (b ∷ rest) =
    cond (is_token_byte b) (method_reaches early rest) ((b == 32) && list_all is_uri_byte rest)

-- the bytes end inside a request's target; the second flag says that a CR stands before them
abbrev pub reaches : Bool → Bool → List ℕ → Bool
reaches early returned [] = early
reaches early returned (a ∷ rest) =
    cond (a == 10) (reaches early false rest)
    (cond returned false (cond (a == 13) (reaches early true rest) (is_token_byte a && method_reaches early rest)))
