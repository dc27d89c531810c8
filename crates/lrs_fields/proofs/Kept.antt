-- What stood before stays, over several steps.
use Rattle.std.proofs.Common.{ℕ, List}
use Rattle.lrs_json.specs.Written.{Extends}
use Rattle.lrs_json.proofs.Extending.{extends_trans}

pub over_two : (a b c : List ℕ) → Extends a b → Extends b c → Extends a c
over_two = extends_trans

pub over_three : (a b c d : List ℕ) → Extends a b → Extends b c → Extends c d → Extends a d
over_three a b c d x y z = over_two a b d x (over_two b c d y z)

pub over_four : (a b c d e : List ℕ) → Extends a b → Extends b c → Extends c d → Extends d e → Extends a e
over_four a b c d e x y z u = over_two a b e x (over_three b c d e y z u)

pub over_five : (a b c d e f : List ℕ) → Extends a b → Extends b c → Extends c d → Extends d e → Extends e f → Extends a f
over_five a b c d e f x y z u v = over_two a b f x (over_four b c d e f y z u v)

pub over_six : (a b c d e f g : List ℕ) → Extends a b → Extends b c → Extends c d → Extends d e → Extends e f → Extends f g → Extends a g
over_six a b c d e f g x y z u v w = over_two a b g x (over_five b c d e f g y z u v w)
