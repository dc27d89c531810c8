-- What is told before a call and after it.
use Rattle.std.proofs.Common.{◌≡◌, ℕ, List, refl, Option, Some, None, option_map}
use Rattle.lrs_journal.specs.Journal.{TellsAlike}

-- where bytes are told after a step, it made them of others
pub before : (f : List ℕ → List ℕ) (old new : Option (List ℕ)) (c : List ℕ) → new ≡ option_map f old → new ≡ Some c → (b : List ℕ) × (old ≡ Some b) × (c ≡ f b)
before f None new c is told = absurd (cc (is, told))
before f (Some b) new c is told = (b, refl, cc (is, told))

pub alike_self : (o : Option (List ℕ)) → TellsAlike o o
alike_self None = tt
alike_self (Some b) = tt

pub alike_same : (old new : Option (List ℕ)) → new ≡ old → TellsAlike old new
alike_same None None is = tt
alike_same None (Some c) is = cc is
alike_same (Some b) None is = cc is
alike_same (Some b) (Some c) is = tt

pub alike_both : (a b c : Option (List ℕ)) → TellsAlike a b → TellsAlike b c → TellsAlike a c
alike_both None None None first second = tt
alike_both None None (Some z) first second = second
alike_both None (Some y) c first second = absurd first
alike_both (Some x) None c first second = absurd first
alike_both (Some x) (Some y) None first second = second
alike_both (Some x) (Some y) (Some z) first second = tt

-- where the first is told, the second is
pub told_on : (a b : Option (List ℕ)) (x : List ℕ) → TellsAlike a b → a ≡ Some x → (y : List ℕ) × (b ≡ Some y)
told_on None b x alike told = cc told
told_on (Some x') None x alike told = absurd alike
told_on (Some x') (Some y) x alike told = (y, refl)

-- and the other way
pub told_back : (a b : Option (List ℕ)) (y : List ℕ) → TellsAlike a b → b ≡ Some y → (x : List ℕ) × (a ≡ Some x)
told_back None None y alike told = cc told
told_back None (Some y') y alike told = absurd alike
told_back (Some x) b y alike told = (x, refl)
