-- What is known where a call succeeds.
use Rattle.std.proofs.Common.{◌≡◌, ◌++◌, List, [], OnOk, Ok, Err, Result, cond, is_ok, IsOk, sym, true≢false}

pub given_ok : {T E X : Type 0} (r : Result T E) → X → OnOk r X
given_ok (Ok t) x = x
given_ok (Err e) x = tt

pub all_ok : {T E W X Y Z : Type 0} (r : Result T E) → OnOk r W → OnOk r X → OnOk r Y → (W → X → Y → Z) → OnOk r Z
all_ok (Ok t) w x y f = f w x y
all_ok (Err e) w x y f = tt

-- what is moved behind a list, where there is room
pub moved_behind : {T E A : Type 0} (r : Result T E) (old new moved : List A) → IsOk r → new ≡ cond (is_ok r) (old ++ moved) old → new ≡ old ++ moved
moved_behind (Ok t) old new moved ok is = is
moved_behind (Err e) old new moved ok is = absurd (true≢false (sym ok))

pub none_left : {T E A : Type 0} (r : Result T E) (moved left : List A) → IsOk r → left ≡ cond (is_ok r) [] moved → left ≡ []
none_left (Ok t) moved left ok is = is
none_left (Err e) moved left ok is = absurd (true≢false (sym ok))
