-- A form that grows by some pairs after others.
use Rattle.std.proofs.Common.{◌≡◌, ℕ, List, [], ◌∷◌, ◌++◌, refl}
use Rattle.form_urlencoded.specs.Form.{extend_pairs}
use Rattle.form_urlencoded.specs.Target.{Target}
use Rattle.xapi_query.specs.Links.{Appends}

pub two_and_more : (f g h k : Target) (a b : List ℕ × List ℕ) (more : List (List ℕ × List ℕ)) → f.form ≡ [] → Appends f g (a ∷ []) → Appends g h (b ∷ []) → Appends h k more
    → k.prefix ++ k.form ≡ f.prefix ++ extend_pairs [] (a ∷ b ∷ more)
two_and_more f g h k a b more none x y z = rw (z, y, x, none) refl
