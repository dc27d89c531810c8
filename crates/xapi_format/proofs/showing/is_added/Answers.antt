use Rattle.std.proofs.Common.{◌≡◌, ℕ, List, false, refl, codes}
use Rattle.std.proofs.lemmas.Bool.{false_from_ne_true}
use Rattle.std.specs.Str.{bytes_eq}
use Rattle.std.proofs.lemmas.Slice.Eq.{bytes_eq-Decides}
use Rattle.xapi_format.proofs.showing.is_added.Goals as goal

-- another text
differs : (a b : List ℕ) → (b ≡ a → ⊥) → bytes_eq a b ≡ false
differs a b f = false_from_ne_true (bytes_eq a b) (λ e. f (let same : a ≡ b = (bytes_eq-Decides a b).0 e in cc same))

pub returns-in_default : goal.returns-in_default
returns-in_default c =
    let name = c.args.name.now in
    let a = differs (codes "id") name c.in_default.not-id in
    let b = differs (codes "timestamp") name c.in_default.not-timestamp in
    let d = differs (codes "stored") name c.in_default.not-stored in
    let e = differs (codes "authority") name c.in_default.not-authority in
    let f = differs (codes "version") name c.in_default.not-version in
    rw (a, b, d, e, f) refl
