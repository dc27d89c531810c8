-- Which node an id names, piece by piece.
use Rattle.std.proofs.Common.{◌≡◌, ℕ, ◌<◌, ◌^◌, ◌==◌, ◌++◌, List, true, false, Result, Ok, codes, refl, sym, ap, ◌∙◌}
use Rattle.std.specs.Fmt.{decimal}
use Rattle.std.specs.Str.{bytes_eq}
use Rattle.std.specs.Str.Parse.{ParsesUnsigned}
use Rattle.std.proofs.lemmas.Bool.{false_from_ne_true}
use Rattle.std.proofs.lemmas.Bool.Decides.{same_from_decides, Decides-like, Decides-eqb}
use Rattle.std.proofs.lemmas.Fmt.{decimal_injective, parse-decimal}
use Rattle.std.proofs.lemmas.List.{append_cancel_left}
use Rattle.std.proofs.lemmas.Slice.Eq.{bytes_eq-Decides}
use Rattle.cmi5_session.specs.Cmi5LaunchActivities.{activity_text}
use Rattle.cmi5_session.specs.Cmi5LaunchLongerIrisProofs.{pieces}

-- ---- texts that begin alike

differs : (xs ys : List ℕ) → (xs ≡ ys → ⊥) → false ≡ bytes_eq xs ys
differs xs ys never = sym (false_from_ne_true (bytes_eq xs ys) (λ e. never ((bytes_eq-Decides xs ys).0 e)))

behind_same : (b x y : List ℕ) → bytes_eq (b ++ x) (b ++ y) ≡ bytes_eq x y
behind_same b x y =
    same_from_decides (bytes_eq (b ++ x) (b ++ y)) (bytes_eq x y) (bytes_eq-Decides (b ++ x) (b ++ y))
    (Decides-like (bytes_eq x y) (λ e. ap (λ t. b ++ t) e) (append_cancel_left b x y) (bytes_eq-Decides x y))

pub piece : (text whole b rest tail : List ℕ) → text ≡ b ++ rest → whole ≡ b ++ tail → bytes_eq rest tail ≡ bytes_eq text whole
piece text whole b rest tail e w = sym (ap (λ t. bytes_eq t whole) e ∙ (ap (λ t. bytes_eq (b ++ rest) t) w ∙ behind_same b rest tail))

absent : (text whole b tail : List ℕ) → ((rest : List ℕ) → text ≡ b ++ rest → ⊥) → whole ≡ b ++ tail → false ≡ bytes_eq text whole
absent text whole b tail never w = differs text whole (λ e. never tail (e ∙ w))

-- ---- the id of a node

module _ (id base : List ℕ) (course index : ℕ) where
  abbrev digits_behind : List ℕ
  digits_behind = codes "/" ++ decimal index

  abbrev number_behind : List ℕ
  number_behind = decimal course ++ digits_behind

  abbrev path_behind : List ℕ
  path_behind = codes "activities/" ++ number_behind

  whole : activity_text base course index ≡ base ++ path_behind
  whole = pieces base (codes "activities/") (decimal course) (codes "/") (decimal index)

  pub no_base : ((rest : List ℕ) → id ≡ base ++ rest → ⊥) → false ≡ bytes_eq id (activity_text base course index)
  no_base never = absent id (activity_text base course index) base path_behind never whole

  at_base : (r0 : List ℕ) → id ≡ base ++ r0 → bytes_eq r0 path_behind ≡ bytes_eq id (activity_text base course index)
  at_base r0 e = piece id (activity_text base course index) base r0 path_behind e whole

  pub no_path : (r0 : List ℕ) → id ≡ base ++ r0 → ((rest : List ℕ) → r0 ≡ codes "activities/" ++ rest → ⊥) → false ≡ bytes_eq id (activity_text base course index)
  no_path r0 e never = absent r0 path_behind (codes "activities/") number_behind never refl ∙ at_base r0 e

  at_path : (r0 r1 : List ℕ) → id ≡ base ++ r0 → r0 ≡ codes "activities/" ++ r1 → bytes_eq r1 number_behind ≡ bytes_eq id (activity_text base course index)
  at_path r0 r1 e0 e1 = piece r0 path_behind (codes "activities/") r1 number_behind e1 refl ∙ at_base r0 e0

  pub no_number : (r0 r1 : List ℕ) → id ≡ base ++ r0 → r0 ≡ codes "activities/" ++ r1 → ((rest : List ℕ) → r1 ≡ decimal course ++ rest → ⊥) → false ≡ bytes_eq id (activity_text base course index)
  no_number r0 r1 e0 e1 never = absent r1 number_behind (decimal course) digits_behind never refl ∙ at_path r0 r1 e0 e1

  at_number : (r0 r1 r2 : List ℕ) → id ≡ base ++ r0 → r0 ≡ codes "activities/" ++ r1 → r1 ≡ decimal course ++ r2 → bytes_eq r2 digits_behind ≡ bytes_eq id (activity_text base course index)
  at_number r0 r1 r2 e0 e1 e2 = piece r1 number_behind (decimal course) r2 digits_behind e2 refl ∙ at_path r0 r1 e0 e1

  pub no_digits : (r0 r1 r2 : List ℕ) → id ≡ base ++ r0 → r0 ≡ codes "activities/" ++ r1 → r1 ≡ decimal course ++ r2 → ((rest : List ℕ) → r2 ≡ codes "/" ++ rest → ⊥) → false ≡ bytes_eq id (activity_text base course index)
  no_digits r0 r1 r2 e0 e1 e2 never = absent r2 digits_behind (codes "/") (decimal index) never refl ∙ at_number r0 r1 r2 e0 e1 e2

  pub at_digits : (r0 r1 r2 digits : List ℕ) → id ≡ base ++ r0 → r0 ≡ codes "activities/" ++ r1 → r1 ≡ decimal course ++ r2 → r2 ≡ codes "/" ++ digits → bytes_eq digits (decimal index) ≡ bytes_eq id (activity_text base course index)
  at_digits r0 r1 r2 digits e0 e1 e2 e3 = piece r2 digits_behind (codes "/") digits (decimal index) e3 refl ∙ at_number r0 r1 r2 e0 e1 e2

-- ---- the number that digits print

-- digits that print a number print no other
pub printed : (digits : List ℕ) (found number : ℕ) → found < 2 ^ 64 → number < 2 ^ 64 → bytes_eq digits (decimal found) ≡ true → (found == number) ≡ bytes_eq digits (decimal number)
printed digits found number few small is =
    let own : digits ≡ decimal found = (bytes_eq-Decides digits (decimal found)).0 is in
    same_from_decides (found == number) (bytes_eq digits (decimal number))
    (Decides-like (found == number) (λ e. own ∙ ap (λ n. decimal n) e) (λ e. decimal_injective found number few small (sym own ∙ e)) (Decides-eqb found number))
    (bytes_eq-Decides digits (decimal number))

-- digits that are read as another number, or don't print the one that is read, print none
pub not_printed : {E : Type 0} (digits : List ℕ) (read : Result ℕ E) (number : ℕ) → ParsesUnsigned 64 10 digits read → number < 2 ^ 64 → ((found : ℕ) → read ≡ Ok found → bytes_eq digits (decimal found) ≡ false) → false ≡ bytes_eq digits (decimal number)
not_printed digits read number parsed small never =
    differs digits (decimal number)
    (λ e. let is = never number (parse-decimal 64 number digits read small small e parsed) in let too = (bytes_eq-Decides digits (decimal number)).1 e in cc (is, too))
