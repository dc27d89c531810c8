-- Why a unit was waived (cmi5 Quartz, section 9.5.5.2).
use Rattle.std.specs.Prelude.{ℕ, List, [], ◌∷◌, Option, codes, find}
use Rattle.std.specs.Str.{bytes_eq}
use Rattle.cmi5_course.specs.declared.reason.Reason.{Reason}
use Rattle.cmi5_course.specs.declared.reason.Reason.TheVariants.{TestedOut, EquivalentAu, EquivalentOutsideActivity}
use Rattle.cmi5_course.specs.declared.reason.Reason.TheVariants.{Administrative}

abbrev pub reason_text : Reason → List ℕ
reason_text TestedOut = codes "Tested Out"
reason_text EquivalentAu = codes "Equivalent AU"
reason_text EquivalentOutsideActivity = codes "Equivalent Outside Activity"
reason_text Administrative = codes "Administrative"

-- the other way: the one of that text
unfoldable pub reason_of : List ℕ → Option Reason
reason_of text =
    find (λ r. bytes_eq text (reason_text r))
    (TestedOut ∷ EquivalentAu ∷ EquivalentOutsideActivity ∷ Administrative ∷ [])
