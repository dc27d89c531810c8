-- The words of a course for what satisfies a unit and for how it is shown, and those for what a unit is launched for
-- (cmi5 Quartz, sections 13.1.4 and 10.2.2).
use Rattle.std.specs.Prelude.{ℕ, List, [], ◌∷◌, Option, codes, find}
use Rattle.std.specs.Str.{bytes_eq}
use Rattle.cmi5_course.specs.declared.unit.MoveOn.{MoveOn}
use Rattle.cmi5_course.specs.declared.unit.MoveOn.TheVariants.{NotApplicable, Passed, Completed, CompletedAndPassed}
use Rattle.cmi5_course.specs.declared.unit.MoveOn.TheVariants.{CompletedOrPassed}
use Rattle.cmi5_course.specs.declared.unit.Method.{Method}
use Rattle.cmi5_course.specs.declared.unit.Method.TheVariants.{OwnWindow, AnyWindow}
use Rattle.cmi5_course.specs.declared.launch.Mode.{Mode}
use Rattle.cmi5_course.specs.declared.launch.Mode.TheVariants.{Normal, Browse, Review}

abbrev pub move_on_text : MoveOn → List ℕ
move_on_text NotApplicable = codes "NotApplicable"
move_on_text Passed = codes "Passed"
move_on_text Completed = codes "Completed"
move_on_text CompletedAndPassed = codes "CompletedAndPassed"
move_on_text CompletedOrPassed = codes "CompletedOrPassed"

abbrev pub method_text : Method → List ℕ
method_text OwnWindow = codes "OwnWindow"
method_text AnyWindow = codes "AnyWindow"

abbrev pub mode_text : Mode → List ℕ
mode_text Normal = codes "Normal"
mode_text Browse = codes "Browse"
mode_text Review = codes "Review"

-- ---- the other way: the one of that word

unfoldable pub move_on_of : List ℕ → Option MoveOn
move_on_of text =
    find (λ m. bytes_eq text (move_on_text m))
    (NotApplicable ∷ Passed ∷ Completed ∷ CompletedAndPassed ∷ CompletedOrPassed ∷ [])

unfoldable pub method_of : List ℕ → Option Method
method_of text = find (λ m. bytes_eq text (method_text m)) (OwnWindow ∷ AnyWindow ∷ [])

unfoldable pub mode_of : List ℕ → Option Mode
mode_of text = find (λ m. bytes_eq text (mode_text m)) (Normal ∷ Browse ∷ Review ∷ [])
