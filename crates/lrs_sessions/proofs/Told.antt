-- What is said of sessions that are abandoned, as the program finds it.
use Rattle.std.proofs.Common.{◌≡◌, ℕ, List, [], ◌∷◌, ◌++◌, Option, Some, None, option_map, sym, ap, ◌∙◌, append-nil}
use Rattle.std.specs.List.{cons_option}
use Rattle.cmi5_course.specs.declared.launch.Launch.{Launch}
use Rattle.lrs_made.specs.LrsHistoryEndings.{abandoned_at, abandoned_from, abandoned_json, abandoned_jsons, lasted}
use Rattle.lrs_made.specs.LrsHistoryLaunches.{Target, target}
use Rattle.lrs_json.specs.Json.{Json}
use Rattle.lrs_made.specs.LrsStateState.{State}

-- ---- of one session

pub abandoned_there : (st : State) (launch : Launch) (began : ℕ) (t : Target) (ms : ℕ) (j : Json) → Some t ≡ target st launch.registration launch.publisher → ms ≡ lasted launch.session st.statements began
    → j ≡ abandoned_json launch t ms → Some j ≡ abandoned_from st launch began
abandoned_there st launch began t ms j there long made =
    ap (λ (x : Json). Some x) made
    ∙ (ap (λ (n : ℕ). Some (abandoned_json launch t n)) long
    ∙ ap (λ (o : Option Target). option_map (λ (u : Target). abandoned_json launch u (lasted launch.session st.statements began)) o) there)

-- ---- of the next of several

pub told_one : (st : State) (number : ℕ) (before now : List Json) (j : Json) → now ≡ before ++ j ∷ [] → Some j ≡ abandoned_at st number → now ≡ before ++ abandoned_jsons st (number ∷ [])
told_one st number before now j is told = is ∙ ap (λ (o : Option Json). before ++ cons_option o []) told

pub told_none : (st : State) (number : ℕ) (before : List Json) → None ≡ abandoned_at st number → before ≡ before ++ abandoned_jsons st (number ∷ [])
told_none st number before told = sym (append-nil before) ∙ ap (λ (o : Option Json). before ++ cons_option o []) told
