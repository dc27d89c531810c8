-- Supplies that give the same ids: what is made under them is the same, and so is what is left.
use Rattle.std.proofs.Common.{◌≡◌, ℕ, suc, List, [], ◌∷◌, map, Option, None, Some, refl, ap}
use Rattle.lrs_history.specs.Enrolments.{Enrolled}
use Rattle.lrs_history.specs.Made.{left_behind, made_under, owed_jsons, owed_made}
use Rattle.lrs_ids.specs.Ids.{Supply, rest_of}
use Rattle.lrs_ids.specs.IdSupply.{GiveSame}
use Rattle.lrs_json.specs.Json.{Json}
use Rattle.lrs_history.specs.LrsStateState.{State}
use Rattle.xapi_statement.specs.Stored.{StoredStatement}

pub made_same : (supply other : Supply) (moment : ℕ) (js : List Json) → GiveSame supply other → made_under supply moment js ≡ made_under other moment js
made_same supply other moment js same = ap (λ (s : Supply). made_under s moment js) (λ i k. same.same k i)

pub owed_same : (st : State) (session : List ℕ) (supply other : Supply) (moment : ℕ) (new : List StoredStatement) (e : Option Enrolled) → GiveSame supply other
    → owed_made st session supply moment new e ≡ owed_made st session other moment new e
owed_same st session supply other moment new None same = refl
owed_same st session supply other moment new (Some e) same = made_same supply other moment (owed_jsons st session new e) same

-- ---- what is left

pub rest_same : (supply other : Supply) → GiveSame supply other → GiveSame (rest_of supply) (rest_of other)
rest_same supply other same = record { same = λ k. same.same (suc k) }

pub behind_same : {A : Type 0} (supply other : Supply) (xs : List A) → GiveSame supply other → GiveSame (left_behind supply xs) (left_behind other xs)
behind_same supply other xs same = record { same = λ k. ap (λ (s : Supply). left_behind s xs k) (λ i j. same.same j i) }

-- what is left depends on how many there are, and not on what they are
pub behind_mapped : {A B : Type 0} (f : A → B) (supply : Supply) (xs : List A) → left_behind supply (map f xs) ≡ left_behind supply xs
behind_mapped f supply [] = refl
behind_mapped f supply (x ∷ xs) = behind_mapped f (rest_of supply) xs

pub behind_made : (supply other : Supply) (moment : ℕ) (js : List Json) → left_behind supply (made_under other moment js) ≡ left_behind supply js
behind_made supply other moment [] = refl
behind_made supply other moment (j ∷ js) = behind_made (rest_of supply) (rest_of other) moment js
