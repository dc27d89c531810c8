-- What clap gives of a line.
use Rattle.std.proofs.Common.{◌≡◌, ◌∷◌, [], true, false, List, Result, IfOk, refl, subst}
use Rattle.clap.specs.Words.{App, Rule, Text, app_of, fault_of, is_simple, is_simple_and_free, with_rule}
use Rattle.clap.specs.declared.builder.command.Command.{Command}
use Rattle.clap.proofs.OnLiterals.{clap_on_literals}
use Rattle.lrs_command_line.specs.CommandLine.{program}
use Rattle.lrs_command_line.specs.Shapes.{IsOf, is_faulty, is_nonempty}

pub simple : is_simple program ≡ true
unfolding clap_on_literals
simple = refl

pub free : is_simple_and_free program ≡ true
unfolding clap_on_literals
free = refl

-- a command with an argument of this rule
pub with_same : {E : Type 0} (r : Result Command E) (a : App) {x y : Rule} → x ≡ y → IfOk r (IsOf (with_rule a x)) → IfOk r (IsOf (with_rule a y))
with_same r a same is = subst (λ (z : Rule). IfOk r (IsOf (with_rule a z))) same is

-- the program, once its commands are known
pub as_same : {E : Type 0} (r : Result Command E) {x y : App} → x ≡ y → IfOk r (λ c. app_of c ≡ x) → IfOk r (λ c. app_of c ≡ y)
as_same r same is = subst (λ (z : App). IfOk r (λ c. app_of c ≡ z)) same is

pub whole : (a : App) (line : List Text) → a ≡ program → fault_of a line ≡ [] → is_faulty line ≡ false
whole a line is none =
    let here : fault_of program line ≡ [] = subst (λ (b : App). fault_of b line ≡ []) is none in rw here refl

pub faulty : (a : App) (line : List Text) → a ≡ program → (fault_of a line ≡ [] → ⊥) → is_faulty line ≡ true
faulty a line is some = by (fault_of program line) (subst (λ (b : App). fault_of b line ≡ [] → ⊥) is some) where
  by : {X : Type 0} (xs : List X) → (xs ≡ [] → ⊥) → is_nonempty xs ≡ true
  by [] some = absurd (some refl)
  by (x ∷ xs) some = refl
