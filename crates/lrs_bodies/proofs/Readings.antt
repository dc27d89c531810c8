-- What reading a body tells of the rules on JSON.
use Rattle.std.proofs.Common.{◌≡◌, ◌↔◌, ℕ, List, refl, inr}
use Rattle.std.specs.Prelude.{IsTrue, Some, Result, Err}
use Rattle.lrs_json_reader.specs.Refusals.{Refuses, IsBad, RepeatedAt, OutOfRangeAt, is_too_deep}
use Rattle.lrs_json_reader.specs.declared.reading.ReadRefused.{ReadRefused}
use Rattle.lrs_json_reader.specs.declared.reading.ReadRefused.TheVariants as read
use Rattle.lrs_json.specs.declared.tree.Tree.{Tree}
use Rattle.lrs_json.specs.declared.limits.TheConstants.{DEPTH}
use Rattle.lrs_rules.specs.Rules.{json_rule}
use Rattle.lrs_rules.specs.declared.rule.Rule.TheVariants as rule
use Rattle.lrs_rules.proofs.Readings.{breaks_json}
use Rattle.lrs_bodies.specs.declared.form_refused.FormRefused.TheVariants as form_refused
use Rattle.lrs_bodies.specs.Looks.{FindsForm, IsTreeOf, OnlySpelled, refused_of_json}

abbrev Answer : Type 0
Answer = Result Tree ReadRefused

module _ (bytes : List ℕ) (r : Answer) (deep : (r ≡ Err read.TooDeep) ↔ IsTrue (is_too_deep DEPTH bytes)) (bad : Refuses r read.Bad (IsBad DEPTH bytes))
    (repeated : (offset : ℕ) → Refuses r (read.Repeated offset) (RepeatedAt DEPTH bytes offset)) (range : (offset : ℕ) → Refuses r (read.NumberRange offset) (OutOfRangeAt DEPTH bytes offset)) where
  told : (x : ReadRefused) (n : ℕ) → r ≡ Err x → json_rule x ≡ Some (rule.J n) → FindsForm (OnlySpelled bytes) (IsTreeOf bytes) (Err (form_refused.Broken (rule.J n)))
  told x n is means = (inr (rule.J n, breaks_json bytes r deep bad repeated range x (rule.J n) is means, refl), refl)

  pub tree_missed : (x : ReadRefused) → r ≡ Err x → FindsForm (OnlySpelled bytes) (IsTreeOf bytes) (Err (refused_of_json x))
  tree_missed read.TooDeep is = told read.TooDeep 1 is refl
  tree_missed read.Bad is = told read.Bad 2 is refl
  tree_missed (read.Repeated offset) is = told (read.Repeated offset) 3 is refl
  tree_missed (read.NumberRange offset) is = told (read.NumberRange offset) 4 is refl
  tree_missed read.Memory is = tt
