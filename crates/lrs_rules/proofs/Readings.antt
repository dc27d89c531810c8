-- A refusal of JSON means the rule that the bytes break.
use Rattle.std.proofs.Common.{◌≡◌, ◌↔◌, ℕ, List, inl, inr}
use Rattle.std.specs.Prelude.{IsTrue, Result, Err, Some}
use Rattle.lrs_json.specs.declared.limits.TheConstants.{DEPTH}
use Rattle.lrs_json.specs.declared.tree.Tree.{Tree}
use Rattle.lrs_json_reader.specs.Refusals.{Refuses, IsBad, RepeatedAt, OutOfRangeAt, is_too_deep}
use Rattle.lrs_json_reader.specs.declared.reading.ReadRefused.{ReadRefused}
use Rattle.lrs_json_reader.specs.declared.reading.ReadRefused.TheVariants as read
use Rattle.lrs_rules.specs.Rules.{BreaksJson, json_rule}
use Rattle.lrs_rules.specs.declared.rule.Rule.{Rule}

module _ (bytes : List ℕ) (r : Result Tree ReadRefused) (deep : (r ≡ Err read.TooDeep) ↔ IsTrue (is_too_deep DEPTH bytes)) (bad : Refuses r read.Bad (IsBad DEPTH bytes))
    (repeated : (offset : ℕ) → Refuses r (read.Repeated offset) (RepeatedAt DEPTH bytes offset)) (range : (offset : ℕ) → Refuses r (read.NumberRange offset) (OutOfRangeAt DEPTH bytes offset)) where
  pub breaks_json : (x : ReadRefused) (rule : Rule) → r ≡ Err x → json_rule x ≡ Some rule → BreaksJson bytes rule
  breaks_json read.TooDeep rule is means = inl (cc means, deep.0 is)
  breaks_json read.Bad rule is means = inr (inl (cc means, bad.only is))
  breaks_json (read.Repeated offset) rule is means = inr (inr (inl (cc means, (offset, (repeated offset).only is))))
  breaks_json (read.NumberRange offset) rule is means = inr (inr (inr (cc means, (offset, (range offset).only is))))
  breaks_json read.Memory rule is means = absurd (cc means)
