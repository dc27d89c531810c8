-- What is looked at in a request, each after the one before, and what comes of it: a value, or the first rule that is
-- broken.
use Rattle.std.specs.Prelude.{◌≡◌, ◌⊎◌, ℕ, Bool, true, false, List, Option, Some, None, Result, Ok, Err, IsTrue}
use Rattle.std.specs.Prelude.{MatchBool}
use Rattle.lrs_json.specs.Fits.{IsReadable}
use Rattle.lrs_json.specs.Json.{Json}
use Rattle.lrs_json.specs.View.{view}
use Rattle.lrs_json.specs.declared.tree.Tree.{Tree}
use Rattle.lrs_json.specs.declared.limits.TheConstants.{DEPTH}
use Rattle.lrs_json_reader.specs.Refusals.{Spells}
use Rattle.lrs_json_reader.specs.declared.reading.ReadRefused.{ReadRefused}
use Rattle.lrs_rules.specs.Rules.{BreaksJson, json_rule}
use Rattle.lrs_rules.specs.declared.rule.Rule.{Rule}
use Rattle.lrs_rules.specs.declared.rule.Rule.TheVariants as rule
use Rattle.lrs_bodies.specs.declared.form_refused.FormRefused.{FormRefused}
use Rattle.lrs_bodies.specs.declared.form_refused.FormRefused.TheVariants as form_refused

-- ---- what is looked at: it is in order and the rest tells what is broken, or this is

-- it passes the test, or breaks this rule
abbrev pub Tested : Bool → Rule → Option Rule → Type 0 → Type 0
Tested passes rule broken rest = MatchBool passes rest (broken ≡ Some rule)

-- they spell a value, or break a rule on JSON
abbrev pub Spelled : List ℕ → Option Rule → (Json → Type 0) → Type 0
Spelled bytes broken rest = ((j : Json) × Spells DEPTH bytes j × rest j)
    ⊎ ((r : Rule) × BreaksJson bytes r × (broken ≡ Some r))

-- with nothing to look at in the value
abbrev pub OnlySpelled : List ℕ → Option Rule → Type 0
OnlySpelled bytes broken = Spelled bytes broken (λ j. broken ≡ None)

-- ---- what comes of it

-- a rule on fields, parameters, JSON or bodies
abbrev pub is_form_rule : Rule → Bool
is_form_rule (rule.F number) = true
is_form_rule (rule.P number) = true
is_form_rule (rule.J number) = true
is_form_rule (rule.B number) = true
is_form_rule other = false

-- A value, if nothing is broken, or the first rule that is. Running out of memory is free.
abbrev pub FindsForm : {T : Type 0} → (Option Rule → Type 0) → (T → Type 0) → Result T FormRefused → Type 0
FindsForm first IsValue (Ok value) = first None × IsValue value
FindsForm first IsValue (Err (form_refused.Broken rule)) = first (Some rule) × IsTrue (is_form_rule rule)
FindsForm first IsValue (Err form_refused.Memory) = Unit {0}

-- a tree of the bytes
pub record IsTreeOf (bytes : List ℕ) (tree : Tree) : Type 0 where
  pub spelled : Spells DEPTH bytes (view tree)
  pub readable : IsReadable DEPTH (view tree)

-- none says that memory ran out
abbrev pub fault_of_rule : Option Rule → FormRefused
fault_of_rule None = form_refused.Memory
fault_of_rule (Some r) = form_refused.Broken r

abbrev pub refused_of_json : ReadRefused → FormRefused
refused_of_json refused = fault_of_rule (json_rule refused)
