-- Parameters, and what is looked at after them.
use Rattle.std.proofs.Common.{◌≡◌, ℕ, Bool, true, false, List, Option, Some, None, sym, subst, inl, inr, IsErrAnd}
use Rattle.std.specs.Prelude.{MatchBool, MatchOption, Result, Ok, Err}
use Rattle.lrs_rules.specs.declared.rule.Rule.{Rule}
use Rattle.lrs_rules.specs.declared.rule.Rule.TheVariants as rule
use Rattle.xapi_parameters.specs.declared.pair.Pair.{Pair}
use Rattle.lrs_bodies.specs.Looks.{FindsForm}
use Rattle.lrs_bodies.specs.declared.form_refused.FormRefused.{FormRefused}
use Rattle.lrs_bodies.specs.declared.form_refused.FormRefused.TheVariants as form_refused
use Rattle.lrs_routes.specs.Forms.{Decoded, LeastOf, Obeyed, ParametersBreak, looks_at}
use Rattle.lrs_routes.specs.Looks.{OnlyDecoded, OnlyParameters}
use Rattle.lrs_routes.specs.Operations.{ParameterForm}

abbrev Broken : Type 0
Broken = Option Rule

some_none : (r : Rule) → ◌≡◌ {A = Broken} (Some r) None → ⊥
some_none r e = cc e

none_some : (r : Rule) → ◌≡◌ {A = Broken} None (Some r) → ⊥
none_some r e = cc e

module _ (form : ParameterForm) (pairs : List Pair) (next : Type 0) where
  stopped : (r : Rule) (a : Option ℕ) → LeastOf form a pairs → MatchOption a (◌≡◌ {A = Broken} (Some r) None) (λ n. Some r ≡ Some (rule.P n)) → Obeyed form pairs (Some r) next
  stopped r None o h = absurd (some_none r h)
  stopped r (Some n) o h = (Some n, o, h)

  decoded_stops : (r : Rule) → OnlyDecoded form pairs (Some r) → Decoded form pairs (Some r) next
  decoded_stops r h = elim h [
    | inl good ↦ inl (good.0, stopped r good.1.0 good.1.1 good.1.2)
    | inr bad ↦ inr bad
  ]

  obeyed_none : (a : Option ℕ) → LeastOf form a pairs → MatchOption a (◌≡◌ {A = Broken} None None) (λ n. None ≡ Some (rule.P n)) → LeastOf form None pairs
  obeyed_none None o h = o
  obeyed_none (Some n) o h = absurd (none_some (rule.P n) h)

  decoded_passes : (b : Broken) → OnlyDecoded form pairs None → next → Decoded form pairs b next
  decoded_passes b h later = elim h [
    | inl good ↦ inl (good.0, (None, obeyed_none good.1.0 good.1.1 good.1.2, later))
    | inr bad ↦ absurd (none_some (rule.P 1) bad.1)
  ]

  -- a rule on the parameters that is broken hides what follows
  pub parameters_stop : (r : Rule) → OnlyParameters form pairs (Some r) → ParametersBreak form pairs (Some r) next
  parameters_stop r h = at (looks_at form) h
    where
      at : (looks : Bool) → MatchBool looks (OnlyDecoded form pairs (Some r)) (◌≡◌ {A = Broken} (Some r) None) → MatchBool looks (Decoded form pairs (Some r) next) next
      at true h = decoded_stops r h
      at false h = absurd (some_none r h)

  -- where they break none, what follows decides
  pub parameters_pass : (b : Broken) → OnlyParameters form pairs None → next → ParametersBreak form pairs b next
  parameters_pass b h later = at (looks_at form) h
    where
      at : (looks : Bool) → MatchBool looks (OnlyDecoded form pairs None) (◌≡◌ {A = Broken} None None) → MatchBool looks (Decoded form pairs b next) next
      at true h = decoded_passes b h later
      at false h = later

-- a refusal is found whatever the value was to be
pub finds_refused : {S T : Type 0} (f g : Option Rule → Type 0) (P : S → Type 0) (Q : T → Type 0) (e : FormRefused) → ((rule : Rule) → f (Some rule) → g (Some rule))
    → FindsForm f P (Err e) → FindsForm g Q (Err e)
finds_refused f g P Q (form_refused.Broken rule) more h = (more rule h.0, h.1)
finds_refused f g P Q form_refused.Memory more h = tt

-- the same, where the refusal is handed on
pub finds_handed : {S T : Type 0} (f g : Option Rule → Type 0) (P : S → Type 0) (Q : T → Type 0) (e : FormRefused) (r : Result T FormRefused) → IsErrAnd r (λ own. own ≡ e)
    → ((rule : Rule) → f (Some rule) → g (Some rule)) → FindsForm f P (Err e) → FindsForm g Q r
finds_handed f g P Q e (Ok value) is more h = absurd is
finds_handed {S} {T} f g P Q e (Err own) is more h = subst (λ (x : FormRefused). FindsForm g Q (Err x)) (sym is) (finds_refused f g P Q e more h)
