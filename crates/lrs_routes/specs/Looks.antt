-- What comes of the looks at a request.
use Rattle.std.specs.Prelude.{◌≡◌, ◌⊎◌, ℕ, List, Option, Some, None, Result, Ok, Err, IsTrue, MatchOption}
use Rattle.lrs_http.specs.declared.request.Request.{Request}
use Rattle.lrs_bodies.specs.Looks.{is_form_rule}
use Rattle.lrs_bodies.specs.declared.body_value.BodyValue.{BodyValue}
use Rattle.lrs_bodies.specs.declared.form_refused.FormRefused.{FormRefused}
use Rattle.lrs_bodies.specs.declared.form_refused.FormRefused.TheVariants as form_refused
use Rattle.lrs_command.specs.Commands.{HasReadTrees}
use Rattle.lrs_command.specs.declared.command.Command.{Command}
use Rattle.lrs_command.specs.declared.command.Command.TheVariants.{Refused}
use Rattle.lrs_command.specs.declared.command.TheConstants.{BAD_REQUEST, NOT_FOUND}
use Rattle.lrs_rules.specs.declared.rule.Rule.{Rule}
use Rattle.lrs_rules.specs.declared.rule.Rule.TheVariants as rule
use Rattle.xapi_parameters.specs.declared.pair.Pair.{Pair}
use Rattle.xapi_parameters.specs.declared.refused.QueryRefused.{QueryRefused}
use Rattle.xapi_parameters.specs.declared.refused.QueryRefused.TheVariants as query
use Rattle.lrs_routes.specs.Forms.{Decoded, LeastOf, Means, ParametersBreak}
use Rattle.lrs_routes.specs.Operations.{ParameterForm, IsParameterValue, OfParameters, command_of, form_of}
use Rattle.lrs_routes.specs.Parts.{part_of}
use Rattle.lrs_routes.specs.declared.operation.Operation.{Operation}
use Rattle.lrs_routes.specs.declared.values.ParameterValue.{ParameterValue}
use Rattle.lrs_routes.specs.declared.values.PartValue.{PartValue}

-- A form is refused with 400, and a path with 404, by such a rule.
abbrev pub HasFormRule : Command → Type 0
HasFormRule (Refused area status rule) = ((status ≡ BAD_REQUEST) ⊎ (status ≡ NOT_FOUND)) × IsTrue (is_form_rule rule)
HasFormRule other = Unit {0}

-- ---- the parameters

-- of the rule that a form is refused for
abbrev pub IfBroken : FormRefused → (Rule → Type 0) → Type 0
IfBroken (form_refused.Broken rule) P = P rule
IfBroken form_refused.Memory P = Unit {0}

abbrev pub refused_of_query : QueryRefused → FormRefused
refused_of_query (query.BadParameter number) = form_refused.Broken (rule.P number)
refused_of_query query.BadLink = form_refused.Broken (rule.P 14)
refused_of_query query.Memory = form_refused.Memory

-- with nothing to look at after the parameters
abbrev pub OnlyParameters : ParameterForm → List Pair → Option Rule → Type 0
OnlyParameters form pairs broken = ParametersBreak form pairs broken (broken ≡ None)

abbrev pub OnlyDecoded : ParameterForm → List Pair → Option Rule → Type 0
OnlyDecoded form pairs broken = Decoded form pairs broken (broken ≡ None)

-- what the parameters give, and such as their form gives
pub record IsInParameters (form : ParameterForm) (pairs : List Pair) (value : ParameterValue) : Type 0 where
  pub is : IsParameterValue form pairs value
  pub kind : OfParameters form value

-- What they are read as by the form's own rules: a value, or the least that they break. Running out of memory is free.
abbrev pub ReadsParameters : ParameterForm → List Pair → Result ParameterValue QueryRefused → Type 0
ReadsParameters form pairs (Ok value) = LeastOf form None pairs × IsInParameters form pairs value
ReadsParameters form pairs (Err (query.BadParameter number)) = LeastOf form (Some number) pairs
ReadsParameters form pairs (Err query.BadLink) = LeastOf form (Some 14) pairs
ReadsParameters form pairs (Err query.Memory) = Unit {0}

-- ---- the command

-- a command that isn't a refusal
abbrev pub IsNoRefusal : Command → Type 0
IsNoRefusal (Refused area status rule) = ⊥
IsNoRefusal other = HasReadTrees other

-- a command that a request means
pub record IsMeant (operation : Operation) (request : Request) (part : PartValue) (command : Command) : Type 0 where
  pub means : Means operation request part command
  pub plain : IsNoRefusal command

-- what comes of the part of the path, once the parameters and the body gave these: the command, or none where the part
-- is no id
abbrev pub IsGiven : Operation → List ℕ → ParameterValue → BodyValue → Option Command → Type 0
IsGiven operation path q b found =
    MatchOption (part_of (form_of operation).part path) (found ≡ None)
    (λ part. MatchOption found ⊥ (λ command. (command_of operation q part b ≡ Some command) × IsNoRefusal command))

abbrev pub IsMeantThere : Operation → Request → Option Command → Type 0
IsMeantThere operation request found =
    MatchOption (part_of (form_of operation).part request.path) (found ≡ None)
    (λ part. MatchOption found ⊥ (IsMeant operation request part))
