-- The form of a request: the rules that it may break, in the order in which they are looked at, and the command that it
-- means if it breaks none.
use Rattle.std.specs.Prelude.{◌≡◌, ◌⊎◌, ℕ, Bool, true, false, List, [], Option, Some, None, MatchBool, MatchOption}
use Rattle.lrs_http.specs.declared.request.Request.{Request}
use Rattle.lrs_bodies.specs.Bodies.{BodyBreaks, IsBodyValue}
use Rattle.lrs_bodies.specs.declared.body_value.BodyValue.{BodyValue}
use Rattle.lrs_record.specs.declared.entry.Area.{Area}
use Rattle.lrs_command.specs.declared.command.Command.{Command}
use Rattle.lrs_command.specs.declared.command.Command.TheVariants.{Refused}
use Rattle.lrs_command.specs.declared.command.TheConstants.{BAD_REQUEST, NOT_FOUND}
use Rattle.lrs_rules.specs.declared.rule.Rule.{Rule}
use Rattle.lrs_rules.specs.declared.rule.Rule.TheVariants as rule
use Rattle.xapi_parameters.specs.Documents.{LeastOfDocument, LeastOfDocuments, LeastOfDrop}
use Rattle.xapi_parameters.specs.Pairs.{AreTexts, pairs_of}
use Rattle.xapi_parameters.specs.Parameters.{Demands, LeastOfGet, LeastOfLink, LeastOfPut}
use Rattle.xapi_parameters.specs.declared.pair.Pair.{Pair}
use Rattle.lrs_routes.specs.Operations.{ParameterForm, any_parameters, no_parameters, parameters_of_get}
use Rattle.lrs_routes.specs.Operations.{parameters_of_link, parameters_of_put, parameters_of_document}
use Rattle.lrs_routes.specs.Operations.{parameters_of_documents, parameters_of_drop}
use Rattle.lrs_routes.specs.Operations.{IsParameterValue, command_of, form_of}
use Rattle.lrs_routes.specs.Parts.{part_of}
use Rattle.lrs_routes.specs.declared.operation.Operation.{Operation}
use Rattle.lrs_routes.specs.declared.values.ParameterValue.{ParameterValue}
use Rattle.lrs_routes.specs.declared.values.PartValue.{PartValue}

-- ---- the parameters

-- the parameters that a query spells; no query spells none
abbrev pub parameters_of : Option (List ℕ) → List Pair
parameters_of None = []
parameters_of (Some query) = pairs_of query

-- if there are to be no parameters, the least rule that they break
abbrev pub LeastOfNone : Option ℕ → List Pair → Type 0
LeastOfNone found pairs = Demands 2 (pairs ≡ []) found (found ≡ None)

-- the least of the form's own rules that they break
abbrev pub LeastOf : ParameterForm → Option ℕ → List Pair → Type 0
LeastOf any_parameters found pairs = found ≡ None
LeastOf no_parameters found pairs = LeastOfNone found pairs
LeastOf parameters_of_get found pairs = LeastOfGet found pairs
LeastOf parameters_of_link found pairs = LeastOfLink found pairs
LeastOf parameters_of_put found pairs = LeastOfPut found pairs
LeastOf parameters_of_document found pairs = LeastOfDocument found pairs
LeastOf parameters_of_documents found pairs = LeastOfDocuments found pairs
LeastOf parameters_of_drop found pairs = LeastOfDrop found pairs

-- What is looked at, each after the one before: it is in order and the rest tells what is broken, or this is.

-- they break none of the form's own rules, or this is the least that they break
abbrev pub Obeyed : ParameterForm → List Pair → Option Rule → Type 0 → Type 0
Obeyed form pairs broken rest =
    (found : Option ℕ) × LeastOf form found pairs × MatchOption found rest (λ number. broken ≡ Some (rule.P number))

-- the same after the first rule, that they are texts
abbrev pub Decoded : ParameterForm → List Pair → Option Rule → Type 0 → Type 0
Decoded form pairs broken rest = (AreTexts pairs × Obeyed form pairs broken rest)
    ⊎ ((¬ AreTexts pairs) × (broken ≡ Some (rule.P 1)))

abbrev pub looks_at : ParameterForm → Bool
looks_at any_parameters = false
looks_at other = true

-- of the form of the parameters, if they are looked at
abbrev pub ParametersBreak : ParameterForm → List Pair → Option Rule → Type 0 → Type 0
ParametersBreak form pairs broken rest = MatchBool (looks_at form) (Decoded form pairs broken rest) rest

-- ---- the first rule that is broken, and the command

-- The first rule that the request's form breaks, None if it breaks none.
abbrev pub FirstBroken : Operation → Request → Option Rule → Type 0
FirstBroken operation request broken =
    ParametersBreak (form_of operation).parameters (parameters_of request.query) broken
    (BodyBreaks (form_of operation).body request broken)

-- What the request means with that part of its path, if its form breaks no rule.
abbrev pub Means : Operation → Request → PartValue → Command → Type 0
Means operation request part command =
    (q : ParameterValue) × (b : BodyValue) × IsParameterValue (form_of operation).parameters
    (parameters_of request.query) q
    × IsBodyValue (form_of operation).body request b × (command_of operation q part b ≡ Some command)

-- The refusal of a path in which a part is no id: nothing is there. A refusal by 404 tells its caller no rule; the one
-- here is that on ids.
abbrev pub nowhere : Area → Command
nowhere area = Refused area NOT_FOUND (rule.P 5)

-- the command of a request that breaks no rule: what it means, unless the part of its path is no id
abbrev pub IsUnbroken : Area → Operation → Request → Command → Type 0
IsUnbroken area operation request command =
    MatchOption (part_of (form_of operation).part request.path) (command ≡ nowhere area)
    (λ part. Means operation request part command)

-- The command of a request to a route of that area: the refusal by the first rule that its form breaks, or what it is
-- if it breaks none.
abbrev pub IsCommand : Area → Operation → Request → Command → Type 0
IsCommand area operation request command =
    (broken : Option Rule) × FirstBroken operation request broken
    × MatchOption broken (IsUnbroken area operation request command) (λ rule. command ≡ Refused area BAD_REQUEST rule)
