-- A request asks one thing, unless memory runs out.
use Rattle.std.proofs.Common.{◌≡◌, ℕ, Bool, true, false, List, [], Option, Some, None, Result, Ok, Err, refl, sym, ap, ◌∙◌, inl, inr, arith}
use Rattle.std.specs.Prelude.{◌==◌, MatchBool, MatchOption}
use Rattle.std.proofs.lemmas.Bool.Decides.{nat_tests}
use Rattle.std.proofs.lemmas.Option.{none-some, same_Some}
use Rattle.lrs_http.specs.declared.request.Request.{Request}
use Rattle.lrs_bodies.specs.Bodies.{BodyBreaks}
use Rattle.lrs_bodies.proofs.OneBody.{body_once, body_value_once, both}
use Rattle.lrs_command.specs.declared.command.Command.{Command}
use Rattle.lrs_command.specs.declared.command.Command.TheVariants as command
use Rattle.lrs_command.specs.declared.command.TheConstants.{BAD_REQUEST}
use Rattle.lrs_record.specs.declared.entry.Area.{Area}
use Rattle.lrs_rules.specs.declared.rule.Rule.{Rule}
use Rattle.lrs_rules.specs.declared.rule.Rule.TheVariants as rule
use Rattle.xapi_parameters.specs.declared.pair.Pair.{Pair}
use Rattle.xapi_parameters.proofs.Least.{get_once, link_once, put_once}
use Rattle.xapi_parameters.proofs.Owners.{document_once, documents_get_once, drop_once}
use Rattle.xapi_parameters.proofs.LinkAlone.{links_alone}
use Rattle.xapi_parameters.proofs.OneJson.{one_json}
use Rattle.lrs_routes.specs.Asked.{Agree, IsAsked}
use Rattle.lrs_routes.specs.Forms.{FirstBroken, Decoded, IsCommand, IsUnbroken, LeastOf, LeastOfNone, Means, ParametersBreak, looks_at, nowhere, parameters_of}
use Rattle.lrs_routes.specs.Operations.{ParameterForm, any_parameters, no_parameters, parameters_of_get, parameters_of_link, parameters_of_put, parameters_of_document, parameters_of_documents, parameters_of_drop, IsParameterValue, command_of, form_of}
use Rattle.lrs_routes.specs.Parts.{part_of}
use Rattle.lrs_routes.specs.declared.asked.Asked.{Asked}
use Rattle.lrs_routes.specs.declared.asked.RouteRefused.{RouteRefused}
use Rattle.lrs_routes.specs.declared.operation.Operation.{Operation}
use Rattle.lrs_routes.specs.declared.values.ParameterValue.{ParameterValue}
use Rattle.lrs_routes.specs.declared.values.ParameterValue.TheVariants as parameter
use Rattle.lrs_routes.specs.declared.values.PartValue.{PartValue}
use Rattle.lrs_routes.proofs.Alone.{asked_alone, refused_alone}
use Rattle.lrs_routes.proofs.OneDocument.{one_dropped, one_key, one_wanted}
use Rattle.lrs_routes.proofs.OneWanted.{decoded_least, wanted_once}

abbrev Broken : Type 0
Broken = Option Rule

-- ---- the parameters tell one rule, where what follows does

-- where there are none, no rule is broken, and else the second
none_at : (pairs : List Pair) (n : ℕ) (two : Bool) → (n == 2) ≡ two → MatchBool two (¬ (pairs ≡ [])) ((pairs ≡ []) × (Some n ≡ None)) → (¬ (pairs ≡ [])) × (n ≡ 2)
none_at pairs n true is h = (h, grind (arith, nat_tests, is))
none_at pairs n false is h = absurd (none-some n (sym h.1))

none_once : (pairs : List Pair) (a b : Option ℕ) → LeastOfNone a pairs → LeastOfNone b pairs → a ≡ b
none_once pairs None None h k = refl
none_once pairs None (Some n) h k = absurd ((none_at pairs n (n == 2) refl k).0 h.0)
none_once pairs (Some m) None h k = absurd ((none_at pairs m (m == 2) refl h).0 k.0)
none_once pairs (Some m) (Some n) h k = ap Some ((none_at pairs m (m == 2) refl h).1 ∙ sym (none_at pairs n (n == 2) refl k).1)

least_once : (form : ParameterForm) (pairs : List Pair) (m n : Option ℕ) → LeastOf form m pairs → LeastOf form n pairs → m ≡ n
least_once any_parameters pairs m n h k = h ∙ sym k
least_once no_parameters pairs m n h k = none_once pairs m n h k
least_once parameters_of_get pairs m n h k = get_once pairs m n h k
least_once parameters_of_link pairs m n h k = link_once pairs m n h k
least_once parameters_of_put pairs m n h k = put_once pairs m n h k
least_once parameters_of_document pairs m n h k = document_once pairs m n h k
least_once parameters_of_documents pairs m n h k = documents_get_once pairs m n h k
least_once parameters_of_drop pairs m n h k = drop_once pairs m n h k

module _ (form : ParameterForm) (pairs : List Pair) (next : Broken → Type 0) where
  obeyed_once : (a b : Broken) (m n : Option ℕ) → m ≡ n → (next a → next b → a ≡ b) → MatchOption m (next a) (λ i. a ≡ Some (rule.P i)) → MatchOption n (next b) (λ i. b ≡ Some (rule.P i)) → a ≡ b
  obeyed_once a b None None e once h k = once h k
  obeyed_once a b None (Some n) e once h k = absurd (none-some n e)
  obeyed_once a b (Some m) None e once h k = absurd (none-some m (sym e))
  obeyed_once a b (Some m) (Some n) e once h k = let same : m ≡ n = cc e in h ∙ ap (λ (i : ℕ). Some (rule.P i)) same ∙ sym k

  decoded_once : (a b : Broken) → (next a → next b → a ≡ b) → Decoded form pairs a (next a) → Decoded form pairs b (next b) → a ≡ b
  decoded_once a b once h k = elim h [
    | inl x ↦ elim k [
      | inl y ↦ obeyed_once a b x.1.0 y.1.0 (least_once form pairs x.1.0 y.1.0 x.1.1 y.1.1) once x.1.2 y.1.2
      | inr y ↦ absurd (y.0 x.0)
    ]
    | inr x ↦ elim k [
      | inl y ↦ absurd (x.0 y.0)
      | inr y ↦ both a b (Some (rule.P 1)) x.1 y.1
    ]
  ]

  parameters_once : (a b : Broken) → (next a → next b → a ≡ b) → ParametersBreak form pairs a (next a) → ParametersBreak form pairs b (next b) → a ≡ b
  parameters_once a b once h k = at (looks_at form) h k
    where
      at : (looks : Bool) → MatchBool looks (Decoded form pairs a (next a)) (next a) → MatchBool looks (Decoded form pairs b (next b)) (next b) → a ≡ b
      at true h k = decoded_once a b once h k
      at false h k = once h k

first_once : (o : Operation) (request : Request) (a b : Broken) → FirstBroken o request a → FirstBroken o request b → a ≡ b
first_once o request a b h k =
    parameters_once (form_of o).parameters (parameters_of request.query) (λ x. BodyBreaks (form_of o).body request x) a b
    (λ s t. body_once one_json (form_of o).body request a b s t) h k

-- parameters that break no rule give one value
parameter_value_once : (form : ParameterForm) (pairs : List Pair) (next : Type 0) (a b : ParameterValue) → ParametersBreak form pairs None next → IsParameterValue form pairs a → IsParameterValue form pairs b → a ≡ b
parameter_value_once any_parameters pairs next a b unbroken h k = h ∙ sym k
parameter_value_once no_parameters pairs next a b unbroken h k = h ∙ sym k
parameter_value_once parameters_of_get pairs next a b unbroken h k =
    h.2 ∙ ap parameter.Wanted (wanted_once pairs (decoded_least pairs next unbroken) h.0 k.0 h.1 k.1) ∙ sym k.2
parameter_value_once parameters_of_link pairs next a b unbroken h k = h.2 ∙ ap parameter.Link (links_alone pairs h.0 k.0 h.1 k.1) ∙ sym k.2
parameter_value_once parameters_of_put pairs next a b unbroken h k = h.2 ∙ ap parameter.Id (same_Some h.0 k.0 (sym h.1 ∙ k.1)) ∙ sym k.2
parameter_value_once parameters_of_document pairs next a b unbroken h k = h.2 ∙ ap parameter.Document (one_key pairs h.0 k.0 h.1 k.1) ∙ sym k.2
parameter_value_once parameters_of_documents pairs next a b unbroken h k = h.2 ∙ ap parameter.Documents (one_wanted pairs h.0 k.0 h.1 k.1) ∙ sym k.2
parameter_value_once parameters_of_drop pairs next a b unbroken h k = h.2 ∙ ap parameter.Dropped (one_dropped pairs h.0 k.0 h.1 k.1) ∙ sym k.2

-- what a form means that breaks no rule
means_once : (o : Operation) (request : Request) (p : PartValue) (c d : Command) → FirstBroken o request None → Means o request p c → Means o request p d → c ≡ d
means_once o request p c d unbroken h k =
    let pairs = parameters_of request.query in
    let queries : h.0 ≡ k.0 = parameter_value_once (form_of o).parameters pairs (BodyBreaks (form_of o).body request None) h.0 k.0 unbroken h.2 k.2 in
    let bodies : h.1 ≡ k.1 = body_value_once one_json (form_of o).body request h.1 k.1 h.3 k.3 in
    let commands : command_of o h.0 p h.1 ≡ command_of o k.0 p k.1 = λ i. command_of o (queries i) p (bodies i) in
    same_Some c d (sym h.4 ∙ commands ∙ k.4)

unbroken_once : (area : Area) (o : Operation) (request : Request) (c d : Command) (p : Option PartValue) → FirstBroken o request None
    → MatchOption p (c ≡ nowhere area) (λ there. Means o request there c) → MatchOption p (d ≡ nowhere area) (λ there. Means o request there d) → c ≡ d
unbroken_once area o request c d None first h k = h ∙ sym k
unbroken_once area o request c d (Some p) first h k = means_once o request p c d first h k

command_at : (area : Area) (o : Operation) (request : Request) (c d : Command) (a b : Broken) → a ≡ b → FirstBroken o request a
    → MatchOption a (IsUnbroken area o request c) (λ r. c ≡ command.Refused area BAD_REQUEST r) → MatchOption b (IsUnbroken area o request d) (λ r. d ≡ command.Refused area BAD_REQUEST r) → c ≡ d
command_at area o request c d None None e first h k = unbroken_once area o request c d (part_of (form_of o).part request.path) first h k
command_at area o request c d None (Some r) e first h k = absurd (none-some r e)
command_at area o request c d (Some r) None e first h k = absurd (none-some r (sym e))
command_at area o request c d (Some r) (Some s) e first h k = let same : r ≡ s = cc e in h ∙ ap (λ (x : Rule). command.Refused area BAD_REQUEST x) same ∙ sym k

command_once : (area : Area) (o : Operation) (request : Request) (c d : Command) → IsCommand area o request c → IsCommand area o request d → c ≡ d
command_once area o request c d h k = command_at area o request c d h.0 k.0 (first_once o request h.0 k.0 h.1 k.1) h.1 h.2 k.2

pub one_asked : (request : Request) (a b : Result Asked RouteRefused) → IsAsked request a → IsAsked request b → Agree a b
one_asked request (Ok asked) b h k =
    asked_alone request asked h.0 h.1 h.2 h.3 (λ other c. command_once _ h.1 request other asked.command c h.4) b k
one_asked request (Err e) b h k = refused_alone request e h b k
