-- A body breaks one rule, or gives one value.
use Rattle.std.proofs.Common.{◌≡◌, ◌≤◌, ℕ, Bool, true, false, List, [], ◌∷◌, map, Option, Some, None, refl, sym, ap, ◌∙◌, subst, inl, inr}
use Rattle.std.specs.Prelude.{option_map}
use Rattle.std.proofs.lemmas.Bool.{false≢true}
use Rattle.std.proofs.lemmas.Option.{none-some}
use Rattle.lrs_http.specs.declared.request.Request.{Request}
use Rattle.lrs_json.specs.Depth.{depth}
use Rattle.lrs_json.specs.Json.{Json}
use Rattle.lrs_json.specs.View.{view}
use Rattle.lrs_json.specs.declared.limits.TheConstants.{DEPTH}
use Rattle.lrs_json.proofs.Back.{same_tree, same_trees}
use Rattle.lrs_json_reader.specs.Flaws.{earliest, out_of_range_numbers, repeated_names}
use Rattle.lrs_json_reader.specs.Grammar.{IsText}
use Rattle.lrs_json_reader.specs.Located.{Located, plain}
use Rattle.lrs_json_reader.specs.Refusals.{Spells, is_too_deep}
use Rattle.lrs_json_reader.proofs.Scan.{shallow-scan}
use Rattle.lrs_names.specs.Members.{text_under}
use Rattle.lrs_names.specs.Rules.{least}
use Rattle.lrs_rules.specs.Rules.{BreaksJson}
use Rattle.lrs_rules.specs.declared.rule.Rule.{Rule}
use Rattle.lrs_rules.specs.declared.rule.Rule.TheVariants as rule
use Rattle.lrs_bodies.specs.Bodies.{AreStrings, BodyBreaks, BodyForm, any_body, statement_body, statements_body, document_body, strings_body, course_body, enrolment_body, launch_body, waiver_body, empty_body, sweep_body, IsBodyValue, IsLeastOf, StatementBody, batch_of, first_unlike, has_just, names_of}
use Rattle.lrs_bodies.specs.DeskBodies.{IsEnrolmentIn, IsLaunchIn, IsWaiverIn, IsSweepIn, enrolment_body_faults, launch_body_faults, waiver_body_faults, empty_body_faults, sweep_body_faults}
use Rattle.lrs_bodies.specs.Looks.{Spelled, Tested}
use Rattle.lrs_bodies.specs.Media.{allows_json}
use Rattle.lrs_bodies.specs.declared.body_value.BodyValue.{BodyValue}
use Rattle.lrs_bodies.specs.declared.body_value.BodyValue.TheVariants as body
use Rattle.lrs_bodies.proofs.DeskBodies.{one_enrolment, one_launch, one_waiver, one_sweep}

-- a JSON text spells one value, each of its parts at one offset
abbrev pub OneJson : Type 0
OneJson = (bytes : List ℕ) (p q : Located) → IsText p bytes → IsText q bytes → p ≡ q

abbrev Broken : Type 0
Broken = Option Rule

no_earliest : (offsets : List ℕ) (left : ℕ) → offsets ≡ [] → earliest offsets ≡ Some left → ⊥
no_earliest offsets left e s = none-some left (sym (ap earliest e) ∙ s)

module _ (one : OneJson) (bytes : List ℕ) where
  one_value : (j k : Json) → Spells DEPTH bytes j → Spells DEPTH bytes k → j ≡ k
  one_value j k a b = sym a.is ∙ ap plain (one bytes a.located b.located a.spelled b.spelled) ∙ b.is

  not_deep : (j : Json) → Spells DEPTH bytes j → is_too_deep DEPTH bytes ≡ false
  not_deep j s = shallow-scan DEPTH bytes s.located s.spelled (subst (λ (k : Json). depth k ≤ DEPTH) (sym s.is) s.shallow)

  spelled_unbroken : (j : Json) (r : Rule) → Spells DEPTH bytes j → BreaksJson bytes r → ⊥
  spelled_unbroken j r s h = elim h [
    | inl deep ↦ false≢true (sym (not_deep j s) ∙ deep.1)
    | inr later ↦ elim later [
      | inl bad ↦ bad.1.no_text s.located s.spelled
      | inr others ↦ elim others [
        | inl twice ↦ no_earliest (repeated_names s.located) twice.1.1.left s.distinct (ap (λ (p : Located). earliest (repeated_names p)) (one bytes s.located twice.1.1.located s.spelled twice.1.1.spelled) ∙ twice.1.1.first)
        | inr out ↦ no_earliest (out_of_range_numbers s.located) out.1.1.left s.in_range (ap (λ (p : Located). earliest (out_of_range_numbers p)) (one bytes s.located out.1.1.located s.spelled out.1.1.spelled) ∙ out.1.1.first)
      ]
    ]
  ]

  one_rule : (r s : Rule) → BreaksJson bytes r → BreaksJson bytes s → r ≡ s
  one_rule r s h k = elim h [
    | inl deep ↦ elim k [
      | inl x ↦ deep.0 ∙ sym x.0
      | inr x ↦ elim x [
        | inl bad ↦ absurd (false≢true (sym bad.1.shallow ∙ deep.1))
        | inr y ↦ elim y [
          | inl twice ↦ absurd (false≢true (sym twice.1.1.shallow ∙ deep.1))
          | inr out ↦ absurd (false≢true (sym out.1.1.shallow ∙ deep.1))
        ]
      ]
    ]
    | inr later ↦ elim later [
      | inl bad ↦ elim k [
        | inl deep ↦ absurd (false≢true (sym bad.1.shallow ∙ deep.1))
        | inr x ↦ elim x [
          | inl y ↦ bad.0 ∙ sym y.0
          | inr y ↦ elim y [
            | inl twice ↦ absurd (bad.1.no_text twice.1.1.located twice.1.1.spelled)
            | inr out ↦ absurd (bad.1.no_text out.1.1.located out.1.1.spelled)
          ]
        ]
      ]
      | inr others ↦ elim others [
        | inl twice ↦ elim k [
          | inl deep ↦ absurd (false≢true (sym twice.1.1.shallow ∙ deep.1))
          | inr x ↦ elim x [
            | inl bad ↦ absurd (bad.1.no_text twice.1.1.located twice.1.1.spelled)
            | inr y ↦ elim y [
              | inl z ↦ twice.0 ∙ sym z.0
              | inr out ↦ absurd (no_earliest (repeated_names out.1.1.located) twice.1.1.left out.1.1.distinct (ap (λ (p : Located). earliest (repeated_names p)) (one bytes out.1.1.located twice.1.1.located out.1.1.spelled twice.1.1.spelled) ∙ twice.1.1.first))
            ]
          ]
        ]
        | inr out ↦ elim k [
          | inl deep ↦ absurd (false≢true (sym out.1.1.shallow ∙ deep.1))
          | inr x ↦ elim x [
            | inl bad ↦ absurd (bad.1.no_text out.1.1.located out.1.1.spelled)
            | inr y ↦ elim y [
              | inl twice ↦ absurd (no_earliest (repeated_names out.1.1.located) twice.1.1.left out.1.1.distinct (ap (λ (p : Located). earliest (repeated_names p)) (one bytes out.1.1.located twice.1.1.located out.1.1.spelled twice.1.1.spelled) ∙ twice.1.1.first))
              | inr z ↦ out.0 ∙ sym z.0
            ]
          ]
        ]
      ]
    ]
  ]

  spelled_once : (next : Json → Broken → Type 0) (a b : Broken) → ((j : Json) → next j a → next j b → a ≡ b)
      → Spelled bytes a (λ j. next j a) → Spelled bytes b (λ j. next j b) → a ≡ b
  spelled_once next a b once h k = elim h [
    | inl x ↦ elim k [
      | inl y ↦ once y.0 (subst (λ (j : Json). next j a) (one_value x.0 y.0 x.1 y.1) x.2) y.2
      | inr y ↦ absurd (spelled_unbroken x.0 y.0 x.1 y.1)
    ]
    | inr x ↦ elim k [
      | inl y ↦ absurd (spelled_unbroken y.0 x.0 y.1 x.1)
      | inr y ↦ x.2 ∙ ap Some (one_rule x.0 y.0 x.1 y.1) ∙ sym y.2
    ]
  ]

pub both : (a b c : Broken) → a ≡ c → b ≡ c → a ≡ b
both a b c p q = p ∙ sym q

tested_once : (passes : Bool) (r : Rule) (next : Broken → Type 0) (a b : Broken) → (next a → next b → a ≡ b) → Tested passes r a (next a) → Tested passes r b (next b) → a ≡ b
tested_once true r next a b once h k = once h k
tested_once false r next a b once h k = both a b (Some r) h k

statement_once : OneJson → (request : Request) (a b : Broken) → StatementBody request a → StatementBody request b → a ≡ b
statement_once one request a b h k =
    tested_once (allows_json request.media) (rule.F 3) (λ x. Spelled request.body x (λ _. x ≡ None)) a b
    (λ s t. spelled_once one request.body (λ _ x. x ≡ None) a b (λ _. both a b None) s t) h k

strings_once : (members : List (List ℕ × ℕ)) (j : Json) (a b : Broken) → AreStrings members j a → AreStrings members j b → a ≡ b
strings_once members j a b h k =
    let unlike : Broken = option_map (λ number. rule.B number) (first_unlike members j) in
    tested_once (has_just (names_of members) j) (rule.B 1) (λ x. x ≡ unlike) a b (both a b unlike) h k

least_once : OneJson → (faults : Json → List ℕ) (bytes : List ℕ) (a b : Broken) → Spelled bytes a (λ j. IsLeastOf (faults j) a) → Spelled bytes b (λ j. IsLeastOf (faults j) b) → a ≡ b
least_once one faults bytes a b h k =
    spelled_once one bytes (λ j x. IsLeastOf (faults j) x) a b (λ j. both a b (option_map (λ number. rule.B number) (least (faults j)))) h k

-- a body tells one rule
pub body_once : OneJson → (form : BodyForm) (request : Request) (a b : Broken) → BodyBreaks form request a → BodyBreaks form request b → a ≡ b
body_once one any_body request a b h k = both a b None h k
body_once one statement_body request a b h k = statement_once one request a b h k
body_once one statements_body request a b h k = statement_once one request a b h k
body_once one document_body request a b h k = both a b None h k
body_once one (strings_body members) request a b h k =
    spelled_once one request.body (λ j x. AreStrings members j x) a b (λ j. strings_once members j a b) h k
body_once one course_body request a b h k = spelled_once one request.body (λ _ x. x ≡ None) a b (λ _. both a b None) h k
body_once one enrolment_body request a b h k = least_once one enrolment_body_faults request.body a b h k
body_once one launch_body request a b h k = least_once one launch_body_faults request.body a b h k
body_once one waiver_body request a b h k = least_once one waiver_body_faults request.body a b h k
body_once one empty_body request a b h k = least_once one empty_body_faults request.body a b h k
body_once one sweep_body request a b h k = least_once one sweep_body_faults request.body a b h k

some_texts : (ts us : List (List ℕ)) → map Some ts ≡ map Some us → ts ≡ us
some_texts [] [] e = refl
some_texts [] (u ∷ us) e = absurd (cc e)
some_texts (t ∷ ts) [] e = absurd (cc e)
some_texts (t ∷ ts) (u ∷ us) e =
    let first : t ≡ u = cc e in
    let rest : map Some ts ≡ map Some us = cc e in
    cc (first, some_texts ts us rest)

-- and gives one value
pub body_value_once : OneJson → (form : BodyForm) (request : Request) (a b : BodyValue) → IsBodyValue form request a → IsBodyValue form request b → a ≡ b
body_value_once one any_body request a b h k = h ∙ sym k
body_value_once one statement_body request a b h k =
    let trees : h.0 ≡ k.0 = same_tree h.0 k.0 (one_value one request.body (view h.0) (view k.0) h.1 k.1) in
    h.2 ∙ ap body.Statement trees ∙ sym k.2
body_value_once one statements_body request a b h k =
    let values : h.1 ≡ k.1 = one_value one request.body h.1 k.1 h.2 k.2 in
    let trees : h.0 ≡ k.0 = same_trees h.0 k.0 (h.3 ∙ ap batch_of values ∙ sym k.3) in
    h.4 ∙ ap body.Statements trees ∙ sym k.4
body_value_once one document_body request a b h k = h ∙ sym k
body_value_once one (strings_body members) request a b h k =
    let values : h.1 ≡ k.1 = one_value one request.body h.1 k.1 h.2 k.2 in
    let texts : h.0 ≡ k.0 = some_texts h.0 k.0 (sym h.3 ∙ ap (λ (j : Json). map (λ member. text_under member.0 j) members) values ∙ k.3) in
    h.4 ∙ ap body.Strings texts ∙ sym k.4
body_value_once one course_body request a b h k =
    let trees : h.0 ≡ k.0 = same_tree h.0 k.0 (one_value one request.body (view h.0) (view k.0) h.1 k.1) in
    h.2 ∙ ap body.Course trees ∙ sym k.2
body_value_once one enrolment_body request a b h k =
    one_enrolment k.0 a b (subst (λ (j : Json). IsEnrolmentIn j a) (one_value one request.body h.0 k.0 h.1 k.1) h.2) k.2
body_value_once one launch_body request a b h k =
    one_launch k.0 a b (subst (λ (j : Json). IsLaunchIn j a) (one_value one request.body h.0 k.0 h.1 k.1) h.2) k.2
body_value_once one waiver_body request a b h k =
    one_waiver k.0 a b (subst (λ (j : Json). IsWaiverIn j a) (one_value one request.body h.0 k.0 h.1 k.1) h.2) k.2
body_value_once one empty_body request a b h k = h ∙ sym k
body_value_once one sweep_body request a b h k =
    one_sweep k.0 a b (subst (λ (j : Json). IsSweepIn j a) (one_value one request.body h.0 k.0 h.1 k.1) h.2) k.2
