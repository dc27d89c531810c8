-- The part of a path, and what a request means with it.
use Rattle.std.proofs.Common.{◌≡◌, ℕ, Bool, true, false, List, [], length, drop, Option, Some, None, refl, sym, ap, ◌∙◌, subst, inr}
use Rattle.std.specs.Prelude.{if◌then◌else◌, option_map, MatchOption}
use Rattle.std.specs.List.{before_first}
use Rattle.std.specs.Str.{IsCharBoundary}
use Rattle.std.specs.Str.Pattern.{FindsTextPrefix, StripsPrefix}
use Rattle.std.proofs.lemmas.Str.Pattern.{starts_text}
use Rattle.lrs_command.specs.Commands.{HasReadTrees}
use Rattle.lrs_command.specs.declared.command.Command.{Command}
use Rattle.lrs_command.specs.declared.command.Command.TheVariants as command
use Rattle.lrs_http.specs.declared.request.Request.{Request}
use Rattle.lrs_bodies.specs.Bodies.{IsBodyValue}
use Rattle.lrs_names.specs.Ids.{id_of}
use Rattle.lrs_record.specs.declared.entry.Area.{Area}
use Rattle.lrs_routes.specs.Forms.{FirstBroken, IsCommand, Means, nowhere, parameters_of}
use Rattle.lrs_routes.specs.Looks.{HasFormRule, IsGiven, IsMeant, IsMeantThere, IsNoRefusal}
use Rattle.lrs_routes.specs.Operations.{IsParameterValue, command_of, form_of}
use Rattle.lrs_routes.specs.Parts.{OfPart, PartForm, no_part, text_part, id_part, is_slash, part_behind, part_of}
use Rattle.lrs_routes.specs.declared.operation.Operation.{Operation}
use Rattle.lrs_bodies.specs.declared.body_value.BodyValue.{BodyValue}
use Rattle.lrs_routes.specs.declared.values.ParameterValue.{ParameterValue}
use Rattle.lrs_routes.specs.declared.values.PartValue.{PartValue}
use Rattle.lrs_routes.specs.declared.values.PartValue.TheVariants as part

-- ---- the part

module _ (beginning path : List ℕ) where
  abbrev behind : Bool → List ℕ
  behind begins = if begins then before_first is_slash (drop (length beginning) path) else []

  pub part_found : (rest found : List ℕ) → StripsPrefix (FindsTextPrefix beginning) path rest → found ≡ before_first is_slash rest → found ≡ part_behind beginning path
  part_found rest found h is =
      let begins = starts_text true beginning path (h.0, h.1, subst (λ (n : ℕ). IsCharBoundary path n) (sym h.1.0) h.1.2) in
      let left : rest ≡ drop (length beginning) path = h.2 ∙ ap (λ (n : ℕ). drop n path) h.1.0 in
      is ∙ ap (λ (xs : List ℕ). before_first is_slash xs) left ∙ ap behind begins

  pub part_missing : FindsTextPrefix beginning path None → [] ≡ part_behind beginning path
  part_missing h = ap behind (starts_text false beginning path h)

-- what a part is, is of its form
ids : (beginning : List ℕ) (found : Option (List ℕ)) (p : PartValue) → option_map (λ (id : List ℕ). part.Id id) found ≡ Some p → OfPart (id_part beginning) p
ids beginning None p e = absurd (cc e)
ids beginning (Some id) p e = let same : part.Id id ≡ p = cc e in subst (λ (v : PartValue). OfPart (id_part beginning) v) same tt

pub of_part : (form : PartForm) (path : List ℕ) (p : PartValue) → part_of form path ≡ Some p → OfPart form p
of_part no_part path p e = let same : part.Nothing ≡ p = cc e in subst (λ (v : PartValue). OfPart no_part v) same tt
of_part (text_part beginning) path p e = let same : part.Text (part_behind beginning path) ≡ p = cc e in subst (λ (v : PartValue). OfPart (text_part beginning) v) same tt
of_part (id_part beginning) path p e = ids beginning (id_of (part_behind beginning path)) p e

-- ---- the meaning

module _ (o : Operation) (request : Request) where
  pub given_meant : (q : ParameterValue) (b : BodyValue) (found : Option Command) → IsParameterValue (form_of o).parameters (parameters_of request.query) q → IsBodyValue (form_of o).body request b
      → IsGiven o request.path q b found → IsMeantThere o request found
  given_meant q b found iq ib h = at (part_of (form_of o).part request.path) found h
    where
      at : (p : Option PartValue) (found : Option Command) → MatchOption p (found ≡ None) (λ there. MatchOption found ⊥ (λ c. (command_of o q there b ≡ Some c) × IsNoRefusal c))
          → MatchOption p (found ≡ None) (λ there. MatchOption found ⊥ (IsMeant o request there))
      at None found h = h
      at (Some p) None h = absurd h
      at (Some p) (Some c) h = record { means = (q, b, iq, ib, h.0); plain = h.1 }

  command_meant : (area : Area) (c : Command) → FirstBroken o request None → IsMeantThere o request (Some c) → IsCommand area o request c
  command_meant area c first h = (None, first, at (part_of (form_of o).part request.path) h)
    where
      at : (p : Option PartValue) → MatchOption p (Some c ≡ None) (λ there. IsMeant o request there c) → MatchOption p (c ≡ nowhere area) (λ there. Means o request there c)
      at None h = absurd (cc h)
      at (Some p) h = h.means

  command_nowhere : (area : Area) → FirstBroken o request None → IsMeantThere o request None → IsCommand area o request (nowhere area)
  command_nowhere area first h = (None, first, at (part_of (form_of o).part request.path) h)
    where
      at : (p : Option PartValue) → MatchOption p (◌≡◌ {A = Option Command} None None) (λ there. ⊥) → MatchOption p (nowhere area ≡ nowhere area) (λ there. Means o request there (nowhere area))
      at None h = refl
      at (Some p) h = absurd h

  meant_plain : (c : Command) → IsMeantThere o request (Some c) → IsNoRefusal c
  meant_plain c h = at (part_of (form_of o).part request.path) h
    where
      at : (p : Option PartValue) → MatchOption p (Some c ≡ None) (λ there. IsMeant o request there c) → IsNoRefusal c
      at None h = absurd (cc h)
      at (Some p) h = h.plain

plain_trees : (c : Command) → IsNoRefusal c → HasReadTrees c
plain_trees (command.Write write) h = h
plain_trees (command.Read read) h = tt
plain_trees (command.Refused area status rule) h = tt

plain_rule : (c : Command) → IsNoRefusal c → HasFormRule c
plain_rule (command.Write write) h = tt
plain_rule (command.Read read) h = tt
plain_rule (command.Refused area status rule) h = absurd h

module _ (o : Operation) (request : Request) (area : Area) where
  -- the command is what was found, or the refusal of a path
  abbrev Comes : Option Command → Command → Type 0
  Comes found c = MatchOption found (c ≡ nowhere area) (λ own. c ≡ own)

  pub command_found : (found : Option Command) (c : Command) → FirstBroken o request None → IsMeantThere o request found → Comes found c → IsCommand area o request c
  command_found None c first h is = subst (λ (x : Command). IsCommand area o request x) (sym is) (command_nowhere o request area first h)
  command_found (Some own) c first h is = subst (λ (x : Command). IsCommand area o request x) (sym is) (command_meant o request area own first h)

  pub found_trees : (found : Option Command) (c : Command) → IsMeantThere o request found → Comes found c → HasReadTrees c
  found_trees None c h is = subst HasReadTrees (sym is) tt
  found_trees (Some own) c h is = subst HasReadTrees (sym is) (plain_trees own (meant_plain o request own h))

  pub found_rule : (found : Option Command) (c : Command) → IsMeantThere o request found → Comes found c → HasFormRule c
  found_rule None c h is = subst HasFormRule (sym is) (inr refl, refl)
  found_rule (Some own) c h is = subst HasFormRule (sym is) (plain_rule own (meant_plain o request own h))
