use Rattle.std.proofs.Common.{◌∙◌, ℕ, List, Option, ap, sym}
use Rattle.std.specs.Prelude.{option_and_then}
use Rattle.lrs_json.specs.View.{view}
use Rattle.lrs_json.specs.declared.tree.Tree.{Tree}
use Rattle.lrs_state.specs.Counted.{index_under}
use Rattle.lrs_state.specs.Registrations.{registration_key}
use Rattle.xapi_statement.specs.Statement.{registration_of}
use Rattle.lrs_parts.proofs.following.number_named.Goals as goal

pub returns-in-Some : goal.returns-in-Some
returns-in-Some c =
    c.index_of.ensures
    ∙ ap (λ (o : Option (List ℕ)). option_and_then (λ (id : List ℕ). index_under registration_key id c.args.registrations.now.held) o)
    (sym c.in-Some.is ∙ (c.registration_of.ensures ∙ ap (λ (t : Tree). registration_of (view t)) c.received.ensures))

pub returns-in-None : goal.returns-in-None
returns-in-None c =
    ap (λ (o : Option (List ℕ)). option_and_then (λ (id : List ℕ). index_under registration_key id c.args.registrations.now.held) o)
    (sym c.in-None.is ∙ (c.registration_of.ensures ∙ ap (λ (t : Tree). registration_of (view t)) c.received.ensures))
