use Rattle.std.proofs.Common.{◌++◌, List, ℕ, Option, refl, sym, ap, subst, ◌∙◌}
use Rattle.std.proofs.lemmas.Result.{on_ok_weaker}
use Rattle.lrs_json.specs.View.{view}
use Rattle.lrs_time.specs.Moments.{moment_text}
use Rattle.xapi_format.specs.Authorities.{authority_json}
use Rattle.xapi_received.specs.Excerpts.{listed}
use Rattle.xapi_received.specs.Received.{IsReceived, tree_in}
use Rattle.xapi_received.specs.declared.marks.Ending.{Ending}
use Rattle.xapi_received.proofs.Marked.{ends_within, received_at}
use Rattle.xapi_received.proofs.received.ReceivedText.put_completed.Goals as goal

pub put_whole-requires-clause-excerpts : goal.put_whole-requires-clause-excerpts
put_whole-requires-clause-excerpts c =
    let fields = c.self.inside in
    let told = subst (λ (e : Option Ending). IsReceived fields.text.items (listed fields.excerpts) e (tree_in fields.tree.items)) (sym c.ending-ending.ensures) c.self.invariant in
    let is = received_at fields.text.items c.as_slice-text.result.now (listed fields.excerpts) (listed fields.excerpts) c.ending-ending.result (tree_in fields.tree.items) c.args.self.now
    c.as_slice-text.ensures.value refl c.self.view_is told in
    is.within

pub put_whole-requires-clause-ending : goal.put_whole-requires-clause-ending
put_whole-requires-clause-ending c =
    let fields = c.self.inside in
    let told = subst (λ (e : Option Ending). IsReceived fields.text.items (listed fields.excerpts) e (tree_in fields.tree.items)) (sym c.ending-ending.ensures) c.self.invariant in
    let is = received_at fields.text.items c.as_slice-text.result.now (listed fields.excerpts) (listed fields.excerpts) c.ending-ending.result (tree_in fields.tree.items) c.args.self.now
    c.as_slice-text.ensures.value refl c.self.view_is told in
    ends_within c.as_slice-text.result.now (view c.args.self.now) c.ending-ending.result is.given

pub returns-clause-ok : goal.returns-clause-ok
returns-clause-ok c =
    let fields = c.self.inside in
    let told = subst (λ (e : Option Ending). IsReceived fields.text.items (listed fields.excerpts) e (tree_in fields.tree.items)) (sym c.ending-ending.ensures) c.self.invariant in
    let is = received_at fields.text.items c.as_slice-text.result.now (listed fields.excerpts) (listed fields.excerpts) c.ending-ending.result (tree_in fields.tree.items) c.args.self.now
    c.as_slice-text.ensures.value refl c.self.view_is told in
    on_ok_weaker c.put_whole.result (λ e. e ∙ ap (λ (t : List ℕ). c.args.into.now.items ++ t) (is.whole c.args.id.now (moment_text c.args.stored) (authority_json c.args.authority.now)))
    (c.put_whole.ensures.ok (view c.args.self.now) is.given)
