-- What is put into the effect is a launch's, whoever asks.
use Rattle.std.proofs.Common.{◌∙◌, false, length, ap, map}
use Rattle.lrs_sessions.specs.LrsHistoryDeskEffects.{coming, session_begun}
use Rattle.lrs_sessions.specs.LrsHistoryEndings.{abandoned_jsons, open_of}
use Rattle.lrs_sessions.specs.LrsHistoryLaunches.{address_at, data_at, data_key, launch_at}
use Rattle.lrs_learning.proofs.Changes.{launched_over}
use Rattle.lrs_sessions.specs.LrsMadeSuppliedProofs.{value_of}
use Rattle.lrs_sessions.specs.LrsMadeLent.{seen_target}
use Rattle.lrs_sessions.specs.LrsPartsParts.{state_of}
use Rattle.lrs_sessions.specs.LrsStateAcceptanceAcceptanceTheVariants as acceptance
use Rattle.lrs_sessions.specs.LrsStateEffectEffect.{Effect}
use Rattle.lrs_replies.specs.Texts.{token_text}
use Rattle.xapi_docs.specs.declared.changes.DocumentsChange.TheVariants.{Written}
use Rattle.lrs_learning.proofs.launches.launch_over.Goals as goal

pub returns : goal.returns
returns c =
    let st = state_of c.args.parts.now in
    let t = seen_target c.args.target.now in
    let begun = c.in_ok-begun.begun in
    let numbers = c.in_ok-numbers.numbers.items in
    let key = token_text st.length c.args.draw.now.secret in
    λ by. launched_over st by c.args.moment c.args.draw.now c.args.mode c.args.return_url.now t begun.session numbers (map value_of c.in_ok-said.said.items) begun.made.items c.launch_as.new.effect
    c.in_ok-begun.ensures.session c.in_ok-begun.ensures.made
    (c.in_ok-numbers.ensures ∙ ap (open_of st t.registration.id) c.requires.activity) (c.in_ok-said.ensures ∙ ap (abandoned_jsons st) c.as_slice.ensures.value)
    (c.in_ok-launch_as.ensures ∙ ap (λ (e : Effect). record e {
      documents = Written (data_key t) (data_at t c.args.mode c.args.return_url.now begun.session c.args.moment);
      launches = coming (launch_at t c.args.mode begun.session);
      keys = coming (record { key = key; launch = length st.launches; fetched = false });
      acceptance = acceptance.Launch begun.session t.unit.method (address_at t key);
    }) (c.set_statements.ensures ∙ ap (λ (e : Effect). record e { statements = begun.made.items })
    (c.set_sessions.ensures ∙ ap (λ (e : Effect). record e { sessions = session_begun numbers }) c.requires.alone)))
