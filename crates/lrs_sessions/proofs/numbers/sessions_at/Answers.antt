use Rattle.std.proofs.Common.{◌∙◌, ℕ, option_map, slice_get, ap, arith}
use Rattle.std.proofs.lemmas.List.{take_all}
use Rattle.cmi5_course.specs.declared.launch.Launch.{Launch}
use Rattle.lrs_made.specs.LrsHistoryEndings.{sessions_at}
use Rattle.lrs_made.specs.LrsPartsParts.{state_of}
use Rattle.lrs_sessions.proofs.Filled.{given_more}
use Rattle.lrs_sessions.proofs.numbers.sessions_at.Goals as goal

pub loop-number-init : goal.loop-number-init
loop-number-init c = c.in_ok-ids.ensures.items

pub loop-number-preserved : goal.loop-number-preserved
loop-number-preserved c =
    let at = c.loop-number in
    let st = state_of c.args.parts.now in
    given_more (λ (k : ℕ). option_map (λ (l : Launch). l.session) (slice_get st.launches k)) at.ids.items c.push_session.new.ids.items c.args.numbers.now at.number-index 0 (omega arith)
    at.invariant c.in_ok-push_session.ensures

pub returns : goal.returns
returns c =
    let at = c.loop-number in
    at.invariant ∙ ap (λ ks. sessions_at (state_of c.args.parts.now) ks) (take_all at.number-index c.args.numbers.now (omega arith))
