use Rattle.std.proofs.Common.{◌∙◌, ◌++◌, ◌∷◌, ℕ, true, false, ap}
use Rattle.std.proofs.lemmas.Bool.{eqb-false, false≢true}
use Rattle.std.specs.Prelude.{slice_get}
use Rattle.cmi5_running_verdicts.specs.Running.{SeenRunning}
use Rattle.cmi5_verdict.specs.Cmi5SessionMarked.{mark}
use Rattle.cmi5_verdict.specs.Nodes.{seen}
use Rattle.cmi5_running_verdicts.proofs.Kept.{put_in, put_other, stands_within}
use Rattle.cmi5_running_verdicts.proofs.running.Running.void.Goals as goal
use Rattle.cmi5_running_verdicts.proofs.running.Running.void.Goals.{in-Some, in_default}

pub returns-clause-stands : goal.returns-clause-stands
returns-clause-stands c =
    let all = c.self.inside.held.items in
    let same = ap (λ (r : SeenRunning). r.held) c.self.view_is in
    let number = c.args.number in
    let e = seen c.args.enrolment.now in
    elim c.match-get_mut.branch [
      | in-Some w ↦ λ before behind stands.
          let those = before ++ mark c.args.statement.now false ∷ behind in
          let told =
          put_in all c.args.self.now number w.in-Some.tallies.now w.discount.new.self e those (before ++ mark c.args.statement.now true ∷ behind)
          same w.in-Some.ensures.value (w.discount.ensures before behind) stands in
          rw w.self-inside-is (record { tallies = w.discount.new.self; held = told.0; are = told.1 })
      -- one that stands is held
      | in_default w ↦ λ before behind stands.
          let those = before ++ mark c.args.statement.now false ∷ behind in
          absurd (false≢true (w.in_default.ensures.item.2 (stands_within all c.args.self.now number e those same stands)))
    ]

pub returns-clause-others : goal.returns-clause-others
returns-clause-others c =
    let same = λ (k : ℕ). ap (λ (r : SeenRunning). slice_get r.held k) c.self.view_is in
    elim c.match-get_mut.branch [
      | in-Some w ↦ λ k apart.
          rw w.self-inside-is (put_other c.self.inside.held.items c.args.number k w.discount.new.self (eqb-false k c.args.number apart) ∙ same k)
      | in_default w ↦ λ k apart. rw w.self-inside-is (same k)
    ]
