use Rattle.std.proofs.Common.{◌≡◌, ◌∙◌, ◌+◌, ◌-◌, List, length, ap, arith}
use Rattle.std.specs.Prelude.{vec_capacity, vec_len}
use Rattle.std.proofs.lemmas.List.{length_push}
use Rattle.cmi5_running_verdicts.specs.Running.{SeenRunning}
use Rattle.cmi5_running_verdicts.specs.declared.tally.Tally.{Tally}
use Rattle.cmi5_running_verdicts.proofs.Kept.{at_end, is_counted, never_none, others_stay}
use Rattle.cmi5_running_verdicts.proofs.running.Running.enrol.Goals as goal

pub push_reserved-requires : goal.push_reserved-requires
push_reserved-requires c =
    let spare : vec_capacity c.self.inside.held - vec_len c.self.inside.held ≡ c.args.self.now.spare = ap (λ (r : SeenRunning). r.spare) c.self.view_is in
    omega (arith, spare, c.requires.2.room)

pub returns-in-Some-clause-stands : goal.returns-in-Some-clause-stands
returns-in-Some-clause-stands c = λ those e counted. record {
  tallies = c.in-Some.tallies;
  held = at_end c.self.inside.held.items c.args.self.now.held c.push_reserved.new.self.items c.in-Some.tallies c.push_reserved.ensures.items (ap (λ (r : SeenRunning). r.held) c.self.view_is);
  are = is_counted c.args.self.now those e c.take.result c.in-Some.tallies counted (c.take.ensures.value ∙ ap (λ (r : SeenRunning). r.coming) c.self.view_is) c.in-Some.is;
}

pub returns-in-Some-clause-others : goal.returns-in-Some-clause-others
returns-in-Some-clause-others c =
    others_stay c.self.inside.held.items c.args.self.now.held c.push_reserved.new.self.items c.in-Some.tallies c.push_reserved.ensures.items (ap (λ (r : SeenRunning). r.held) c.self.view_is)

pub returns-in-Some-clause-long : goal.returns-in-Some-clause-long
returns-in-Some-clause-long c =
    ap (λ (ts : List (List Tally)). length ts) c.push_reserved.ensures.items
    ∙ (length_push c.self.inside.held.items c.in-Some.tallies ∙ ap (λ (r : SeenRunning). length r.held + 1) c.self.view_is)

-- tallies were made
pub returns-in_default-clause-stands : goal.returns-in_default-clause-stands
returns-in_default-clause-stands c =
    absurd (never_none c.args.self.now c.requires.0 c.requires.1 c.take.result c.requires.2 (c.take.ensures.value ∙ ap (λ (r : SeenRunning). r.coming) c.self.view_is) c.in_default.is)

pub returns-in_default-clause-others : goal.returns-in_default-clause-others
returns-in_default-clause-others c =
    absurd (never_none c.args.self.now c.requires.0 c.requires.1 c.take.result c.requires.2 (c.take.ensures.value ∙ ap (λ (r : SeenRunning). r.coming) c.self.view_is) c.in_default.is)

pub returns-in_default-clause-long : goal.returns-in_default-clause-long
returns-in_default-clause-long c =
    absurd (never_none c.args.self.now c.requires.0 c.requires.1 c.take.result c.requires.2 (c.take.ensures.value ∙ ap (λ (r : SeenRunning). r.coming) c.self.view_is) c.in_default.is)
