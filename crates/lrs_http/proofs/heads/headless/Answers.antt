use Rattle.std.proofs.Common.{◌∙◌, sym, inr}
use Rattle.lrs_http.proofs.ReachLemmas.{never, stops_sound, unmade, unmade_ever}
use Rattle.lrs_http.proofs.heads.headless.Goals as goal

pub returns-then-reaches_target : goal.returns-then-reaches_target
returns-then-reaches_target c =
    (never c.args.bytes.now c.requires, inr (stops_sound c.args.bytes.now (sym c.reaches_target.ensures ∙ c.if-reaches_target.true)))

pub returns-then-reaches_target-2 : goal.returns-then-reaches_target-2
returns-then-reaches_target-2 c =
    (never c.args.bytes.now c.requires, unmade c.args.bytes.now c.requires (sym c.reaches_target.ensures ∙ c.if-reaches_target.false))

pub returns-else-reaches_target-2 : goal.returns-else-reaches_target-2
returns-else-reaches_target-2 c =
    unmade_ever c.args.bytes.now c.requires (sym c.reaches_target-else-reaches_target.ensures ∙ c.if-reaches_target-2.false)
