use Rattle.std.proofs.Common.{List, sym, subst, ap, ◌∙◌}
use Rattle.std.proofs.lemmas.Result.{IfOk-weaker}
use Rattle.lrs_refusals.specs.Known.{IsKnown, IsKnownOf}
use Rattle.lrs_refusals.specs.Meeting.{occasion_of}
use Rattle.lrs_made.specs.LrsHistoryRefusals.{conflict}
use Rattle.lrs_json.specs.declared.tree.Tree.{Tree}
use Rattle.lrs_made.specs.LrsPartsParts.{state_of}
use Rattle.lrs_record.specs.Entries.{AreLawfulTrees, IsLawfulWrite}
use Rattle.lrs_record.specs.declared.entry.Write.{Write}
use Rattle.lrs_record.specs.declared.entry.Write.TheVariants.{Post}
use Rattle.lrs_refusals.proofs.refusals.conflict.Goals as goal

pub refused_put-requires-clause-lawful : goal.refused_put-requires-clause-lawful
refused_put-requires-clause-lawful c =
    let lawful = subst (λ (w : Write). IsLawfulWrite w) c.in-Put.is c.requires.lawful in lawful.1.0

pub refused_put-requires-clause-known : goal.refused_put-requires-clause-known
refused_put-requires-clause-known c = subst (λ (w : Write). IsKnown (state_of c.args.parts.now) c.args.draw.now w c.args.known.now) c.in-Put.is c.requires.known

pub refused_together-requires-clause-lawful : goal.refused_together-requires-clause-lawful
refused_together-requires-clause-lawful c =
    let lawful = subst (λ (w : Write). IsLawfulWrite w) c.in-Post.is c.requires.lawful in
    subst (λ (ts : List Tree). AreLawfulTrees ts) (sym c.as_slice.ensures) lawful.0

pub refused_together-requires-clause-known : goal.refused_together-requires-clause-known
refused_together-requires-clause-known c =
    subst (λ (ts : List Tree). IsKnownOf (state_of c.args.parts.now) c.args.draw.now ts c.args.known.now) (sym c.as_slice.ensures)
    (subst (λ (w : Write). IsKnown (state_of c.args.parts.now) c.args.draw.now w c.args.known.now) c.in-Post.is c.requires.known)

pub returns-in-Put-clause-refused : goal.returns-in-Put-clause-refused
returns-in-Put-clause-refused c =
    let st = state_of c.args.parts.now in
    IfOk-weaker c.refused_put.result _ _
    (λ refused told moment token. told
    ∙ ap (λ w. conflict st (occasion_of st c.args.who c.args.draw.now w moment token) w) (sym c.in-Put.is))
    c.refused_put.ensures.refused

pub returns-in-Put-clause-known : goal.returns-in-Put-clause-known
returns-in-Put-clause-known c = subst (λ (w : Write). IsKnown (state_of c.args.parts.now) c.args.draw.now w c.refused_put.new.known) (sym c.in-Put.is) c.refused_put.ensures.known

pub returns-in-Post-clause-refused : goal.returns-in-Post-clause-refused
returns-in-Post-clause-refused c =
    let st = state_of c.args.parts.now in
    IfOk-weaker c.refused_together.result _ _
    (λ refused told moment token. told moment token
    ∙ ap (λ w. conflict st (occasion_of st c.args.who c.args.draw.now w moment token) w) (ap Post c.as_slice.ensures ∙ sym c.in-Post.is))
    c.refused_together.ensures.refused

pub returns-in-Post-clause-known : goal.returns-in-Post-clause-known
returns-in-Post-clause-known c =
    subst (λ (w : Write). IsKnown (state_of c.args.parts.now) c.args.draw.now w c.refused_together.new.known) (ap Post c.as_slice.ensures ∙ sym c.in-Post.is) c.refused_together.ensures.known
