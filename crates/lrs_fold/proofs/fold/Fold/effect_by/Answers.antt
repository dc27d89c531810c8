-- What is made of each write.
use Rattle.std.proofs.Common.{◌≡◌, sym, ap, subst, ◌∙◌}
use Rattle.std.proofs.lemmas.Result.{IfOk-weaker}
use Rattle.lrs_command.specs.declared.who.Who.{Who}
use Rattle.lrs_fold.proofs.Written.{GivesEffect}
use Rattle.lrs_reads.specs.LrsRefusalsJudged.{IsJudged}
use Rattle.lrs_reads.specs.LrsRefusalsKnown.{IsKnown}
use Rattle.lrs_fold.specs.Written.{effect_by}
use Rattle.lrs_reads.specs.LrsHistoryDeskEffects.{abandoning_one, enrolling, fetching, launching, sweeping, waiving}
use Rattle.lrs_reads.specs.LrsHistoryLaunches.{target}
use Rattle.lrs_learning.specs.Occasions.{occasion_at}
use Rattle.lrs_learning.specs.LrsStateCourses.{index_meant}
use Rattle.lrs_learning.specs.LrsStateLaunches.{key_under, index_of_session}
use Rattle.lrs_learning.specs.LrsPartsParts.{state_of}
use Rattle.lrs_record.specs.declared.entry.Write.{Write}
use Rattle.lrs_record.specs.declared.entry.Write.TheVariants as write
use Rattle.lrs_fold.proofs.fold.Fold.effect_by.Goals as goal

pub returns-in-Found : goal.returns-in-Found
returns-in-Found c =
    c.founding.ensures ∙ ap (λ (w : Write). effect_by (state_of c.args.self.now.parts) c.args.who c.args.moment c.args.draw.now w) (sym c.in-Found.is)

pub founding-requires : goal.founding-requires
founding-requires c = subst IsJudged c.in-Found.is c.requires.judged

pub put-requires-clause-judged : goal.put-requires-clause-judged
put-requires-clause-judged c = subst IsJudged c.in-Put.is c.requires.judged

pub put-requires-clause-known : goal.put-requires-clause-known
put-requires-clause-known c = subst (λ (w : Write). IsKnown (state_of c.args.self.now.parts) c.args.draw.now w c.args.known.now) c.in-Put.is c.requires.known

pub returns-in-Post : goal.returns-in-Post
returns-in-Post c = subst (GivesEffect (state_of c.args.self.now.parts) c.args.who c.args.moment c.args.draw.now c.post.result) (sym c.in-Post.is) c.post.ensures

pub post-requires-clause-judged : goal.post-requires-clause-judged
post-requires-clause-judged c = subst IsJudged c.in-Post.is c.requires.judged

pub post-requires-clause-known : goal.post-requires-clause-known
post-requires-clause-known c = subst (λ (w : Write). IsKnown (state_of c.args.self.now.parts) c.args.draw.now w c.args.known.now) c.in-Post.is c.requires.known

pub course-requires-clause-fits : goal.course-requires-clause-fits
course-requires-clause-fits c = (subst IsJudged c.in-Course.is c.requires.judged).0

pub course-requires-clause-unbroken : goal.course-requires-clause-unbroken
course-requires-clause-unbroken c = (subst IsJudged c.in-Course.is c.requires.judged).1

-- ---- of the desk's, whoever asks

pub returns-in-Enrol : goal.returns-in-Enrol
returns-in-Enrol c =
    let st = state_of c.args.self.now.parts in
    let draw = c.args.draw.now in
    subst (GivesEffect st c.args.who c.args.moment draw c.enrolling.result) (sym c.in-Enrol.is)
    (IfOk-weaker c.enrolling.result (λ made. (by : Who) → made ≡ enrolling st (occasion_at st by c.args.moment draw) c.in-Enrol.actor (index_meant c.in-Enrol.course c.in-Enrol.edition st.courses st.editions))
    (λ made. made ≡ effect_by st c.args.who c.args.moment draw (write.Enrol c.in-Enrol.course c.in-Enrol.actor c.in-Enrol.edition)) (λ made known. known c.args.who) c.enrolling.ensures)

pub enrolling-requires : goal.enrolling-requires
enrolling-requires c = subst IsJudged c.in-Enrol.is c.requires.judged

pub returns-in-Launch : goal.returns-in-Launch
returns-in-Launch c =
    let st = state_of c.args.self.now.parts in
    let draw = c.args.draw.now in
    subst (GivesEffect st c.args.who c.args.moment draw c.launching.result) (sym c.in-Launch.is)
    (IfOk-weaker c.launching.result (λ made. (by : Who) → made ≡ launching st (occasion_at st by c.args.moment draw) c.in-Launch.mode c.in-Launch.return_url (target st c.in-Launch.registration c.in-Launch.unit))
    (λ made. made ≡ effect_by st c.args.who c.args.moment draw (write.Launch c.in-Launch.registration c.in-Launch.unit c.in-Launch.mode c.in-Launch.return_url)) (λ made known. known c.args.who) c.launching.ensures)

pub returns-in-Fetch : goal.returns-in-Fetch
returns-in-Fetch c =
    let st = state_of c.args.self.now.parts in
    let draw = c.args.draw.now in
    subst (GivesEffect st c.args.who c.args.moment draw c.fetching.result) (sym c.in-Fetch.is)
    (IfOk-weaker c.fetching.result (λ made. (by : Who) → made ≡ fetching st (occasion_at st by c.args.moment draw) (key_under c.in-Fetch.key st.keys))
    (λ made. made ≡ effect_by st c.args.who c.args.moment draw (write.Fetch c.in-Fetch.key)) (λ made known. known c.args.who) c.fetching.ensures)

pub returns-in-Waive : goal.returns-in-Waive
returns-in-Waive c =
    let st = state_of c.args.self.now.parts in
    let draw = c.args.draw.now in
    subst (GivesEffect st c.args.who c.args.moment draw c.waiving.result) (sym c.in-Waive.is)
    (IfOk-weaker c.waiving.result (λ made. (by : Who) → made ≡ waiving st (occasion_at st by c.args.moment draw) c.in-Waive.reason (target st c.in-Waive.registration c.in-Waive.unit))
    (λ made. made ≡ effect_by st c.args.who c.args.moment draw (write.Waive c.in-Waive.registration c.in-Waive.unit c.in-Waive.reason)) (λ made known. known c.args.who) c.waiving.ensures)

pub returns-in-Abandon : goal.returns-in-Abandon
returns-in-Abandon c =
    let st = state_of c.args.self.now.parts in
    let draw = c.args.draw.now in
    subst (GivesEffect st c.args.who c.args.moment draw c.abandoning_one.result) (sym c.in-Abandon.is)
    (IfOk-weaker c.abandoning_one.result (λ made. (by : Who) → made ≡ abandoning_one st (occasion_at st by c.args.moment draw) (index_of_session c.in-Abandon.session st.launches))
    (λ made. made ≡ effect_by st c.args.who c.args.moment draw (write.Abandon c.in-Abandon.session)) (λ made known. known c.args.who) c.abandoning_one.ensures)

pub returns-in-Sweep : goal.returns-in-Sweep
returns-in-Sweep c =
    let st = state_of c.args.self.now.parts in
    let draw = c.args.draw.now in
    subst (GivesEffect st c.args.who c.args.moment draw c.sweeping.result) (sym c.in-Sweep.is)
    (IfOk-weaker c.sweeping.result (λ made. (by : Who) → made ≡ sweeping st (occasion_at st by c.args.moment draw) c.in-Sweep.idle)
    (λ made. made ≡ effect_by st c.args.who c.args.moment draw (write.Sweep c.in-Sweep.idle)) (λ made known. known c.args.who) c.sweeping.ensures)
