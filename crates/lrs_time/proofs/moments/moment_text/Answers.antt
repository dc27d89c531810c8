use Rattle.std.proofs.Common.{pos, ℕ, ◌*◌, subst}
use Rattle.lrs_time.specs.Timestamp.{IsMomentText}
use Rattle.lrs_time.proofs.MomentLemmas.{moment_is, moment_instant}
use Rattle.lrs_time.proofs.Ascii.{IsUtf8-moment}
use Rattle.lrs_time.proofs.MomentTexts.{is_moment_text}
use Rattle.lrs_time.proofs.TimestampLemmas.{read_back}
use Rattle.lrs_time.proofs.moments.moment_text.Goals as goal

text_of : (c : goal.After-utc_text) → IsMomentText c.args.moment c.utc_text.result
text_of c =
    subst (λ (m : ℕ). IsMomentText m c.utc_text.result) c.milliseconds-milliseconds.ensures.value (moment_is c.milliseconds-milliseconds.result c.date_of-date.result c.from_second-time.result c.utc_text.result c.date_of-date.ensures.day c.date_of-date.ensures.year c.from_second-time.ensures.seconds c.utc_text.ensures)

pub returns-clause-text : goal.returns-clause-text
returns-clause-text c = text_of c

pub returns-clause-instant : goal.returns-clause-instant
returns-clause-instant c = moment_instant c.args.moment c.utc_text.result (text_of c)

pub returns-clause-reads_back : goal.returns-clause-reads_back
returns-clause-reads_back c =
    read_back c.utc_text.result (pos (c.args.moment * 1_000_000)) (moment_instant c.args.moment c.utc_text.result (text_of c))

pub returns-clause-utf8 : goal.returns-clause-utf8
returns-clause-utf8 c = IsUtf8-moment c.args.moment c.utc_text.result (text_of c)

pub returns-clause-exact : goal.returns-clause-exact
returns-clause-exact c = is_moment_text c.args.moment c.utc_text.result (text_of c)
