use Rattle.std.proofs.Common.{◌≤◌, sym, subst, length, arith, true, false}
use Rattle.lrs_http.specs.declared.heads.Prospect.TheVariants as prospect
use Rattle.lrs_http.specs.declared.request.RequestRefused.{RequestRefused}
use Rattle.lrs_http.specs.Prospect.{IsJudged}
use Rattle.lrs_http.specs.Stream.{window}
use Rattle.lrs_http.proofs.FrontLemmas.{seen, head_at, crowded, judged, now}
use Rattle.lrs_http.proofs.heads.judge.Goals as goal
use Rattle.lrs_http.specs.declared.heads.TheConstants.{MOST_FIELDS}

pub returns-in-Whole-clause-head : goal.returns-in-Whole-clause-head
returns-in-Whole-clause-head c =
    let known = seen c.args.bytes.now c.window_of.result.now c.examine.new.fields c.in_ok-spans.field-0 (prospect.Whole c.in-Whole.spans) c.window_of.ensures.value c.in-Whole.is c.in_ok-spans.ensures in
    let room : length c.examine.new.fields ≤ MOST_FIELDS = omega (arith, c.examine.array_long) in
    head_at c.args.bytes.now c.examine.new.fields c.in-Whole.spans known.1.0 room known.0 known.1.1

pub returns-in-Crowded-clause-refused : goal.returns-in-Crowded-clause-refused
returns-in-Crowded-clause-refused c more ends =
    let known = seen c.args.bytes.now c.window_of.result.now c.examine.new.fields c.in_ok-spans.field-0 prospect.Crowded c.window_of.ensures.value c.in-Crowded.is c.in_ok-spans.ensures in
    crowded c.args.bytes.now more known.0 known.1 known.2 known.3

pub returns-in-Open-clause-refused : goal.returns-in-Open-clause-refused
returns-in-Open-clause-refused c =
    let known = seen c.args.bytes.now c.window_of.result.now c.examine.new.fields c.in_ok-spans.field-0 prospect.Open c.window_of.ensures.value c.in-Open.is c.in_ok-spans.ensures in
    subst (λ (r : RequestRefused). IsJudged c.args.bytes.now r) (sym c.refusal_of.ensures) (judged c.args.bytes.now true known.0 known.1)

pub returns-in-Doubtful-clause-refused : goal.returns-in-Doubtful-clause-refused
returns-in-Doubtful-clause-refused c =
    let known = seen c.args.bytes.now c.window_of.result.now c.examine.new.fields c.in_ok-spans.field-0 prospect.Doubtful c.window_of.ensures.value c.in-Doubtful.is c.in_ok-spans.ensures in
    subst (λ (r : RequestRefused). IsJudged c.args.bytes.now r) (sym c.refusal_of-in-Doubtful.ensures) (judged c.args.bytes.now false known.0 known.1)

pub returns-in-Never-clause-refused : goal.returns-in-Never-clause-refused
returns-in-Never-clause-refused c =
    let known = seen c.args.bytes.now c.window_of.result.now c.examine.new.fields c.in_ok-spans.field-0 prospect.Never c.window_of.ensures.value c.in-Never.is c.in_ok-spans.ensures in
    let here = now (window c.args.bytes.now) known in
    subst (λ (r : RequestRefused). IsJudged c.args.bytes.now r) (sym c.refusal_of-in-Never.ensures) (judged c.args.bytes.now false here.0 here.1)
