use Rattle.std.proofs.Common.{◌≤◌, ◌∙◌, sym, length, arith}
use Rattle.lrs_http.specs.declared.heads.Prospect.TheVariants as prospect
use Rattle.lrs_http.proofs.FrontLemmas.{seen, head_at, crowded, hopeless}
use Rattle.lrs_http.proofs.heads.look.Goals as goal
use Rattle.lrs_http.specs.declared.heads.TheConstants.{MOST_FIELDS}

pub returns-in-Whole-clause-head : goal.returns-in-Whole-clause-head
returns-in-Whole-clause-head c =
    let known = seen c.args.bytes.now c.window_of.result.now c.examine.new.fields c.in_ok-spans.field-0 (prospect.Whole c.in-Whole.spans) c.window_of.ensures.value c.in-Whole.is c.in_ok-spans.ensures in
    let room : length c.examine.new.fields ≤ MOST_FIELDS = omega (arith, c.examine.array_long) in
    head_at c.args.bytes.now c.examine.new.fields c.in-Whole.spans known.1.0 room known.0 known.1.1

pub returns-in-Crowded-clause-refused : goal.returns-in-Crowded-clause-refused
returns-in-Crowded-clause-refused c more =
    let known = seen c.args.bytes.now c.window_of.result.now c.examine.new.fields c.in_ok-spans.field-0 prospect.Crowded c.window_of.ensures.value c.in-Crowded.is c.in_ok-spans.ensures in
    crowded c.args.bytes.now more known.0 known.1 known.2 known.3

pub returns-in-Never-clause-refused : goal.returns-in-Never-clause-refused
returns-in-Never-clause-refused c more =
    let known = seen c.args.bytes.now c.window_of.result.now c.examine.new.fields c.in_ok-spans.field-0 prospect.Never c.window_of.ensures.value c.in-Never.is c.in_ok-spans.ensures in
    hopeless c.args.bytes.now more known (sym c.is_blank.ensures ∙ c.if-not-is_blank.true)
