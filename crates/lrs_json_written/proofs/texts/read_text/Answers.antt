use Rattle.std.proofs.Common.{◌≡◌, ◌++◌, IsUtf8, sym, ◌∙◌, subst}
use Rattle.lrs_json.specs.Written.{quoted}
use Rattle.lrs_json_reader.proofs.Escapes.{same_quoted}
use Rattle.lrs_json_written.proofs.texts.read_text.Goals as goal

pub returns-in_default-clause-all : goal.returns-in_default-clause-all
returns-in_default-clause-all c = λ t rest u e.
    let bytes : c.args.cursor.now ≡ quoted c.in-Some.text.now ++ c.in-Some.left.now = cc c.in-Some.ensures in
    let same = same_quoted c.in-Some.text.now t c.in-Some.left.now rest (sym bytes ∙ e) in
    absurd (c.in_default.ensures.cases.0 (subst IsUtf8 (sym same.0) u))

pub returns-in_ok-text-in-Some-clause-all : goal.returns-in_ok-text-in-Some-clause-all
returns-in_ok-text-in-Some-clause-all c = λ t rest u e.
    let bytes : c.args.cursor.now ≡ quoted c.in-Some.text.now ++ c.in-Some.left.now = cc c.in-Some.ensures in
    let same = same_quoted c.in-Some.text.now t c.in-Some.left.now rest (sym bytes ∙ e) in
    (c.in_ok-text-in-Some.ensures.copied ∙ c.in-Ok.ensures.cases.0 ∙ same.0, c.new.ensures ∙ same.1)
