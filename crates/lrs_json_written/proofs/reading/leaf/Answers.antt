use Rattle.std.proofs.Common.{◌≢◌, ◌∷◌, ap, ◌∙◌, arith}
use Rattle.lrs_json_written.proofs.Readings.{begins, false_reads, nothing_reads, null_reads, number_reads, text_reads, true_reads}
use Rattle.lrs_json_written.proofs.reading.leaf.Goals as goal

pub returns-in_default : goal.returns-in_default
returns-in_default c = λ depth. nothing_reads depth _ _ _ (λ j rest ok e. let s = begins depth c.args.cursor.now j rest ok e in cc (s.2, c.in_default.ensures))

pub returns-in-34 : goal.returns-in-34
returns-in-34 c = λ depth.
    let more = c.in-Some.ensures.0 in text_reads depth _ more _ _ (c.in-Some.ensures.1 ∙ ap (λ b. b ∷ more) c.in-34.is) c.string.ensures

pub returns-in-110 : goal.returns-in-110
returns-in-110 c = λ depth.
    let more = c.in-Some.ensures.0 in null_reads depth _ more _ _ (c.in-Some.ensures.1 ∙ ap (λ b. b ∷ more) c.in-110.is) c.literal.ensures

pub returns-in-116 : goal.returns-in-116
returns-in-116 c = λ depth.
    let more = c.in-Some.ensures.0 in true_reads depth _ more _ _ (c.in-Some.ensures.1 ∙ ap (λ b. b ∷ more) c.in-116.is) c.literal-in-116.ensures

pub returns-in-102 : goal.returns-in-102
returns-in-102 c = λ depth.
    let more = c.in-Some.ensures.0 in false_reads depth _ more _ _ (c.in-Some.ensures.1 ∙ ap (λ b. b ∷ more) c.in-102.is) c.literal-in-102.ensures

pub returns-in_default-first : goal.returns-in_default-first
returns-in_default-first c = λ depth.
    let b = c.in-Some.first in
    let more = c.in-Some.ensures.0 in
    let here = c.in-Some.ensures.1 in
    let no_list : b ≢ 91 = λ e. c.requires.no_list more (here ∙ ap (λ z. z ∷ more) e) in
    let no_object : b ≢ 123 = λ e. c.requires.no_object more (here ∙ ap (λ z. z ∷ more) e) in
    number_reads depth b _ more _ _ here (λ e. omega arith) (λ e. omega arith) (λ e. omega arith) (λ e. omega arith) no_list no_object c.number.ensures
