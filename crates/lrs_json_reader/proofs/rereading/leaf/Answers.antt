use Rattle.std.proofs.Common.{◌≡◌, ◌≢◌, ◌∷◌, ◌++◌, ap, ◌∙◌, codes, arith, true, false}
use Rattle.lrs_json.specs.declared.tree.Tree.{Null, Bool as Boolean, Words}
use Rattle.lrs_json.proofs.Views.{view-Null, view-Bool, view-Words}
use Rattle.lrs_json_reader.specs.Located.{null, boolean, string}
use Rattle.lrs_json_reader.specs.Grammar.{Quoted}
use Rattle.lrs_json_reader.proofs.Values.{starts}
use Rattle.lrs_json_reader.proofs.FirstBytes.{starts_at, only_null, only_true, only_false, only_string}
use Rattle.lrs_json_reader.proofs.Rereads.{kind_again, numeral_again}
use Rattle.lrs_json_reader.proofs.rereading.leaf.Goals as goal

pub returns-in_default-clause-again : goal.returns-in_default-clause-again
returns-in_default-clause-again c = λ x rest v ends. let s = starts x c.args.cursor.now rest v in cc (s.2, c.in_default.ensures)

pub returns-in-34-clause-again : goal.returns-in-34-clause-again
returns-in-34-clause-again c =
    let more = c.in-Some.ensures.0 in
    let here = c.in-Some.ensures.1 ∙ ap (λ b. b ∷ more) c.in-34.is in
    kind_again string Words Quoted _ _ _ (λ x rest v. only_string x (starts_at x _ more rest 34 here v)) (λ s rest v. v) view-Words c.string.ensures.again

pub returns-in-110-clause-again : goal.returns-in-110-clause-again
returns-in-110-clause-again c =
    let more = c.in-Some.ensures.0 in
    let here = c.in-Some.ensures.1 ∙ ap (λ b. b ∷ more) c.in-110.is in
    kind_again (λ _. null) (λ _. Null) (λ _ bytes rest. bytes ≡ codes "null" ++ rest) _ _ _ (λ x rest v. (tt, only_null x (starts_at x _ more rest 110 here v))) (λ _ rest v. v) (λ _. view-Null) c.literal.ensures.again

pub returns-in-116-clause-again : goal.returns-in-116-clause-again
returns-in-116-clause-again c =
    let more = c.in-Some.ensures.0 in
    let here = c.in-Some.ensures.1 ∙ ap (λ b. b ∷ more) c.in-116.is in
    kind_again (λ _. boolean true) (λ _. Boolean true) (λ _ bytes rest. bytes ≡ codes "true" ++ rest) _ _ _ (λ x rest v. (tt, only_true x (starts_at x _ more rest 116 here v))) (λ _ rest v. v) (λ _. view-Bool true) c.literal-in-116.ensures.again

pub returns-in-102-clause-again : goal.returns-in-102-clause-again
returns-in-102-clause-again c =
    let more = c.in-Some.ensures.0 in
    let here = c.in-Some.ensures.1 ∙ ap (λ b. b ∷ more) c.in-102.is in
    kind_again (λ _. boolean false) (λ _. Boolean false) (λ _ bytes rest. bytes ≡ codes "false" ++ rest) _ _ _ (λ x rest v. (tt, only_false x (starts_at x _ more rest 102 here v))) (λ _ rest v. v) (λ _. view-Bool false)
    c.literal-in-102.ensures.again

pub returns-in_default-first-clause-again : goal.returns-in_default-first-clause-again
returns-in_default-first-clause-again c =
    let b = c.in-Some.first in
    let more = c.in-Some.ensures.0 in
    let here = c.in-Some.ensures.1 in
    let no_list : b ≢ 91 = λ e. c.requires.no_list more (here ∙ ap (λ z. z ∷ more) e) in
    let no_object : b ≢ 123 = λ e. c.requires.no_object more (here ∙ ap (λ z. z ∷ more) e) in
    numeral_again b more _ _ _ here (λ e. omega arith) (λ e. omega arith) (λ e. omega arith) (λ e. omega arith) no_list no_object c.number.ensures.again
