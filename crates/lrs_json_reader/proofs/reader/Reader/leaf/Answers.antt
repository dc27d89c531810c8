use Rattle.std.proofs.Common.{◌∷◌, ◌≢◌, refl, ap, ◌∙◌, codes, arith, true, false}
use Rattle.lrs_json_reader.specs.Located.{null, boolean}
use Rattle.lrs_json.proofs.Views.{view-Null, view-Bool}
use Rattle.lrs_json_reader.proofs.Values.{starts}
use Rattle.lrs_json_reader.proofs.FirstBytes.{starts_at, only_null, only_true, only_false}
use Rattle.lrs_json_reader.proofs.Readings.{word_value, string_value, number_value}
use Rattle.lrs_json_reader.proofs.reader.Reader.leaf.Goals as goal

pub returns-in_default : goal.returns-in_default
returns-in_default c = λ x rest v ends. let s = starts x c.args.self.now.cursor rest v in cc (s.2, c.in_default.ensures)

pub returns-in-110 : goal.returns-in-110
returns-in-110 c =
    let more = c.in-Some.ensures.0 in
    let here = c.in-Some.ensures.1 ∙ ap (λ b. b ∷ more) c.in-110.is in
    word_value null (codes "null") _ 110 more _ _ _ here (λ rest e. e) (λ rest v. v) (λ x rest v. only_null x (starts_at x _ more rest 110 here v)) view-Null refl c.literal.ensures

pub returns-in-116 : goal.returns-in-116
returns-in-116 c =
    let more = c.in-Some.ensures.0 in
    let here = c.in-Some.ensures.1 ∙ ap (λ b. b ∷ more) c.in-116.is in
    word_value (boolean true) (codes "true") _ 116 more _ _ _ here (λ rest e. e) (λ rest v. v) (λ x rest v. only_true x (starts_at x _ more rest 116 here v)) (view-Bool true) refl c.literal-in-116.ensures

pub returns-in-102 : goal.returns-in-102
returns-in-102 c =
    let more = c.in-Some.ensures.0 in
    let here = c.in-Some.ensures.1 ∙ ap (λ b. b ∷ more) c.in-102.is in
    word_value (boolean false) (codes "false") _ 102 more _ _ _ here (λ rest e. e) (λ rest v. v) (λ x rest v. only_false x (starts_at x _ more rest 102 here v)) (view-Bool false) refl c.literal-in-102.ensures

pub returns-in-34 : goal.returns-in-34
returns-in-34 c =
    let more = c.in-Some.ensures.0 in
    string_value more _ _ _ (c.in-Some.ensures.1 ∙ ap (λ b. b ∷ more) c.in-34.is) c.string.ensures

pub returns-in_default-first : goal.returns-in_default-first
returns-in_default-first c =
    let b = c.in-Some.first in
    let more = c.in-Some.ensures.0 in
    let here = c.in-Some.ensures.1 in
    let no_list : b ≢ 91 = λ e. c.requires.no_list more (here ∙ ap (λ z. z ∷ more) e) in
    let no_object : b ≢ 123 = λ e. c.requires.no_object more (here ∙ ap (λ z. z ∷ more) e) in
    number_value b more _ _ _ here (λ e. omega arith) (λ e. omega arith) (λ e. omega arith) (λ e. omega arith) no_list no_object c.number.ensures
