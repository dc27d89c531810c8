use Rattle.std.proofs.Common.{◌≡◌, None, arith, drop, length, refl, rules, ap, ◌∙◌}
use Rattle.lrs_fields.specs.Digits.{word_of}
use Rattle.lrs_fields.proofs.Words.{draw_made, draw_missing}
use Rattle.lrs_fields.proofs.digits.decoded.Goals as goal

pub returns-then-digits-ne64 : goal.returns-then-digits-ne64
returns-then-digits-ne64 c = draw_missing c.args.digits.now c.if-digits-ne64.true

pub returns-in_err-word_of : goal.returns-in_err-word_of
returns-in_err-word_of c =
    let long : length c.args.digits.now ≡ 64 = omega arith in
    let none : c.from_residual.result ≡ None = search rules in
    none ∙ draw_made c.args.digits.now None (word_of (drop 32 c.args.digits.now)) long (c.in_err-word_of.ensures ∙ ap word_of c.split_at.ensures.front) refl

pub returns-in_err-word_of-2 : goal.returns-in_err-word_of-2
returns-in_err-word_of-2 c =
    let long : length c.args.digits.now ≡ 64 = omega arith in
    let none : c.from_residual-in_err-word_of-2.result ≡ None = search rules in
    none ∙ draw_made c.args.digits.now _ None long (c.in_ok-word_of.ensures ∙ ap word_of c.split_at.ensures.front) (c.in_err-word_of-2.ensures ∙ ap word_of c.split_at.ensures.back)

pub returns : goal.returns
returns c =
    let long : length c.args.digits.now ≡ 64 = omega arith in
    let made = draw_made c.args.digits.now _ _ long (c.in_ok-word_of.ensures ∙ ap word_of c.split_at.ensures.front) (c.in_ok-word_of-2.ensures ∙ ap word_of c.split_at.ensures.back) in made
