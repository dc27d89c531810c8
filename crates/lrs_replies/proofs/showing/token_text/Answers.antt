use Rattle.std.proofs.Common.{◌≡◌, ◌∙◌, ap, sym, subst, ◌++◌, ◌∷◌, [], append_assoc}
use Rattle.std.specs.Fmt.{decimal}
use Rattle.lrs_record.specs.Entries.{word_text}
use Rattle.std.specs.Prelude.{IfOk}
use Rattle.lrs_replies.specs.Texts.{token_text}
use Rattle.lrs_replies.proofs.Ids.{IsUtf8-word_text}
use Rattle.lrs_replies.proofs.showing.token_text.Goals as goal

pub utf8_text-digits-requires : goal.utf8_text-digits-requires
utf8_text-digits-requires c = rw c.digits_of-digits.ensures (IsUtf8-word_text _)

pub returns : goal.returns
returns c =
    let text : c.as_str.result.now ≡ token_text c.args.index c.args.secret =
    c.as_str.ensures.value ∙ (c.in_ok-text.ensures.ok ∙ (ap (λ xs. xs ++ 45 ∷ decimal c.args.index) (c.utf8_text-digits.ensures ∙ c.digits_of-digits.ensures)
    ∙ sym (append_assoc (word_text c.args.secret) (45 ∷ []) (decimal c.args.index)))) in
    subst (λ x. IfOk c.of.result (λ t. t ≡ x)) text c.of.ensures.copied
