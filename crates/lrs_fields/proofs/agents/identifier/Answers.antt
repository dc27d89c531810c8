use Rattle.std.proofs.Common.{Ok, Err, sym, ◌∙◌}
use Rattle.lrs_decimal.specs.Numbers.{Ends}
use Rattle.lrs_json.specs.Written.{quoted}
use Rattle.std.proofs.Common.{IsUtf8}
use Rattle.lrs_fields.proofs.AgentReading.{IsAccount, account_text, at_account, at_mbox, at_openid, at_sha1, is_account, is_mbox, is_openid, is_sha1}
use Rattle.lrs_fields.proofs.FieldValues.{text_read}
use Rattle.lrs_fields.proofs.Sequences.{after_take, after_word, failed, moved, no_word}
use Rattle.lrs_fields.proofs.agents.identifier.Goals as goal

pub returns-in_err-home : goal.returns-in_err-home
returns-in_err-home c =
    failed _ c.from_residual.ensures.1 (is_account _ _ _ (Err _) c.if-take.ensures (after_take at_account account_text IsAccount Ends _ _ _ (Err _) c.if-take.ensures c.in_err-home.ensures))

pub returns-then-take : goal.returns-then-take
returns-then-take c = is_account _ _ _ (Ok _) c.if-take.ensures (after_take at_account account_text IsAccount Ends _ _ _ (Ok _) c.if-take.ensures c.in_ok-home.ensures)

pub returns-in_err-read_text : goal.returns-in_err-read_text
returns-in_err-read_text c =
    let took = sym c.if-take.ensures.0 ∙ c.if-take-2.ensures in
    failed _ c.from_residual-in_err-read_text.ensures.1
    (is_mbox _ _ _ (Err _) took (after_take at_mbox quoted IsUtf8 Ends _ _ _ (Err _) took (text_read _ _ (Err _) c.in_err-read_text.ensures.found c.in_err-read_text.ensures.all)))

pub returns-then-take-2 : goal.returns-then-take-2
returns-then-take-2 c =
    let took = sym c.if-take.ensures.0 ∙ c.if-take-2.ensures in
    is_mbox _ _ _ (Ok _) took (after_take at_mbox quoted IsUtf8 Ends _ _ _ (Ok _) took (text_read _ _ (Ok _) c.in_ok-read_text.ensures.found c.in_ok-read_text.ensures.all))

pub returns-in_err-read_text-2 : goal.returns-in_err-read_text-2
returns-in_err-read_text-2 c =
    let took = sym c.if-take.ensures.0 ∙ sym c.if-take-2.ensures.0 ∙ c.if-take-3.ensures in
    failed _ c.from_residual-in_err-read_text-2.ensures.1
    (is_sha1 _ _ _ (Err _) took (after_take at_sha1 quoted IsUtf8 Ends _ _ _ (Err _) took (text_read _ _ (Err _) c.in_err-read_text-2.ensures.found c.in_err-read_text-2.ensures.all)))

pub returns-then-take-3 : goal.returns-then-take-3
returns-then-take-3 c =
    let took = sym c.if-take.ensures.0 ∙ sym c.if-take-2.ensures.0 ∙ c.if-take-3.ensures in
    is_sha1 _ _ _ (Ok _) took (after_take at_sha1 quoted IsUtf8 Ends _ _ _ (Ok _) took (text_read _ _ (Ok _) c.in_ok-read_text-2.ensures.found c.in_ok-read_text-2.ensures.all))

pub returns-in_err-word : goal.returns-in_err-word
returns-in_err-word c =
    let first = c.if-take.ensures.0 in
    let second = c.if-take-2.ensures.0 ∙ first in
    let third = c.if-take-3.ensures.0 ∙ second in
    failed _ c.from_residual-in_err-word.ensures.1
    (is_openid _ _ (Err _) c.if-take.ensures.1 (λ rest w. c.if-take-2.ensures.1 rest (first ∙ w)) (λ rest w. c.if-take-3.ensures.1 rest (second ∙ w))
    (moved _ _ _ _ _ _ _ third (no_word at_openid quoted IsUtf8 Ends _ _ _ c.in_err-word.ensures.all)))

pub returns-in_err-read_text-3 : goal.returns-in_err-read_text-3
returns-in_err-read_text-3 c =
    let first = c.if-take.ensures.0 in
    let second = c.if-take-2.ensures.0 ∙ first in
    let third = c.if-take-3.ensures.0 ∙ second in
    failed _ c.from_residual-in_err-read_text-3.ensures.1
    (is_openid _ _ (Err _) c.if-take.ensures.1 (λ rest w. c.if-take-2.ensures.1 rest (first ∙ w)) (λ rest w. c.if-take-3.ensures.1 rest (second ∙ w))
    (moved _ _ _ _ _ _ _ third
    (after_word at_openid quoted IsUtf8 Ends _ _ _ (Err _) c.in_ok-word.ensures.found c.in_ok-word.ensures.all
    (text_read _ _ (Err _) c.in_err-read_text-3.ensures.found c.in_err-read_text-3.ensures.all))))

pub returns : goal.returns
returns c =
    let first = c.if-take.ensures.0 in
    let second = c.if-take-2.ensures.0 ∙ first in
    let third = c.if-take-3.ensures.0 ∙ second in
    is_openid _ _ (Ok _) c.if-take.ensures.1 (λ rest w. c.if-take-2.ensures.1 rest (first ∙ w)) (λ rest w. c.if-take-3.ensures.1 rest (second ∙ w))
    (moved _ _ _ _ _ _ _ third
    (after_word at_openid quoted IsUtf8 Ends _ _ _ (Ok _) c.in_ok-word.ensures.found c.in_ok-word.ensures.all
    (text_read _ _ (Ok _) c.in_ok-read_text-3.ensures.found c.in_ok-read_text-3.ensures.all)))
