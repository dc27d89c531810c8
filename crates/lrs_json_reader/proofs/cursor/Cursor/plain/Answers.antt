use Rattle.std.proofs.Common.{drop, ap, ◌∙◌}
use Rattle.lrs_json_reader.proofs.Parts.{err_finds}
use Rattle.lrs_json_reader.proofs.Texts.{plain_done, plain_all, plain_shorter, plain_next}
use Rattle.lrs_json_reader.proofs.cursor.Cursor.plain.Goals as goal

pub returns-in_err-text-clause-all : goal.returns-in_err-text-clause-all
returns-in_err-text-clause-all c = λ text rest w.
    let a = plain_all c.args.n c.args.self.now text rest c.requires w in
    err_finds _ _ c.from_residual.ensures.1 (λ y is. is ∙ c.in_err-text.ensures.all a.2)

pub advance-requires : goal.advance-requires
advance-requires c = plain_next c.args.n c.args.self.now _ c.requires c.in_ok-text.ensures.found.1

pub returns-clause-found : goal.returns-clause-found
returns-clause-found c =
    let f = c.in_ok-text.ensures.found in
    plain_done c.args.n c.args.self.now _ _ _ c.requires f.0 f.1 c.advance.ensures f.2

pub returns-clause-all : goal.returns-clause-all
returns-clause-all c = λ text rest w.
    let f = c.in_ok-text.ensures.found in
    let a = plain_all c.args.n c.args.self.now text rest c.requires w in
    (f.0 ∙ a.0, c.advance.ensures ∙ ap (drop 1) f.1 ∙ a.1)

pub returns-clause-shorter : goal.returns-clause-shorter
returns-clause-shorter c = plain_shorter c.args.n c.args.self.now _ _ c.in_ok-text.ensures.found.1 c.advance.ensures
