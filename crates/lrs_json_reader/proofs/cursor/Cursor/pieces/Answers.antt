use Rattle.std.proofs.Common.{◌≡◌, IsUtf8, subst, ◌∙◌, sym}
use Rattle.lrs_json_reader.specs.Steps.{Within}
use Rattle.lrs_json_reader.proofs.Parts.{err_finds}
use Rattle.lrs_json_reader.proofs.Texts.{text_next, text_done, text_all, piece_wanted}
use Rattle.lrs_json_reader.proofs.cursor.Cursor.pieces.Goals as goal

pub loop-self-preserved : goal.loop-self-preserved
loop-self-preserved c =
    let f = c.in_ok-piece.ensures.found in
    text_next _ _ _ c.loop-self.self c.take.new.self _ f.0 c.loop-self.invariant c.loop-self-test.ensures f.1 f.2 c.in_ok-piece.ensures.shorter

pub returns-in_err-piece-clause-all : goal.returns-in_err-piece-clause-all
returns-in_err-piece-clause-all c = λ text rest q.
    let w = piece_wanted _ _ _ text rest c.take.new.self c.loop-self.invariant c.loop-self-test.ensures q in
    err_finds _ _ c.from_residual.ensures.1 (λ y is. is ∙ c.in_err-piece.ensures.all w.0 w.1 w.2)

pub returns-in_default-clause-all : goal.returns-in_default-clause-all
returns-in_default-clause-all c = λ text rest q.
    let e = text_all _ _ _ _ text rest c.loop-self.invariant c.loop-self-test.ensures q in
    absurd (c.in_default.ensures.cases.0 (subst IsUtf8 (sym c.deref.ensures.value) e.2))

pub returns-clause-found : goal.returns-clause-found
returns-clause-found c =
    let u : IsUtf8 c.loop-self.bytes.items = subst IsUtf8 c.deref.ensures.value c.in-Ok.ensures.cases.1 in
    let te : c.in_ok-of.field-0 ≡ c.loop-self.bytes.items = c.in_ok-of.ensures.copied ∙ c.in-Ok.ensures.cases.0 ∙ c.deref.ensures.value in
    let q = text_done c.loop-self.bytes.items _ _ _ c.loop-self.invariant c.loop-self-test.ensures u in
    subst (λ z. Within z c.args.self.now c.take.new.self) (sym te) q

pub returns-clause-all : goal.returns-clause-all
returns-clause-all c = λ text rest q.
    let te : c.in_ok-of.field-0 ≡ c.loop-self.bytes.items = c.in_ok-of.ensures.copied ∙ c.in-Ok.ensures.cases.0 ∙ c.deref.ensures.value in
    let e = text_all _ _ _ _ text rest c.loop-self.invariant c.loop-self-test.ensures q in
    (te ∙ e.0, e.1)
