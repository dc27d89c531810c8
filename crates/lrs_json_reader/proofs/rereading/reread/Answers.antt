use Rattle.std.proofs.Common.{◌≡◌, sym, ◌∙◌}
use Rattle.lrs_json_reader.specs.declared.cursor.Stop.TheVariants as stop
use Rattle.lrs_json_reader.proofs.Rereads.{whole_again, whole_fault}
use Rattle.lrs_json_reader.proofs.rereading.reread.Goals as goal

pub returns-in-Ok : goal.returns-in-Ok
returns-in-Ok c = λ t ok w. whole_again c.args.text.now c.new-cursor.result _ c.in-Ok.tree t c.new-cursor.ensures c.in-Ok.ensures.again ok w

pub returns-in-Err-Bad : goal.returns-in-Err-Bad
returns-in-Err-Bad c = λ t ok w.
    let bad : stop.Bad ≡ stop.Memory → ⊥ = λ e. cc e in
    absurd (bad (sym c.in-Err-Bad.field-0-is ∙ whole_fault c.args.text.now c.new-cursor.result _ t c.new-cursor.ensures c.in-Err-Bad.ensures.again ok w))
