use Rattle.std.proofs.Common.{◌≡◌, sym, ◌∙◌}
use Rattle.std.proofs.lemmas.Bool.{false≢true}
use Rattle.lrs_json_reader.specs.declared.cursor.Stop.TheVariants as stop
use Rattle.lrs_record.proofs.EntryReading.{whole_again, whole_fault, whole_found}
use Rattle.lrs_record.proofs.reading.read_lawful.Goals as goal

pub returns-then-is_empty-clause-found : goal.returns-then-is_empty-clause-found
returns-then-is_empty-clause-found c = whole_found c.args.bytes.now c.new-cursor.result _ c.in-Ok.entry c.new-cursor.ensures c.in-Ok.ensures (c.is_empty.ensures.0 c.if-is_empty.true)

pub returns-then-is_empty-clause-again : goal.returns-then-is_empty-clause-again
returns-then-is_empty-clause-again c = λ entry lawful is. (whole_again c.args.bytes.now c.new-cursor.result _ c.in-Ok.entry entry c.new-cursor.ensures c.in-Ok.ensures lawful is).0

pub returns-else-is_empty-clause-again : goal.returns-else-is_empty-clause-again
returns-else-is_empty-clause-again c = λ entry lawful is.
    absurd (false≢true (sym c.if-is_empty.false ∙ c.is_empty.ensures.1 (whole_again c.args.bytes.now c.new-cursor.result _ c.in-Ok.entry entry c.new-cursor.ensures c.in-Ok.ensures lawful is).1))

pub returns-in-Err-Bad-clause-again : goal.returns-in-Err-Bad-clause-again
returns-in-Err-Bad-clause-again c = λ entry lawful is.
    let bad : stop.Bad ≡ stop.Memory → ⊥ = λ e. cc e in
    absurd (bad (sym c.in-Err-Bad.field-0-is ∙ whole_fault c.args.bytes.now c.new-cursor.result _ _ entry c.new-cursor.ensures c.in-Err-Bad.ensures lawful is))
