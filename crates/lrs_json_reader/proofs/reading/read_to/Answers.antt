use Rattle.std.proofs.Common.{◌≡◌, Err, sym, ◌∙◌}
use Rattle.lrs_json_reader.specs.declared.cursor.Stop.TheVariants as stop
use Rattle.lrs_json_reader.specs.declared.reading.ReadRefused.TheVariants as Refused
use Rattle.lrs_json_reader.proofs.Judgement.{too_deep, no_text, text_read, given_readable, given_again}
use Rattle.lrs_json_reader.proofs.reading.read_to.Goals as goal

pub returns-then-is_too_deep : goal.returns-then-is_too_deep
returns-then-is_too_deep c =
    let bytes = c.args.bytes.now in
    let a = too_deep c.args.depth bytes (sym c.is_too_deep.ensures ∙ c.if-is_too_deep.true) in
    record { too_deep = a.too_deep; bad = a.bad; repeated = a.repeated; number_range = a.number_range; found = a.found; all = a.all; readable = tt; again = given_again c.args.depth bytes (Err Refused.TooDeep) a.all }

pub returns-in-Ok : goal.returns-in-Ok
returns-in-Ok c =
    let bytes = c.args.bytes.now in
    let shallow = sym c.is_too_deep.ensures ∙ c.if-is_too_deep.false in
    let a = text_read c.args.depth bytes c.in-Ok.tree c.in-Ok.flaws c.judge.result shallow c.in-Ok.ensures c.judge.ensures in
    record {
      too_deep = a.too_deep;
      bad = a.bad;
      repeated = a.repeated;
      number_range = a.number_range;
      found = a.found;
      all = a.all;
      readable = given_readable c.args.depth bytes c.judge.result a.found;
      again = given_again c.args.depth bytes c.judge.result a.all;
    }

pub returns-in-Err-Bad : goal.returns-in-Err-Bad
returns-in-Err-Bad c =
    let bytes = c.args.bytes.now in
    let shallow = sym c.is_too_deep.ensures ∙ c.if-is_too_deep.false in
    let bad : stop.Bad ≡ stop.Memory → ⊥ = λ e. cc e in
    let a = no_text c.args.depth bytes shallow (λ p t. bad (sym c.in-Err-Bad.field-0-is ∙ c.in-Err-Bad.ensures p t)) in
    record { too_deep = a.too_deep; bad = a.bad; repeated = a.repeated; number_range = a.number_range; found = a.found; all = a.all; readable = tt; again = given_again c.args.depth bytes (Err Refused.Bad) a.all }
