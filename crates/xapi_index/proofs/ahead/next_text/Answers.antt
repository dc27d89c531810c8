use Rattle.std.proofs.Common.{sym}
use Rattle.std.specs.Vec.Iter.{into_iter_items, into_iter_len}
use Rattle.xapi_index.proofs.Texts.{text_taken, texts_left}
use Rattle.xapi_index.proofs.ahead.next_text.Goals as goal

pub returns-clause-text : goal.returns-clause-text
returns-clause-text c = text_taken (into_iter_items c.args.texts.now) (into_iter_items c.next.new.self) c.next.result c.args.statement.now c.next.ensures.items c.requires

pub returns-clause-rest : goal.returns-clause-rest
returns-clause-rest c =
    let it = c.args.texts.now in
    let left = c.next.new.self in
    texts_left (into_iter_items it) (into_iter_items left) c.next.result (into_iter_len it) (into_iter_len left) (sym it.rest.ok.0) c.next.ensures.items c.next.ensures.cases
