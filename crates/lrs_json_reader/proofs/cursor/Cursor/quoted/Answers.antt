use Rattle.lrs_json_reader.proofs.Texts.{quoted_within}
use Rattle.lrs_json_reader.proofs.cursor.Cursor.quoted.Goals as goal

pub returns-in-Some-clause-all : goal.returns-in-Some-clause-all
returns-in-Some-clause-all c = λ text rest q. c.plain.ensures.all text rest (quoted_within text c.args.self.now _ rest c.in_ok-word.ensures.found q)

pub returns-in-None-clause-all : goal.returns-in-None-clause-all
returns-in-None-clause-all c = λ text rest q. c.pieces.ensures.all text rest (quoted_within text c.args.self.now _ rest c.in_ok-word.ensures.found q)
