use Rattle.xapi_index.proofs.index.Index.position_of.Goals as goal

pub returns : goal.returns
returns c = c.first_with-first.ensures
