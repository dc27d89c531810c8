use Rattle.xapi_index.proofs.index.Index.referring.Goals as goal

pub returns : goal.returns
returns c = c.posting-positions.ensures
