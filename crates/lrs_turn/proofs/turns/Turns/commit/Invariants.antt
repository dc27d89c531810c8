use Rattle.lrs_turn.proofs.turns.Turns.commit.Given as goal

abbrev pub ghosts-commit_as : goal.ghosts-commit_as
ghosts-commit_as g a = record { list = g.S.Journaled.line a._state.now }
