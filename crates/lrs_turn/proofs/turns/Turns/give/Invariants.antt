use Rattle.lrs_turn.proofs.turns.Turns.give.Given as goal

abbrev pub ghosts-give_as : goal.ghosts-give_as
ghosts-give_as g a = record { tide = g.S.Journaled.tide a.state }
