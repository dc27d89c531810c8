use Rattle.lrs_turn.proofs.turns.Turns.put_back.Given as goal

abbrev pub ghosts-give_as : goal.ghosts-give_as
ghosts-give_as g a = record { tide = a.pass.now.tide }
