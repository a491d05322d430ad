use Rattle.switch_gate.proofs.gate.Gate.split.Given as goal

abbrev pub ghosts-cut : goal.ghosts-cut
ghosts-cut g a = record { parts = a.given }
