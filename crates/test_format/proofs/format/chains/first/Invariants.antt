use Rattle.test_format.proofs.format.chains.first.Given as goal

-- the ledger is that of `blank`
abbrev pub ghosts-count_ticks : goal.ghosts-count_ticks
ghosts-count_ticks a = record { name = a.blank.name; parts = a.blank.parts }
