use Rattle.ctf_layout.proofs.layout.Layout.build.Given as goal

-- the ledger is that of `blank`
abbrev pub ghosts-of_space : goal.ghosts-of_space
ghosts-of_space a = record { name = a.blank.name; parts = a.blank.parts }
