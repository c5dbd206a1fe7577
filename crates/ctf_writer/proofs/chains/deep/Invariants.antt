use Rattle.ctf_writer.proofs.chains.deep.Given as goal

-- the ledger is that of `blank`
abbrev pub ghosts-deep_with : goal.ghosts-deep_with
ghosts-deep_with a = record { name = a.blank.name; parts = a.blank.parts }
