use Rattle.ctf_chains.proofs.first.first_deep_type.Given as goal

-- the ledger is the one of the blank
abbrev pub ghosts-first_deep_with : goal.ghosts-first_deep_with
ghosts-first_deep_with a = record { name = a.blank.name; parts = a.blank.parts }
