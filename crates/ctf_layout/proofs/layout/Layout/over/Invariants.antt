use Rattle.ctf_layout.proofs.layout.Layout.over.Given as goal

-- the ledger is that of `blank`
abbrev pub ghosts-beside_shared : goal.ghosts-beside_shared
ghosts-beside_shared a = record { name = a.blank.name; parts = a.blank.parts }
