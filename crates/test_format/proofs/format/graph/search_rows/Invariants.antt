use Rattle.test_format.proofs.format.graph.search_rows.Given as goal

-- the ledger is that of `blank`
abbrev pub ghosts-searched_in : goal.ghosts-searched_in
ghosts-searched_in a = record { name = a.blank.name; parts = a.blank.parts }
