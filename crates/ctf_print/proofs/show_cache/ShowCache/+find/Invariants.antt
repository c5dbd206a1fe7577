use Rattle.ctf_print.proofs.show_cache.ShowCache.+find.Given as goal

abbrev pub decreases-find : goal.decreases-find
decreases-find l = l.most
