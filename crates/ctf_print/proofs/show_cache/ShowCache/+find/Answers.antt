use Rattle.ctf_print.proofs.Standings.{more_steps}
use Rattle.ctf_print.proofs.show_cache.ShowCache.+find.Goals as goal

pub keep-requires-2 : goal.keep-requires-2
keep-requires-2 t c =
    rw c.find-found.ensures.kept (more_steps c.args.self.now c.args.number.0 c.in-Some-next.next.0 c.find-found.result.number.0 c.find-found.result.steps c.in-Some-next.ensures c.find-found.ensures.stands)
