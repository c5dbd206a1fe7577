use Rattle.std.proofs.Common.{◌≡◌, drop, find, bytes_eq}
use Rattle.ctf_c.proofs.names.name_search.first_named.Given as goal

abbrev pub invariant-loop-index : goal.invariant-loop-index
invariant-loop-index l = find (λ e. bytes_eq l.name e.name) (drop l.index l.enumerators) ≡ find (λ e. bytes_eq l.name e.name) l.enumerators
