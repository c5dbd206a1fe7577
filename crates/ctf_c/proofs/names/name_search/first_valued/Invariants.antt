use Rattle.std.proofs.Common.{◌≡◌, drop, find}
use Rattle.std.specs.Ordering.{int_eq}
use Rattle.ctf_c.proofs.names.name_search.first_valued.Given as goal

abbrev pub invariant-loop-index : goal.invariant-loop-index
invariant-loop-index l = find (λ e. int_eq e.value l.value) (drop l.index l.enumerators) ≡ find (λ e. int_eq e.value l.value) l.enumerators
