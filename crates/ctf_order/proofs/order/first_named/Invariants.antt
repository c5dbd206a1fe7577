use Rattle.std.proofs.Common.{◌≡◌, drop}
use Rattle.ctf_order.specs.Naming.{naming}
use Rattle.ctf_order.specs.Searching.{first_of}
use Rattle.ctf_order.proofs.order.first_named.Given as goal

abbrev pub invariant-loop-one : goal.invariant-loop-one
invariant-loop-one l = first_of (naming l.texts) l.rank l.text l.entries ≡ first_of (naming l.texts) l.rank l.text (drop l.one-index l.entries)
