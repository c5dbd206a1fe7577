use Rattle.std.proofs.Common.{◌≡◌, ◌-◌, length, take}
use Rattle.ctf_model.specs.names.Lookups.{base as base_of}
use Rattle.ctf_names.proofs.written.base.Given as goal

abbrev pub invariant-loop-behind : goal.invariant-loop-behind
invariant-loop-behind l = base_of l.text ≡ base_of (take (length l.text - l.behind) l.text)
