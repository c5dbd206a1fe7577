use Rattle.std.proofs.Common.{List, Result, length, sym, ap, ◌∙◌}
use Rattle.ctf_model.specs.format.Section.{Piece}
use Rattle.ctf_model.specs.declared.faults.Fault.{Fault}
use Rattle.ctf_chains.specs.Starts.{starts_in}
use Rattle.ctf_check.proofs.Order.{types_are}
use Rattle.ctf_check.proofs.faultless.findings.Goals as goal

pub record_starts-requires-clause-count : goal.record_starts-requires-clause-count
record_starts-requires-clause-count c = c.requires.count ∙ ap (λ (l : List (Result Piece Fault)). length l) (sym (types_are c.args.ctf.now c.bytes_in-types.result.now c.bytes_in-types.ensures.bytes))

pub returns-clause-starts : goal.returns-clause-starts
returns-clause-starts c = c.in_ok-starts.ensures ∙ ap starts_in (types_are c.args.ctf.now c.bytes_in-types.result.now c.bytes_in-types.ensures.bytes)
