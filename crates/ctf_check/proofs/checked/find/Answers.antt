use Rattle.std.proofs.Common.{◌-◌, inl, inr, sym, ap, length, arith}
use Rattle.ctf_model.specs.format.Section.{records}
use Rattle.ctf_records.specs.RecordView.{piece}
use Rattle.ctf_chains.proofs.Begins.{starts_count}
use Rattle.ctf_check.proofs.Indexed.{found_numbered, none_numbered}
use Rattle.ctf_check.proofs.checked.find.Goals as goal

pub returns-then-index-eq0 : goal.returns-then-index-eq0
returns-then-index-eq0 c = sym (none_numbered c.args.types.now c.args.index c.requires.whole (inl (omega arith)))

pub returns-then-index-starts : goal.returns-then-index-starts
returns-then-index-starts c = sym (none_numbered c.args.types.now c.args.index c.requires.whole (inr (omega (arith, ap length c.requires.begin, starts_count (records c.args.types.now) c.requires.whole))))

pub returns : goal.returns
returns c = sym (found_numbered c.args.types.now c.args.index (c.args.index - 1) (piece c.record_started.result) c.requires.whole c.record_started.ensures (omega arith))
