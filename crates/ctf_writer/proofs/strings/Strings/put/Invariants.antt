use Rattle.std.proofs.Common.{◌≡◌, ◌≤◌, ◌++◌, ◌+◌, length, take, vec_capacity, vec_len}
use Rattle.std.specs.List.{flat_map}
use Rattle.ctf_model.specs.writing.WrittenNames.{closed_name}
use Rattle.ctf_writer.proofs.strings.Strings.put.Given as goal

abbrev pub invariant-loop-name : goal.invariant-loop-name
invariant-loop-name l = record {
  added : l.out.items ≡ (l.fn.out.items ++ l.self.before.now) ++ flat_map (λ name. closed_name name.now) (take l.name-index l.added);
  len : vec_len l.out ≡ vec_len l.fn.out + length l.self.before.now + length (flat_map (λ name. closed_name name.now) (take l.name-index l.added));
  capacity : vec_capacity l.fn.out ≤ vec_capacity l.out;
}
