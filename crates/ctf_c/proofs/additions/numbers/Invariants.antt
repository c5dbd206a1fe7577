use Rattle.std.proofs.Common.{◌≡◌, ◌≤◌, map, take, length, vec_len, vec_capacity}
use Rattle.ctf_draft.specs.TypeView.{number_of}
use Rattle.ctf_c.proofs.additions.numbers.Given as goal

abbrev pub invariant-loop-number : goal.invariant-loop-number
invariant-loop-number l = record {
  said : map number_of l.types.items ≡ take l.number-index l.numbers;
  len : vec_len l.types ≡ l.number-index;
  room : length l.numbers ≤ vec_capacity l.types;
}
