use Rattle.std.proofs.Common.{◌≡◌, ◌<◌, ◌^◌}
use Rattle.ctf_order.specs.Names.{hash_of_words}
use Rattle.ctf_order.proofs.comparing.words_hash.Given as goal

abbrev pub invariant-loop-word : goal.invariant-loop-word
invariant-loop-word l = record {
  below : l.hash < 2 ^ 32;
  is : l.hash ≡ hash_of_words l.name l.word;
}
