use Rattle.std.proofs.Common.{rules, arith}
use Rattle.std.proofs.lemmas.Grind.{common_steps}
use Rattle.json.specs.Word.{word}
use Rattle.ctf_json.proofs.words.word.Goals as goal

pub returns-then-c-eq116 : goal.returns-then-c-eq116
unfolding word
returns-then-c-eq116 c = first_of (search rules, grind (arith, common_steps))

pub returns-then-c-eq102 : goal.returns-then-c-eq102
unfolding word
returns-then-c-eq102 c = first_of (search rules, grind (arith, common_steps))

pub returns-then-c-eq110 : goal.returns-then-c-eq110
unfolding word
returns-then-c-eq110 c = first_of (search rules, grind (arith, common_steps))

pub returns-else-c-eq110 : goal.returns-else-c-eq110
unfolding word
returns-else-c-eq110 c = first_of (search rules, grind (arith, common_steps))
