use Rattle.std.proofs.Common.{◌≡◌, map, drop}
use Rattle.ctf_command.specs.Argument.{all_arguments, argument_shown}
use Rattle.ctf_command.proofs.Words.{behind}
use Rattle.ctf_command.proofs.publications.all_wanted.Given as goal

abbrev pub invariant-loop-word : goal.invariant-loop-word
invariant-loop-word l =
    all_arguments (map (λ w. w.now) l.words) ≡ behind (map argument_shown l.all.items) (all_arguments (map (λ w. w.now) (drop l.word-index l.words)))
