use Rattle.std.proofs.Common.{◌≡◌, map, drop, is_some}
use Rattle.ctf_command.specs.Argument.{all_arguments}
use Rattle.ctf_command.proofs.publications.are_wanted.Given as goal

abbrev pub invariant-loop-text : goal.invariant-loop-text
invariant-loop-text l =
    is_some (all_arguments (map (λ w. w.now) l.words)) ≡ is_some (all_arguments (map (λ w. w.now) (drop l.text-index l.words)))
