-- The arguments in all words, split after some of them.
use Rattle.std.proofs.Common.{◌≡◌, List, [], ◌++◌, Option, Some, None, refl}
use Rattle.ctf_command.specs.Argument.{Argument}

-- some arguments before the others
abbrev pub behind : List Argument → Option (List Argument) → Option (List Argument)
behind front None = None
behind front (Some rest) = Some (front ++ rest)

pub behind_none : (rest : Option (List Argument)) → rest ≡ behind [] rest
behind_none None = refl
behind_none (Some rest) = refl
