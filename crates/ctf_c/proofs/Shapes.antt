-- The shape of a looked-up type.
use Rattle.std.proofs.Common.{◌≡◌, Option, Some, None, Result, Ok, ap, sym}
use Rattle.std.specs.Option.{option_map}
use Rattle.std.proofs.lemmas.Option.{same_Some}
use Rattle.ctf_model.specs.declared.faults.Fault.{Fault}
use Rattle.ctf_model.specs.format.Shown.{Shape, shape}
use Rattle.ctf_model.specs.format.Term.{Term}
use Rattle.ctf_model.specs.opened.Questions.{shape_of}
use Rattle.ctf_model.specs.spaces.TypeNumbers.{or_no_type}

pub shape_there : (o : Option Term) (found : Result Term Fault) (s : Shape) → or_no_type o ≡ found → option_map (λ (x : Term). shape x.body) o ≡ Some s → Ok s ≡ shape_of found
shape_there None found s e h = absurd cc
shape_there (Some x) found s e h = rw (← e) (ap Ok (sym (same_Some _ _ h)))
