-- A type's content, from a look-up.
use Rattle.std.proofs.Common.{◌≡◌, Bool, Option, Some, None, Ok, sym, ap}
use Rattle.std.specs.Option.{option_map}
use Rattle.std.proofs.lemmas.Option.{same_Some}
use Rattle.ctf_model.specs.opened.Questions.{kind_answered, root_answered, on_shape, shape_of}
use Rattle.ctf_model.specs.format.Shown.{Shape, kind_of, shape}
use Rattle.ctf_model.specs.declared.kinds.Kind.{Kind}
use Rattle.ctf_model.specs.format.Term.{Term}
use Rattle.ctf_model.specs.spaces.TypeNumbers.{or_no_type}

pub shape_known : (o : Option Term) (k : Shape) → option_map (λ x. shape x.body) o ≡ Some k → Ok k ≡ shape_of (or_no_type o)
shape_known None k e = absurd cc
shape_known (Some x) k e = sym (ap (λ z. Ok z) (same_Some (shape x.body) k e))

pub root_known : (o : Option Term) (b : Bool) → option_map (λ x. x.root) o ≡ Some b → Ok b ≡ root_answered (or_no_type o)
root_known None b e = absurd cc
root_known (Some x) b e = sym (ap (λ z. Ok z) (same_Some x.root b e))

pub kind_known : (o : Option Term) (k : Kind) → option_map (λ x. kind_of x.body) o ≡ Some k → Ok k ≡ on_shape kind_answered (shape_of (or_no_type o))
kind_known None k e = absurd cc
kind_known (Some x) k e = sym (ap (λ z. Ok z) (same_Some (kind_of x.body) k e))
