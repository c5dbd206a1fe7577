-- Rows of arguments.
use Rattle.std.proofs.Common.{◌≡◌, ℕ, ◌-◌, ◌<◌, ◌≤◌, Bool, true, false, List, take, length, Some, refl, ap, ◌∙◌, arith}
use Rattle.std.specs.Prelude.{IfSome, slice_get}
use Rattle.std.proofs.lemmas.List.{get_or-take, length-take, take_all}
use Rattle.std.proofs.lemmas.Option.{get_or_from_slice_get, slice_get-get_or}
use Rattle.ctf_c.specs.ItemRows.{IsArgument}
use Rattle.ctf_model.specs.format.Shown.{is_variadic, named_arguments}

-- the row of one of the first arguments
pub taken_told : (args : List ℕ) (n k row : ℕ) → n ≤ length args → k < n → slice_get args k ≡ Some row → IfSome (slice_get (take n args) k) (λ t. IsArgument t row)
taken_told args n k row le lt is =
    let long : length (take n args) ≡ n = length-take n args ∙ omega (arith, le) in
    let there : slice_get (take n args) k ≡ Some row = slice_get-get_or (take n args) k 0 (omega (arith, long, lt)) ∙ ap Some (get_or-take n args k 0 lt ∙ get_or_from_slice_get args k row 0 is) in
    rw there refl

pub taken_length : (args : List ℕ) (n : ℕ) → n ≤ length args → length (take n args) ≡ n
taken_length args n le = length-take n args ∙ omega (arith, le)

-- the named arguments are the first ones
pub named_first : (args : List ℕ) → take (length (named_arguments args)) args ≡ named_arguments args
named_first args = at (is_variadic args) refl
  where
    at : (b : Bool) → is_variadic args ≡ b → take (length (named_arguments args)) args ≡ named_arguments args
    at true e = rw e (ap (λ (n : ℕ). take n args) (taken_length args (length args - 1) (omega arith)))
    at false e = rw e (take_all (length args) args (omega arith))

pub named_fewer : (args : List ℕ) → length (named_arguments args) ≤ length args
named_fewer args = at (is_variadic args) refl
  where
    at : (b : Bool) → is_variadic args ≡ b → length (named_arguments args) ≤ length args
    at true e = rw e (let n = taken_length args (length args - 1) (omega arith) in omega (arith, n))
    at false e = rw e (omega arith)
