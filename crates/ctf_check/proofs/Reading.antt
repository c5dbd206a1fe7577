-- Reading record by record.
use Rattle.std.proofs.Common.{ℕ, zero, suc, ◌+◌, ◌≤◌, Bool, true, false, cond, eqb, drop, List, [], length, Option, Some, None, Result, arith}
use Rattle.ctf_model.specs.format.Section.{Piece, record_or_stop, walk, front_len}
use Rattle.ctf_model.specs.declared.faults.Fault.{Fault}

cond_len : (t : Bool) (xs : List (Result Piece Fault)) (n : ℕ) → length xs ≤ n → length (cond t [] xs) ≤ n
cond_len true xs n h = omega arith
cond_len false xs n h = h

step_len : (b : List ℕ) (index at : ℕ) (later : ℕ → List (Result Piece Fault)) (bound : ℕ) (r : Option ℕ) → ((n : ℕ) → length (later n) ≤ bound) → length (record_or_stop b index at later r) ≤ suc bound
step_len b index at later bound None h = omega arith
step_len b index at later bound (Some n) h = omega (arith, h n)

-- there are no more records than bytes
pub walk_len : (bound index at : ℕ) (b : List ℕ) → length (walk bound index at b) ≤ bound
unfolding walk
walk_len zero index at b = omega arith
walk_len (suc bound) index at b = cond_len (eqb (length b) 0) _ (suc bound) (step_len b index at _ bound (front_len b) (λ n. walk_len bound (index + 1) (at + n) (drop n b)))
