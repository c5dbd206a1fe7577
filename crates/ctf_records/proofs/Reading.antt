-- Reading record by record.
use Rattle.std.proofs.Common.{◌≡◌, ◌<◌, List, ◌∷◌, length, Some, Result, sym, subst, arith}
use Rattle.std.specs.Iterator.{MakesProgress, item_count}
use Rattle.ctf_model.specs.format.Section.{Piece}
use Rattle.ctf_model.specs.declared.faults.Fault.{Fault}

-- an iterator that returns an item makes progress
pub goes_first : (can : List (Result Piece Fault) → Type 0) → ((l : List (Result Piece Fault)) → can l) → {A : Type 0} (s t : List (Result Piece Fault)) (x : Result Piece Fault) (r : A) → s ≡ x ∷ t
    → MakesProgress can (item_count (λ rest. rest)) s (Some r) t
goes_first can always s t x r e = record {
  on = λ _. (always t, tt, subst (λ l. length t < length l) (sym e) (omega arith));
  keeps = always t;
  rests = λ _. tt;
}
